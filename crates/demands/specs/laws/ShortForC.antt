-- Request Eleven over the calls for C: each of them is one of the panel's (`as_short`, `as_sets`, `as_frame`), so `as_the_full` of its page holds of it.
use Rattle.std.specs.Prelude.{ℕ, ◌≡◌, refl, List, length, take}
use Rattle.wire.specs.Refusal.{number_of, count_of}
use Rattle.std.proofs.Common.{ap, ap₂, sym, ◌∙◌}
use Rattle.plan.specs.Answer.{plan_number}
use Rattle.short_write.specs.Answer.{short_count}
use Rattle.short_readback.specs.Request.{ReadOn, FullFrame}
use Rattle.short_readback.specs.laws.Request.{request_eleven_frames}
use Rattle.panel.specs.Short.{sets_for}
use Rattle.calls.specs.Calls.{CReadFrame, as_frame, CWriteFrameSets, CWriteShort}
use Rattle.demands.specs.ShortForC.{Ten, as_short, as_sets, ReadWith, ShortAndFull, ElevenForC}

short_is : (c : CWriteShort) (t : Ten c.luma c.chroma) →
    (c.number ≡ plan_number (as_short c t).answer) × (c.size ≡ short_count (as_short c t).answer)
short_is c t =
    let w = (as_short c t).promise.wrote in
    (c.promise.wrote.number ∙ sym w.number, c.promise.wrote.long ∙ sym w.said)

sets_is : (c : CWriteFrameSets) (t : Ten c.luma c.chroma) →
    (c.number ≡ number_of (as_sets c t).answer) × (c.size ≡ count_of (as_sets c t).answer)
sets_is c t =
    let w = (as_sets c t).promise.wrote in
    (c.promise.wrote.number ∙ sym w.number, c.promise.wrote.long ∙ sym w.said)

-- a frame call on a picture of this glass, on a message that is this
read_on : (glass w h mode : ℕ) (m n pic : List ℕ) (f : CReadFrame) → ReadWith w h mode m f → f.word ≡ glass → m ≡ n → f.picture ≡ pic →
    ReadOn glass w h mode n pic f.picture' (as_frame f).answer
read_on glass w h mode m n pic f r g e p = record {
  y = f.y;
  cb = f.cb;
  cr = f.cr;
  scratch = f.scratch;
  y' = f.y';
  cb' = f.cb';
  cr' = f.cr';
  scratch' = f.scratch';
  y_long = r.y_long;
  cb_long = r.cb_long;
  cr_long = r.cr_long;
  scratch_long = r.scratch_long;
  room = rw (sym p) r.room;
  promise = rw (sym g, sym r.session, sym (r.message ∙ e), sym p) f.promise.lists;
}

module _ (c : CWriteShort) (f : CWriteFrameSets) (a b : CReadFrame) (o : ShortAndFull c f a b) where
  full_ten : Ten f.luma f.chroma
  full_ten = record { luma_ten = ap length o.same_luma ∙ o.ten.luma_ten; chroma_ten = ap length o.same_chroma ∙ o.ten.chroma_ten }

  full : FullFrame (as_short c o.ten) c.new (as_sets f full_ten)
  full = record {
    width = o.same_width;
    height = o.same_height;
    mode = o.same_mode;
    quants = ap₂ sets_for o.same_luma o.same_chroma;
    picture = o.the_new;
    is_done = sym (sets_is f full_ten).0 ∙ o.full_done;
  }

  as_the_full : a.picture' ≡ b.picture'
  as_the_full =
      request_eleven_frames.as_the_full a.word o.short_read.glass (as_short c o.ten) (as_sets f full_ten)
      (sym (short_is c o.ten).0 ∙ o.short_done) full a.picture a.picture' b.picture' (as_frame a).answer (as_frame b).answer o.shows
      (read_on a.word c.width c.height c.mode (take c.size c.out') _ a.picture a o.short_read refl
      (ap (λ (n : ℕ). take n c.out') (short_is c o.ten).1) refl)
      (read_on a.word c.width c.height c.mode (take f.size f.out') _ a.picture b o.full_read o.same_word
      (ap (λ (n : ℕ). take n f.out') (sets_is f full_ten).1) o.same_picture)

pub eleven_for_c : ElevenForC
eleven_for_c = record { short_is = short_is; sets_is = sets_is; as_the_full = as_the_full }
