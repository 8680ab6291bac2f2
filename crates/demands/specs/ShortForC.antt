-- Document 02, request Eleven, over the calls for C: "If the glass shows what a full frame of the old picture gives, then the short frame leaves it showing
-- what
-- a full frame of the new one would give, with the same quantisers, mode and session", said of xurbalenz_write_frame_short, xurbalenz_write_frame_sets and the
-- frame calls. laws/ShortForC proves it.
-- (01 is this project's scope document, 02 its change requests, 001 is MS-RDPRFX: README, "What 01 is".)
use Rattle.std.specs.Prelude.{ℕ, zero, suc, ◌*◌, ◌≤◌, ◌≡◌, List, length, take, Result, Ok, Err}
use Rattle.wire.specs.Refusal.{number_of, count_of, refusal_of}
use Rattle.whole.specs.Row.{◌⨟◌}
use Rattle.wire.specs.declared.Refusal.{Refusal}
use Rattle.session.specs.Header.{record_of}
use Rattle.frame_write.specs.Picked.{frame_picked}
use Rattle.frame_write.specs.Sets.{frame_over, arg_fault_over, send_fault_over}
use Rattle.frame_readback.specs.Request.{WriteFrameSets}
use Rattle.plan.specs.Answer.{plan_number}
use Rattle.short_write.specs.Answer.{short_count, short_answer}
use Rattle.short_write.specs.Short.{short_fault}
use Rattle.short_readback.specs.Request.{WriteShort, Shows}
use Rattle.panel.specs.Short.{sets_for}
use Rattle.panel.specs.laws.Cabinet.{over_told}
use Rattle.panel.specs.laws.Short.{short_told}
use Rattle.calls.specs.Calls.{CReadFrame, CWriteFrameSets, CWriteShort}

-- the answer with this number: the length of what was written, or the refusal
abbrev pub answer_for : ℕ → List ℕ → Result ℕ Refusal
answer_for zero bytes = Ok (length bytes)
answer_for (suc f) bytes = Err (refusal_of (suc f))

-- the call of the panel that it is: ten quantisers for Y, and ten for Cb and Cr
pub record Ten (luma chroma : List ℕ) : Type 0 where
  pub luma_ten : length luma ≡ 10
  pub chroma_ten : length chroma ≡ 10

abbrev pub as_short : (c : CWriteShort) → Ten c.luma c.chroma → WriteShort
as_short c t = record {
  width = c.width;
  height = c.height;
  mode = c.mode;
  quants = sets_for c.luma c.chroma;
  luma = t.luma_ten;
  chroma = t.chroma_ten;
  index = c.index;
  old = c.old;
  new = c.new;
  picks = c.picks;
  list = c.list;
  scratch = c.scratch;
  out = c.out;
  list' = c.list';
  scratch' = c.scratch';
  out' = c.out';
  answer =
      short_answer (short_fault c.width c.height c.mode (sets_for c.luma c.chroma) c.index c.old c.new c.picks (length c.list)
      (length c.scratch) (length c.out))
      (frame_picked c.index c.width c.height c.mode (sets_for c.luma c.chroma) c.new c.picks);
  promise =
      short_told c.width c.height c.mode c.luma c.chroma c.index c.old c.new c.picks c.list c.scratch c.out c.list'
      c.scratch' c.out' c.size c.number c.promise;
}

abbrev pub as_sets : (c : CWriteFrameSets) → Ten c.luma c.chroma → WriteFrameSets
as_sets c t = record {
  width = c.width;
  height = c.height;
  mode = c.mode;
  quants = sets_for c.luma c.chroma;
  luma = t.luma_ten;
  chroma = t.chroma_ten;
  index = c.index;
  pixels = c.pixels;
  list = c.list;
  scratch = c.scratch;
  out = c.out;
  list' = c.list';
  scratch' = c.scratch';
  out' = c.out';
  answer =
      answer_for (arg_fault_over c.width c.height c.mode (sets_for c.luma c.chroma) (length c.pixels) (length c.list) (length c.scratch)
      ⨟ send_fault_over c.index c.width c.height c.mode (sets_for c.luma c.chroma) c.pixels (length c.out))
      (frame_over c.index c.width c.height c.mode (sets_for c.luma c.chroma) c.pixels);
  promise =
      over_told c.width c.height c.mode (sets_for c.luma c.chroma) c.index c.pixels c.list c.scratch c.out c.list'
      c.scratch' c.out' c.size c.number c.promise;
}

-- a frame call with work lists of 4,096, in a session of our headers' size and mode on the glass whose words the picture has
pub record ReadWith (w h mode : ℕ) (m : List ℕ) (f : CReadFrame) : Type 0 where
  pub glass : f.word ≤ 1
  pub session : f.session ≡ record_of f.word 4 w h mode
  pub message : f.message ≡ m
  pub y_long : length f.y ≡ 4096
  pub cb_long : length f.cb ≡ 4096
  pub cr_long : length f.cr ≡ 4096
  pub scratch_long : length f.scratch ≡ 4096
  pub room : h * w ≤ length f.picture

-- a short frame, and a full frame of the new picture; each is read on the same picture, a and b, which shows the old one
pub record ShortAndFull (c : CWriteShort) (f : CWriteFrameSets) (a b : CReadFrame) : Type 0 where
  pub ten : Ten c.luma c.chroma
  pub short_done : c.number ≡ 0
  pub full_done : f.number ≡ 0
  pub same_width : f.width ≡ c.width
  pub same_height : f.height ≡ c.height
  pub same_mode : f.mode ≡ c.mode
  pub same_luma : f.luma ≡ c.luma
  pub same_chroma : f.chroma ≡ c.chroma
  pub the_new : f.pixels ≡ c.new
  pub short_read : ReadWith c.width c.height c.mode (take c.size c.out') a
  pub full_read : ReadWith c.width c.height c.mode (take f.size f.out') b
  pub same_word : b.word ≡ a.word
  pub same_picture : b.picture ≡ a.picture
  pub shows : Shows a.word c.old c.width c.height (sets_for c.luma c.chroma) a.picture

pub record ElevenForC : Type 0 where
  -- each of the two writers is the panel's own: its number and its length are that call's, so its request's page holds of it
  pub short_is :
      (c : CWriteShort) (t : Ten c.luma c.chroma) →
      (c.number ≡ plan_number (as_short c t).answer) × (c.size ≡ short_count (as_short c t).answer)
  pub sets_is :
      (c : CWriteFrameSets) (t : Ten c.luma c.chroma) →
      (c.number ≡ number_of (as_sets c t).answer) × (c.size ≡ count_of (as_sets c t).answer)
  -- the short frame leaves the picture that the full frame leaves, every word of it
  pub as_the_full : (c : CWriteShort) (f : CWriteFrameSets) (a b : CReadFrame) → ShortAndFull c f a b → a.picture' ≡ b.picture'
