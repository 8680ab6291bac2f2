-- The short frame and a full frame of the new picture leave the same picture: in the channel both show the new one, and past it both keep what was there.
-- Assumes nothing.
use Rattle.std.specs.Prelude.{ℕ, zero, suc, ◌*◌, ◌/◌, ◌%◌, ◌≤◌, ◌<◌, ◌≡◌, refl, Bool, true, false, List, ltb, length, get_or, Result}
use Rattle.wire.specs.declared.Refusal.{Refusal}
use Rattle.plan.specs.Answer.{plan_number}
use Rattle.std.proofs.Common.{sym, ◌∙◌, subst, arith, div-add-mod', div-lt_iff_lt-mul, mod-lt, ltb-true, ltb-false, ext_get_or}
use Rattle.quants.specs.declared.Quants.{Quants}
use Rattle.frame_readback.specs.Own.{ShownOver}
use Rattle.frame_readback.specs.Request.{WriteFrameSets}
use Rattle.frame_readback.specs.laws.OurFrames.{own_frame_over}
use Rattle.short_readback.specs.Request.{WriteShort, Shows, ShortShown, ReadOn, FullFrame, sent_full, sent_short}
use Rattle.short_readback.specs.laws.Shows.{leaves_showing}

some_width : (i h w : ℕ) → i < h * w → 0 < w
some_width i h zero l = absurd (omega arith)
some_width i h (suc w) l = omega arith

-- two pictures that show the same, and keep the same past the channel
module _ (glass : ℕ) (p : List ℕ) (w h : ℕ) (q : Quants) (n : ℕ) (pic a b : List ℕ) (r s : Result ℕ Refusal)
    (x : ShownOver glass p w h q pic a r) (y : ShortShown glass p w h q n pic b s) where
  in_channel : (i : ℕ) → i < h * w → get_or a i 0 ≡ get_or b i 0
  in_channel i l =
      let some : 0 < w = some_width i h w l in
      subst (λ (j : ℕ). get_or a j 0 ≡ get_or b j 0) (div-add-mod' i w)
      (x.word (i % w) (i / w) (mod-lt i some) ((div-lt_iff_lt-mul some).1 l)
      ∙ sym (y.shows (i % w) (i / w) (mod-lt i some) ((div-lt_iff_lt-mul some).1 l)))

  each : (i : ℕ) (t : Bool) → ltb i (h * w) ≡ t → get_or a i 0 ≡ get_or b i 0
  each i true e = in_channel i (ltb-true i (h * w) e)
  each i false e = let l = ltb-false i (h * w) e in x.past i l ∙ sym (y.past i l)

  same_picture : a ≡ b
  same_picture = ext_get_or 0 a b (x.long ∙ sym y.long) (λ i l. each i (ltb i (h * w)) refl)

-- ---- over the calls

module _ (glass : ℕ) (either : glass ≤ 1) (c : WriteShort) where
  -- what a full frame leaves
  full_shown :
      (f : WriteFrameSets) (pixels : List ℕ) → FullFrame c pixels f → (pic pic' : List ℕ) (r : Result ℕ Refusal) →
      ReadOn glass c.width c.height c.mode (sent_full f) pic pic' r → ShownOver glass pixels c.width c.height c.quants pic pic' r
  full_shown f pixels o pic pic' r d =
      let e : ReadOn glass f.width f.height f.mode (sent_full f) pic pic' r = rw (o.width, o.height, o.mode) d in
      let x = own_frame_over glass f.width f.height f.mode either f.quants f.index f.pixels f.list f.list' f.scratch f.scratch'
      f.out f.out' f.answer f.luma f.chroma f.promise o.is_done pic e.y e.cb e.cr e.scratch pic' e.y' e.cb' e.cr'
      e.scratch' r e.y_long e.cb_long e.cr_long e.scratch_long e.room e.promise in
      rw (o.width, o.height, o.quants, o.picture) at x

  pub full_shows :
      (f : WriteFrameSets) → FullFrame c c.old f → (pic pic' : List ℕ) (r : Result ℕ Refusal) →
      ReadOn glass c.width c.height c.mode (sent_full f) pic pic' r → Shows glass c.old c.width c.height c.quants pic'
  full_shows f o pic pic' r d = (full_shown f c.old o pic pic' r d).word

  pub as_the_full :
      (f : WriteFrameSets) → plan_number c.answer ≡ 0 → FullFrame c c.new f → (pic a b : List ℕ) (r s : Result ℕ Refusal) →
      Shows glass c.old c.width c.height c.quants pic → ReadOn glass c.width c.height c.mode (sent_short c) pic a r →
      ReadOn glass c.width c.height c.mode (sent_full f) pic b s → a ≡ b
  as_the_full f e o pic a b r s shows d g =
      let x = full_shown f c.new o pic b s g in
      let y = leaves_showing c e glass either pic d.y d.cb d.cr d.scratch a d.y' d.cb' d.cr' d.scratch' r d.y_long d.cb_long
      d.cr_long d.scratch_long d.room d.promise shows in
      sym (same_picture glass c.new c.width c.height c.quants (length c.picks) pic b a s r x y)
