-- All tiles listed: the check takes the list, and the short frame's writer keeps the full frame's promise.
-- Assumes nothing.
use Rattle.std.specs.Prelude.{ℕ, zero, suc, ◌+◌, ◌*◌, ◌<◌, ◌≡◌, refl, true, List, [], ℤ, length, get_or, Result}
use Rattle.wire.specs.declared.Refusal.{Refusal}
use Rattle.short_write.specs.Answer.{handed, WroteShort}
use Rattle.short_write.specs.laws.Answer.{wrote_common}
use Rattle.frame_write.specs.laws.Numbers.{fault_few}
use Rattle.plan.specs.declared.check.PlanRefusal.{PlanRefusal}
use Rattle.std.proofs.Common.{ap, sym, ◌∙◌, subst, arith}
use Rattle.std.proofs.Math.Path.{ap₂}
use Rattle.std.proofs.Math.Nat.{zero-add}
use Rattle.whole.specs.Row.{◌!◌⨾◌, ◌⨟◌}
use Rattle.whole.specs.laws.Row.{held, passes, goes_on}
use Rattle.wire.specs.Mode.{is_mode}
use Rattle.session.specs.Header.{size_good}
use Rattle.quants.specs.Quants.{sets_of, chroma_index}
use Rattle.quants.specs.declared.Quants.{Quants}
use Rattle.frame_layout.specs.Bytes.{tiles_of}
use Rattle.frame_pieces.specs.Parts.{tiles_no, pixels_good}
use Rattle.frame_pieces.specs.laws.Parts.{frame_long, count_is, tens_of}
use Rattle.frame_write.specs.FrameWrite.{work_left}
use Rattle.frame_write.specs.Sets.{good_sets, frame_over, arg_fault_over, send_fault_over, FrameWrittenOver}
use Rattle.frame_write.specs.Picked.{frame_picked, send_fault_picked, all_tiles}
use Rattle.frame_write.specs.laws.Picked.{all_long, all_at, all_frame, all_send}
use Rattle.plan.specs.Plan.{picks_fault}
use Rattle.plan.specs.Facts.{StrictlyRising, AllExist, AllListed}
use Rattle.plan.specs.laws.Lists.{is-listed}
use Rattle.plan.specs.laws.Request.{list_good}
use Rattle.short_write.specs.Short.{own_fault, short_fault, ShortWritten}

-- ---- the list of all tiles is one that the check takes

module _ (w h : ℕ) where
  long : length (all_tiles w h) ≡ tiles_no w h
  unfolding all_tiles
  long = all_long (tiles_no w h) 0

  at : (i : ℕ) → i < tiles_no w h → get_or (all_tiles w h) i 0 ≡ i
  unfolding all_tiles
  at i l = all_at (tiles_no w h) 0 i l ∙ zero-add i

  rises : StrictlyRising (all_tiles w h)
  rises i l = omega (arith, at i (omega (arith, long)), at (i + 1) (omega (arith, long)))

  exist : AllExist (tiles_no w h) (all_tiles w h)
  exist i l = omega (arith, at i (omega (arith, long)), long)

  all : (old new : List ℕ) → AllListed old new w h (all_tiles w h)
  all old new k l f = is-listed k (all_tiles w h) k (omega (arith, long)) (at k l)

  pub all_taken : (old new : List ℕ) → 0 ≡ picks_fault old new w h (all_tiles w h)
  all_taken old new = list_good w h old new (all_tiles w h) rises exist (all old new)

-- ---- the old picture as long as the new one: nothing of its own is refused besides what the full frame's writer refuses

pixels_judged : (w h mode : ℕ) (q : Quants) (pixels list scratch : ℕ) → 0 ≡ arg_fault_over w h mode q pixels list scratch → pixels_good w h pixels ≡ true
unfolding arg_fault_over
pixels_judged w h mode q pixels list scratch e =
    let a = held (size_good w h) 5 _ 0 (λ z. omega arith) e in
    let b = held (is_mode mode) 5 _ 0 (λ z. omega arith) a.1 in
    let c = held (good_sets q) 7 _ 0 (λ z. omega arith) b.1 in
    (held (pixels_good w h pixels) 2 _ 0 (λ z. omega arith) c.1).0

own_same : (w h mode : ℕ) (q : Quants) (pixels list scratch : ℕ) → own_fault w h mode q pixels pixels list scratch ≡ arg_fault_over w h mode q pixels list
    scratch
unfolding own_fault ◌⨟◌
own_same w h mode q pixels list scratch = by (arg_fault_over w h mode q pixels list scratch) refl
  where
    by : (f : ℕ) → arg_fault_over w h mode q pixels list scratch ≡ f → (f ⨟ (pixels_good w h pixels ! 2 ⨾ 0)) ≡ f
    by zero e = sym (passes _ _ _ _ (pixels_judged w h mode q pixels list scratch (sym e)) refl)
    by (suc f) e = refl

-- ---- the promise

module _ (w h mode : ℕ) (q : Quants) (index : ℕ) (old new : List ℕ) (list list' scratch scratch' : List ℤ) (out out' : List ℕ) (r : Result ℕ PlanRefusal)
    (same : length old ≡ length new) where
  own_is : own_fault w h mode q (length old) (length new) (length list) (length scratch) ≡ arg_fault_over w h mode q (length new) (length list) (length scratch)
  own_is =
      ap (λ (n : ℕ). own_fault w h mode q n (length new) (length list) (length scratch)) same ∙ own_same w h mode q (length new) (length list) (length scratch)

  later_is :
      (picks_fault old new w h (all_tiles w h) ⨟ send_fault_picked index w h mode q new (all_tiles w h) (length out))
      ≡ send_fault_over index w h mode q new (length out)
  later_is = sym (goes_on _ _ _ (sym (all_taken w h old new)) refl) ∙ all_send new w h mode q index (length out)

  faults_are : short_fault w h mode q index old new (all_tiles w h) (length list) (length scratch) (length out)
      ≡ (arg_fault_over w h mode q (length new) (length list) (length scratch) ⨟ send_fault_over index w h mode q new (length out))
  unfolding short_fault
  faults_are = ap₂ ◌⨟◌ own_is later_is

  pub as_full : ShortWritten w h mode q index old new (all_tiles w h) list list' scratch scratch' out out' r →
      (answer : Result ℕ Refusal) × (r ≡ handed answer) × FrameWrittenOver w h mode q index new list list' scratch scratch' out out' answer
  as_full x =
      let s =
      subst (λ (f : ℕ). WroteShort f (frame_over index w h mode q new) out out' r) faults_are
      (subst
      (λ (bytes : List ℕ). WroteShort (short_fault w h mode q index old new (all_tiles w h) (length list) (length scratch) (length out)) bytes out out' r)
      (all_frame new w h mode q index) x.wrote) in
      let k = wrote_common _ _ _ _ _ (fault_few w h mode q index new (length list) (length scratch) (length out)) s in (
        k.0,
        k.1,
        record {
          wrote = k.2;
          first = x.first ∙ ap (λ (f : ℕ). work_left f list) own_is;
          second = x.second ∙ ap (λ (f : ℕ). work_left f scratch) own_is;
        },
      )

-- ---- no tile listed

pub no_tiles : (index w h mode : ℕ) (q : Quants) (p : List ℕ) → length q.luma.v ≡ 10 → length q.chroma.v ≡ 10 →
    length (frame_picked index w h mode q p []) ≡ 72 + 5 * chroma_index q
unfolding frame_picked tiles_of
no_tiles index w h mode q p l k =
    frame_long index w h mode (sets_of q) 0 (tens_of q l k) _ ∙ omega (arith, count_is q l k)
