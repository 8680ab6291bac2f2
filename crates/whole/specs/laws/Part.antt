-- Parts of a list, place by place: what is lent as &xs[a..e], and the whole once a &mut part came back as ys.
-- Assumes nothing.
use Rattle.std.specs.Prelude.{◌≡◌, List, ◌++◌, ℕ, ◌+◌, ◌-◌, ◌≤◌, ◌<◌, ℤ, pos, length, take, drop}
use Rattle.std.proofs.Common.{sym, ◌∙◌, ap, subst, zero-le, arith, length-take, length-drop, length-append, get_or-take, get_or-drop, get_or-append-add}
use Rattle.std.proofs.Common.{length-take-le}
use Rattle.std.proofs.Math.Decide.{dec_lt}
use Rattle.std.proofs.Math.ListN.{get_or-append, get_or-eq_default}
use borrow.Rule.Slice.PartMut.{put_mid}
use Rattle.whole.specs.laws.Near.{Near}
use Rattle.whole.specs.Tab.{at}
use Rattle.whole.specs.laws.Tab.{AllNear}

module _ (xs : List ℤ) (a e : ℕ) (from : a ≤ e) (to : e ≤ length xs) where
  pub part_length : length (take (e - a) (drop a xs)) ≡ e - a
  part_length = simp (length-take, length-drop) (omega arith)

pub part_at : (xs : List ℤ) (a k i : ℕ) → i < k → at (take k (drop a xs)) i ≡ at xs (a + i)
part_at xs a k i h = rw (get_or-take, get_or-drop)

above : (xs : List ℤ) (a k i : ℕ) → k ≤ i → at (take k (drop a xs)) i ≡ pos 0
above xs a k i h = get_or-eq_default (take k (drop a xs)) (pos 0) (simp length-take (omega arith))

pub part_near : {B : ℕ} (xs : List ℤ) (a k : ℕ) → AllNear B xs → AllNear B (take k (drop a xs))
part_near {B} xs a k p = record { all = λ i. place i (dec_lt i k) }
  where
    place : (i : ℕ) → Dec (i < k) → Near B (at (take k (drop a xs)) i)
    place i (yes h) = subst (Near B) (sym (part_at xs a k i h)) (p.all (a + i))
    place i (no h) = subst (Near B) (sym (above xs a k i (omega arith))) (record { near = zero-le })

module _ (xs ys : List ℤ) (a k : ℕ) (fits : a + k ≤ length xs) (same : length ys ≡ k) where
  head : length (take a xs) ≡ a
  head = length-take-le a xs (omega arith)

  pub put_length : length (put_mid a k xs ys) ≡ length xs
  put_length = simp (length-append, length-take, length-drop) (omega arith)

  pub put_below : (i : ℕ) → i < a → at (put_mid a k xs ys) i ≡ at xs i
  put_below i h = get_or-append (take a xs) _ (pos 0) i (omega (arith, head)) ∙ get_or-take a xs i (pos 0) h

  pub put_in : (i : ℕ) → i < k → at (put_mid a k xs ys) (a + i) ≡ at ys i
  put_in i h =
      ap (λ (m : ℕ). at (put_mid a k xs ys) (m + i)) (sym head)
      ∙ get_or-append-add (take a xs) _ i (pos 0)
      ∙ get_or-append ys _ (pos 0) i (omega arith)

  pub put_above : (i : ℕ) → at (put_mid a k xs ys) (a + (k + i)) ≡ at xs (a + (k + i))
  put_above i =
      ap (λ (m : ℕ). at (put_mid a k xs ys) (m + (k + i))) (sym head)
      ∙ get_or-append-add (take a xs) _ (k + i) (pos 0)
      ∙ ap (λ (m : ℕ). at (ys ++ drop k (drop a xs)) (m + i)) (sym same)
      ∙ get_or-append-add ys _ i (pos 0)
      ∙ get_or-drop k (drop a xs) i (pos 0)
      ∙ get_or-drop a xs (k + i) (pos 0)
