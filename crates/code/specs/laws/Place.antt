-- Storing an element, in the code's forms: one lemma for each return.
use Prim.Native.Nat.{ℕ, ◌+◌, ◌-◌, ◌≤◌, ◌<◌, min}
use Rattle.std.specs.Prelude.{◌≡◌, List, ℤ, set}
use Rattle.std.proofs.Common.{◌∙◌, to_z, of_z, SFits, to_z-of_z}
use native.Mathlib.Omega.{arith}
use borrow.Author.Tests.{lt-ltb, le-ltb}
use Rattle.std.proofs.Math.ListN.{length, length-set}
use mir.Syntax.{w32}
use Rattle.whole.specs.Row.{◌⇒◌∣◌}
use Rattle.code.specs.declared.element.State.{State}
use Rattle.code.specs.declared.element.Element.{Element}
use Rattle.code.specs.declared.element.Element.TheVariants.{Zeros, One, Two}
use Rattle.code.specs.Fold.{unfold_z}
use Rattle.code.specs.Fill.{Fine, placed_of, stored_of}

-- a signed value that was stored is itself
pub same_bits : (x : ℤ) (v : ℕ) → SFits w32 x → x ≡ unfold_z v → to_z w32 (of_z w32 x) ≡ unfold_z v
same_bits x v f e = to_z-of_z f ∙ e

module _ (n i : ℕ) (e : Element) where
  pub fine_one : (z v : ℕ) (s : State) → e ≡ One z v s → Fine n i e → (i + z < n) × (v ≤ 65534)
  fine_one z v s q f = rw q at f

  pub fine_two : (a b : ℕ) (s : State) → e ≡ Two a b s → Fine n i e → (a ≤ 65534) × (i + 1 < n → b ≤ 65534)
  fine_two a b s q f = rw q at f

module _ (out : List ℤ) (i : ℕ) (e : Element) where
  pub place_zeros : (z : ℕ) (s : State) (j : ℕ) → e ≡ Zeros z s → j ≡ min (length out) (i + z) → ((j, s) ≡ placed_of (length out) i e) ×
      (out ≡ stored_of out i e)
  place_zeros z s j q p = (rw (q, p), rw q)

  pub place_one :
      (z v : ℕ) (s : State) (x : ℤ) → e ≡ One z v s → SFits w32 x → x ≡ unfold_z v →
      ((i + z + 1, s) ≡ placed_of (length out) i e) × (set out (i + z) (to_z w32 (of_z w32 x)) ≡ stored_of out i e)
  place_one z v s x q f p = (rw q, rw (q, same_bits x v f p))

  pub place_lone :
      (a b : ℕ) (s : State) (x : ℤ) → e ≡ Two a b s → i < length out → length out - i < 2 → SFits w32 x → x ≡ unfold_z a →
      ((length (set out i (to_z w32 (of_z w32 x))), s) ≡ placed_of (length out) i e) × (set out i (to_z w32 (of_z w32 x)) ≡ stored_of out i e)
  unfolding ◌⇒◌∣◌
  place_lone a b s x q l h f p =
      let m : length (set out i (to_z w32 (of_z w32 x))) ≡ min (length out) (i + 2) = length-set out i (to_z w32 (of_z w32 x)) ∙ omega arith in
      (rw (q, m), rw (q, same_bits x a f p, le-ltb (i + 1) (length out) (omega arith)))

  pub place_two :
      (a b : ℕ) (s : State) (x y : ℤ) → e ≡ Two a b s → 2 ≤ length out - i → SFits w32 x → x ≡ unfold_z a → SFits w32 y → y ≡ unfold_z b →
      ((i + 2, s) ≡ placed_of (length out) i e) × (set (set out i (to_z w32 (of_z w32 x))) (i + 1) (to_z w32 (of_z w32 y)) ≡ stored_of out i e)
  unfolding ◌⇒◌∣◌
  place_two a b s x y q h f p g r =
      let m : i + 2 ≡ min (length out) (i + 2) = omega arith in
      (rw (q, ← m), rw (q, same_bits x a f p, same_bits y b g r, lt-ltb (i + 1) (length out) (omega arith)))
