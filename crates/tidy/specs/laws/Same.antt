-- Two lists of bytes are the same list exactly if they are the same byte for byte.
use Rattle.std.specs.Prelude.{ℕ, suc, ◌+◌, ◌<◌, ◌≤◌, ◌≡◌, Bool, true, false, ◌&&◌, List, [], ◌∷◌, length, get_or, drop, eqb}
use Rattle.std.proofs.Math.Path.{refl}
use Rattle.std.proofs.Common.{ap, sym, ◌∙◌, drop_of_length-le, eq-eqb, ne_eqb}
use Rattle.std.proofs.Math.Numerals.{add-one}
use Rattle.std.proofs.Math.Seq.{drop-cons}
use lib.Pointwise.{pointwise}
use Rattle.whole.specs.Row.{◌!◌⨾◌}
use Rattle.whole.specs.laws.Row.{passes, fails}
use Rattle.tidy.specs.Tidy.{same_bytes}

and_row : (t b : Bool) → (t && b) ≡ (t ! false ⨾ b)
unfolding ◌!◌⨾◌
and_row true b = refl
and_row false b = refl

pub same_by : (a b : List ℕ) → pointwise eqb a b ≡ same_bytes a b
unfolding same_bytes
same_by [] [] = refl
same_by [] (y ∷ b) = refl
same_by (x ∷ a) [] = refl
same_by (x ∷ a) (y ∷ b) = ap (λ (t : Bool). eqb x y && t) (same_by a b) ∙ and_row (eqb x y) _

-- ---- compared place by place

kept : (t b : Bool) → false ≡ b → false ≡ (t ! false ⨾ b)
unfolding ◌!◌⨾◌
kept true b e = e
kept false b e = refl

pub other_length : (a b : List ℕ) → (length a ≡ length b → ⊥) → false ≡ same_bytes a b
unfolding same_bytes
other_length [] [] h = absurd (h refl)
other_length [] (y ∷ b) h = refl
other_length (x ∷ a) [] h = refl
other_length (x ∷ a) (y ∷ b) h = kept (eqb x y) _ (other_length a b (λ e. h (ap suc e)))

module _ (a b : List ℕ) (i : ℕ) (l : i < length a) (r : i < length b) where
  parts : same_bytes (drop i a) (drop i b) ≡ (eqb (get_or a i 0) (get_or b i 0) ! false ⨾ same_bytes (drop (i + 1) a) (drop (i + 1) b))
  unfolding same_bytes
  parts = rw (drop-cons a i 0 l, drop-cons b i 0 r, add-one i) refl

  pub differ : (get_or a i 0 ≡ get_or b i 0 → ⊥) → false ≡ same_bytes (drop i a) (drop i b)
  differ h = fails _ _ _ _ (ne_eqb _ _ h) refl ∙ sym parts

  pub agree : get_or a i 0 ≡ get_or b i 0 → same_bytes (drop i a) (drop i b) ≡ same_bytes (drop (i + 1) a) (drop (i + 1) b)
  agree e = parts ∙ sym (passes _ _ _ _ (eq-eqb _ _ e) refl)

pub all_same : (a b : List ℕ) (i : ℕ) → length a ≤ i → length b ≤ i → true ≡ same_bytes (drop i a) (drop i b)
unfolding same_bytes
all_same a b i l r = rw (drop_of_length-le a l, drop_of_length-le b r) refl
