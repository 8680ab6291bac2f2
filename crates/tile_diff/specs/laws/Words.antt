-- Words of bytes.
use Rattle.std.specs.Prelude.{ℕ, zero, suc, ◌+◌, ◌*◌, ◌/◌, ◌≤◌, ◌<◌, ◌≡◌, refl, List, [], ◌∷◌, length, get_or, Bool, true, false, not, eqb, map}
use Rattle.std.proofs.Common.{ap, sym, ◌∙◌, arith}
use Rattle.std.proofs.lemmas.List.{get_or-map}
use Rattle.whole.specs.Row.{◌⇒◌∣◌}
use Rattle.wire.specs.Le.{le16}
use Rattle.tile_diff.specs.Tiles.{words_of, not_same}

pub words_length : (m : List ℕ) → length (words_of m) ≡ length m / 2
unfolding words_of
words_length [] = refl
words_length (a ∷ []) = refl
words_length (a ∷ b ∷ m) = omega (arith, words_length m)

pub word_at : (m : List ℕ) (i : ℕ) → 2 * i + 2 ≤ length m → get_or (words_of m) i 0 ≡ le16 m (2 * i)
unfolding words_of le16
word_at [] i h = absurd (omega arith)
word_at (a ∷ []) i h = absurd (omega arith)
word_at (a ∷ b ∷ m) zero h = refl
word_at (a ∷ b ∷ m) (suc i) h =
    let e : 2 * suc i ≡ suc (suc (2 * i)) = omega arith in
    let f : suc (suc (2 * i)) + 1 ≡ suc (suc (2 * i + 1)) = omega arith in
    let l : 2 * i + 2 ≤ length m = omega arith in
    word_at m i l
    ∙ ap (λ (k : ℕ). get_or (a ∷ b ∷ m) (suc (suc (2 * i))) 0 + 256 * get_or (a ∷ b ∷ m) k 0) (sym f)
    ∙ ap (λ (k : ℕ). get_or (a ∷ b ∷ m) k 0 + 256 * get_or (a ∷ b ∷ m) (k + 1) 0) (sym e)

-- how many words there are, by the bytes
pub few : (w : ℕ) (m : List ℕ) → length m / 2 < w → length (words_of m) < w
few w m h = omega (arith, words_length m)

pub many : (w : ℕ) (m : List ℕ) → w ≤ length m / 2 → w ≤ length (words_of m)
many w m h = omega (arith, words_length m)

-- words of any size, compared as a program compares them, where it says the same of words as of their numbers
pub words_differ :
    {W : Type 0} (number : W → ℕ) (eq : W → W → Bool)
    → ((a b : W) → eq a b ≡ eqb (number a) (number b))
    → (ps qs : List W) (i : ℕ) (p q : W)
    → i < length ps
    → i < length qs
    → p ≡ get_or ps i p
    → q ≡ get_or qs i q
    → not (eq p q) ≡ not_same (get_or (map number ps) i 0) (get_or (map number qs) i 0)
unfolding not_same ◌⇒◌∣◌
words_differ number eq same ps qs i p q l m e f =
    rw (get_or-map number ps i p 0 l, get_or-map number qs i q 0 m, ← e, ← f, same p q) (by (eqb (number p) (number q)))
  where
    by : (b : Bool) → not b ≡ (b ⇒ false ∣ true)
    by true = refl
    by false = refl
