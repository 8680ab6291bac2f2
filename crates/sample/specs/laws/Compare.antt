-- Laws of the comparison, in the forms that the code has.
use Rattle.std.specs.Prelude.{ℕ, zero, suc, ◌+◌, ◌*◌, ◌/◌, ◌≤◌, ◌<◌, ◌≡◌, refl, Bool, true, false, List, [], ◌∷◌, eqb, ℤ, pos, negsuc, length, get_or, drop}
use Rattle.std.proofs.Common.{sym, ap, ◌∙◌, not-suc-le-zero, le_of_suc-le-suc, div-mul-le_self, add-one, arith, eq-eqb, ne_eqb, lt-ltb, drop_of_length-le, to_z}
use Rattle.std.proofs.Common.{of_z, SFits, to_z-of_z}
use Rattle.std.proofs.Math.Decide.{ℕ_discrete}
use Rattle.std.specs.Int.{w32}
use Rattle.whole.specs.laws.Row.{passes}
use Rattle.whole.specs.laws.Tab.{row_in}
use Rattle.sample.specs.Compare.{part_of, one_if, same_z, holds_at, agreeing, place_of, row_same, rows_same}

pub one_most : (b : Bool) (r : ℕ) → r ≡ one_if b → r ≤ 1
unfolding one_if
one_most true r e = omega arith
one_most false r e = omega arith

-- past the end nothing is held; before it, what stands there
pub holds_past : (l : List ℤ) (i : ℕ) (x : ℤ) → length l ≤ i → false ≡ holds_at l i x
unfolding holds_at
holds_past [] i x h = refl
holds_past (y ∷ l) zero x h = absurd (not-suc-le-zero h)
holds_past (y ∷ l) (suc i) x h = holds_past l i x (le_of_suc-le-suc h)

holds_in : (l : List ℤ) (i : ℕ) (x : ℤ) → i < length l → same_z (get_or l i (pos 0)) x ≡ holds_at l i x
unfolding holds_at
holds_in [] i x h = absurd (not-suc-le-zero h)
holds_in (y ∷ l) zero x h = refl
holds_in (y ∷ l) (suc i) x h = holds_in l i x (le_of_suc-le-suc h)

same_refl : (x : ℤ) → true ≡ same_z x x
unfolding same_z
same_refl (pos n) = sym (eq-eqb n n refl)
same_refl (negsuc n) = sym (eq-eqb n n refl)

same_other : (x y : ℤ) → (x ≡ y → ⊥) → false ≡ same_z x y
unfolding same_z
same_other (pos a) (pos b) n = sym (ne_eqb a b (λ e. n (ap pos e)))
same_other (pos a) (negsuc b) n = refl
same_other (negsuc a) (pos b) n = refl
same_other (negsuc a) (negsuc b) n = sym (ne_eqb a b (λ e. n (ap negsuc e)))

-- two numbers of 32 bits are the same where their bits are
same_bits : (x y : ℤ) → SFits w32 x → SFits w32 y → Dec (of_z w32 x ≡ of_z w32 y) → eqb (of_z w32 x) (of_z w32 y) ≡ same_z x y
same_bits x y f g (yes e) =
    eq-eqb _ _ e ∙ same_refl x ∙ ap (same_z x) (sym (to_z-of_z f) ∙ ap (to_z w32) e ∙ to_z-of_z g)
same_bits x y f g (no n) = ne_eqb _ _ n ∙ same_other x y (λ e. n (ap (of_z w32) e))

pub holds_bits :
    (l : List ℤ) (i : ℕ) (x : ℤ)
    → i < length l
    → SFits w32 (get_or l i (pos 0))
    → SFits w32 x
    → eqb (of_z w32 (get_or l i (pos 0))) (of_z w32 x) ≡ holds_at l i x
holds_bits l i x h f g = same_bits _ x f g (ℕ_discrete _ _) ∙ holds_in l i x h

-- with nothing there are no places that agree
agree_nil : (l : List ℤ) (i : ℕ) → agreeing l (drop i []) ≡ 0
unfolding agreeing
agree_nil [] i = refl
agree_nil (x ∷ l) zero = refl
agree_nil (x ∷ l) (suc i) = refl

-- the places from i on: the one at i, and those behind it
agree_suc :
    (xs ys : List ℤ) (i : ℕ)
    → i < length xs
    → agreeing (drop i xs) (drop i ys) ≡ one_if (holds_at ys i (get_or xs i (pos 0))) + agreeing (drop (suc i) xs) (drop (suc i) ys)
unfolding agreeing holds_at one_if
agree_suc [] ys i h = absurd (not-suc-le-zero h)
agree_suc (x ∷ xs) [] i h = omega (arith, agree_nil (drop i (x ∷ xs)) i, agree_nil (drop (suc i) (x ∷ xs)) (suc i))
agree_suc (x ∷ xs) (y ∷ ys) zero h = refl
agree_suc (x ∷ xs) (y ∷ ys) (suc i) h = agree_suc xs ys i (le_of_suc-le-suc h)

-- one turn: as many agree in all as so far and from the next place on
pub agree_turn :
    (xs ys : List ℤ) (i same one all : ℕ)
    → i < length xs
    → one ≡ one_if (holds_at ys i (get_or xs i (pos 0)))
    → same + agreeing (drop i xs) (drop i ys) ≡ all
    → same + one + agreeing (drop (i + 1) xs) (drop (i + 1) ys) ≡ all
agree_turn xs ys i same one all h e p =
    let m = agree_suc xs ys i h in rw (add-one, e) (omega arith)

agree_none : (ys : List ℤ) → agreeing [] ys ≡ 0
unfolding agreeing
agree_none ys = refl

-- none is left
pub agree_end : (xs ys : List ℤ) (i same all : ℕ) → length xs ≤ i → same + agreeing (drop i xs) (drop i ys) ≡ all → same ≡ all
agree_end xs ys i same all h p =
    let e : agreeing (drop i xs) (drop i ys) ≡ 0 = ap (λ (l : List ℤ). agreeing l (drop i ys)) (drop_of_length-le xs h) ∙ agree_none (drop i ys) in
    omega arith

-- one row, in plain variables: b is its place, x and y what stands there and in the file
pub row_is :
    (rows got x y : List ℤ) (w a b r : ℕ)
    → a < length rows
    → b ≡ place_of (get_or rows a (pos 0))
    → x ≡ part_of got b w
    → y ≡ part_of rows (a + 1) w
    → r ≡ agreeing x y
    → eqb r w ≡ row_same rows got w a
unfolding row_same
row_is rows got x y w a b r h p q s e = passes _ _ _ _ (lt-ltb _ _ h) (cc)

-- a row lies within the file
pub row_within : (n k i : ℕ) → i < n / k → i * k + k ≤ n
row_within n k i h = omega (arith, row_in i (n / k) k h, div-mul-le_self n k)

-- one row more
pub rows_turn :
    (rows got : List ℤ) (w i same one : ℕ)
    → same ≡ rows_same rows got w i
    → one ≡ one_if (row_same rows got w (i * (w + 1)))
    → same + one ≡ rows_same rows got w (i + 1)
unfolding rows_same
rows_turn rows got w i same one p q = rw add-one (cc)

pub rows_none : (rows got : List ℤ) (w : ℕ) → 0 ≡ rows_same rows got w 0
unfolding rows_same
rows_none rows got w = refl
