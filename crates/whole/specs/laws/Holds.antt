-- A list that stands in another from place m on, and one that is made of grids. No codec in it.
use Rattle.std.specs.Prelude.{◌≡◌, List, ◌++◌, ℕ, zero, ◌+◌, ◌*◌, ◌-◌, ◌/◌, ◌%◌, ◌<◌, ℤ, pos, length}
use Rattle.std.proofs.Common.{sym, ◌∙◌, ap, subst, div-add-mod', div-lt_iff_lt-mul, mod-lt, arith, length-append, get_or-append-add, ext_get_or}
use Rattle.std.proofs.Math.Decide.{dec_lt}
use Rattle.std.proofs.Math.ListN.{get_or-append}
use Rattle.whole.specs.Tab.{at, grid}
use Rattle.whole.specs.laws.Tab.{at_grid, length_grid, row_in}

-- xs stands in l from place m on
pub record Holds (l : List ℤ) (m : ℕ) (xs : List ℤ) : Type 0 where
  pub holds : (k : ℕ) → k < length xs → at l (m + k) ≡ at xs k

pub holds_grid :
    (l : List ℤ) (m h W : ℕ) (f : ℕ → ℕ → ℤ) → zero < W → ((y : ℕ) → y < h → (x : ℕ) → x < W → at l (m + (y * W + x)) ≡ f y x) → Holds l m (grid h W f)
holds_grid l m h W f w p = record { holds = λ k q. place k (subst (λ (n : ℕ). k < n) (length_grid h W f) q) }
  where
    place : (k : ℕ) → k < h * W → at l (m + k) ≡ at (grid h W f) k
    place k q =
        let y : k / W < h = (div-lt_iff_lt-mul w).1 q in
        let x : k % W < W = mod-lt k w in
        ap (λ (i : ℕ). at l (m + i)) (sym (div-add-mod' k W)) ∙ p (k / W) y (k % W) x ∙ sym (at_grid h W f (k / W) (k % W) y x)
        ∙ ap (at (grid h W f)) (div-add-mod' k W)

pub holds_append : (l : List ℤ) (m n : ℕ) (xs ys : List ℤ) → n ≡ m + length xs → Holds l m xs → Holds l n ys → Holds l m (xs ++ ys)
holds_append l m n xs ys e p q = record { holds = λ k h. place k (subst (λ (i : ℕ). k < i) (length-append xs ys) h) (dec_lt k (length xs)) }
  where
    place : (k : ℕ) → k < length xs + length ys → Dec (k < length xs) → at l (m + k) ≡ at (xs ++ ys) k
    place k h (yes a) = p.holds k a ∙ sym (get_or-append xs ys (pos 0) k a)
    place k h (no a) =
        let i : m + k ≡ n + (k - length xs) = omega arith in
        let j : length xs + (k - length xs) ≡ k = omega arith in
        ap (at l) i ∙ q.holds (k - length xs) (omega arith) ∙ sym (get_or-append-add xs ys (k - length xs) (pos 0)) ∙ ap (at (xs ++ ys)) j

-- from the first place on, and as long: it is the list
pub holds_all : (l xs : List ℤ) → length l ≡ length xs → Holds l 0 xs → l ≡ xs
holds_all l xs e p = ext_get_or (pos 0) l xs e (λ i k. let z : i ≡ 0 + i = omega arith in ap (at l) z ∙ p.holds i (subst (λ (n : ℕ). i < n) e k))

-- a row of the upper and of the lower of two grids
pub upper_at : (n W : ℕ) (f g : ℕ → ℕ → ℤ) (r : ℕ) → r < n → (x : ℕ) → x < W → at (grid n W f ++ grid n W g) (r * W + x) ≡ f r x
upper_at n W f g r h x j =
    get_or-append (grid n W f) (grid n W g) (pos 0) (r * W + x) (omega (arith, length_grid n W f, row_in r n W h)) ∙ at_grid n W f r x h j

pub lower_at : (n W : ℕ) (f g : ℕ → ℕ → ℤ) (r : ℕ) → r < n → (x : ℕ) → x < W → at (grid n W f ++ grid n W g) (n * W + r * W + x) ≡ g r x
lower_at n W f g r h x j =
    ap (at (grid n W f ++ grid n W g)) (omega (arith, length_grid n W f)) ∙ get_or-append-add (grid n W f) (grid n W g) (r * W + x) (pos 0)
    ∙ at_grid n W g r x h j
