-- A list of signed numbers, read by its places and written out from a function of them.
-- Assumes nothing.
use Rattle.std.specs.Prelude.{◌≡◌, refl, ◌≢◌, List, ℕ, zero, suc, ◌+◌, ◌*◌, ◌/◌, ◌%◌, ◌≤◌, ◌<◌, ℤ, pos, length}
use Rattle.std.proofs.Common.{sym, ◌∙◌, ap, subst, zero-le, le_of_suc-le-suc, not-suc-le-zero, mul-le-mul_right, div-add-mod', div-lt_iff_lt-mul, mod-lt, arith}
use Rattle.std.proofs.Common.{ext_get_or}
use Rattle.std.proofs.Math.Decide.{dec_lt}
use Rattle.std.proofs.Math.Arith.{digits_div, digits_mod}
use Rattle.std.proofs.Math.ListN.{get_or-eq_default}
use Rattle.whole.specs.laws.Near.{Near}
use Rattle.whole.specs.Tab.{at, table, grid}

pub length_tab : (n : ℕ) (f : ℕ → ℤ) → length (table n f) ≡ n
unfolding table
length_tab zero f = refl
length_tab (suc n) f = ap suc (length_tab n (λ k. f (suc k)))

pub at_tab : (n : ℕ) (f : ℕ → ℤ) (i : ℕ) → i < n → at (table n f) i ≡ f i
unfolding table
at_tab zero f i h = absurd (not-suc-le-zero h)
at_tab (suc n) f zero h = refl
at_tab (suc n) f (suc i) h = at_tab n (λ k. f (suc k)) i (le_of_suc-le-suc h)

-- a list that has f at each place is the list of f
pub is_tab : (n : ℕ) (f : ℕ → ℤ) (l : List ℤ) → length l ≡ n → ((i : ℕ) → i < n → at l i ≡ f i) → l ≡ table n f
is_tab n f l e h =
    ext_get_or (pos 0) l (table n f) (e ∙ sym (length_tab n f)) (λ i k. h i (rw e at k) ∙ sym (at_tab n f i (rw e at k)))

-- every place holds a number that is at most B away from 0
pub record AllNear (B : ℕ) (xs : List ℤ) : Type 0 where
  pub all : (i : ℕ) → Near B (at xs i)

-- row r of h rows of W lies within
pub row_in : (r h W : ℕ) → r < h → r * W + W ≤ h * W
row_in r h W p = omega (arith, mul-le-mul_right W p)

at_row :
    (h W : ℕ) (f : ℕ → ℕ → ℤ) (l : List ℤ) → zero < W → ((y : ℕ) → y < h → (x : ℕ) → x < W → at l (y * W + x) ≡ f y x) → (k : ℕ) → k < h * W →
    at l k ≡ f (k / W) (k % W)
at_row h W f l w p k q =
    ap (at l) (sym (div-add-mod' k W)) ∙ p (k / W) ((div-lt_iff_lt-mul w).1 q) (k % W) (mod-lt k w)

-- a list that has f at each row and place is the grid of f
pub is_grid :
    (h W : ℕ) (f : ℕ → ℕ → ℤ) (l : List ℤ) → zero < W → length l ≡ h * W → ((y : ℕ) → y < h → (x : ℕ) → x < W → at l (y * W + x) ≡ f y x) → l ≡ grid h W f
unfolding grid
is_grid h W f l w e p = is_tab (h * W) (λ k. f (k / W) (k % W)) l e (at_row h W f l w p)

pub length_grid : (h W : ℕ) (f : ℕ → ℕ → ℤ) → length (grid h W f) ≡ h * W
unfolding grid
length_grid h W f = length_tab (h * W) _

pub at_grid : (h W : ℕ) (f : ℕ → ℕ → ℤ) (y x : ℕ) → y < h → x < W → at (grid h W f) (y * W + x) ≡ f y x
unfolding grid
at_grid h W f y x p q =
    at_tab (h * W) (λ k. f (k / W) (k % W)) (y * W + x) (omega (arith, row_in y h W p))
    ∙ ap (λ (k : ℕ). f k ((y * W + x) % W)) (digits_div y q) ∙ ap (f y) (digits_mod y q)

-- places in different columns, and in different rows of a column, are apart
pub col_apart : (W y x v u : ℕ) → x < W → u < W → x ≢ u → y * W + x ≢ v * W + u
col_apart W y x v u p q d e = d (sym (digits_mod y p) ∙ ap (λ (k : ℕ). k % W) e ∙ digits_mod v q)

pub row_apart : (W y x v : ℕ) → x < W → y ≢ v → y * W + x ≢ v * W + x
row_apart W y x v p d e = d (sym (digits_div y p) ∙ ap (λ (k : ℕ). k / W) e ∙ digits_div v p)

-- 0 past the end is near too, so a bound on f bounds the list
pub tab_near : {B : ℕ} (n : ℕ) (f : ℕ → ℤ) → ((k : ℕ) → Near B (f k)) → AllNear B (table n f)
tab_near {B} n f p = record { all = λ i. place i (dec_lt i n) }
  where
    place : (i : ℕ) → Dec (i < n) → Near B (at (table n f) i)
    place i (yes h) = subst (Near B) (sym (at_tab n f i h)) (p i)
    place i (no h) =
        subst (Near B) (sym (get_or-eq_default (table n f) (pos 0) (subst (λ (m : ℕ). m ≤ i) (sym (length_tab n f)) (omega arith))))
        (record { near = zero-le })

pub grid_near : {B : ℕ} (h W : ℕ) (f : ℕ → ℕ → ℤ) → ((y x : ℕ) → Near B (f y x)) → AllNear B (grid h W f)
unfolding grid
grid_near h W f p = tab_near (h * W) _ (λ k. p (k / W) (k % W))
