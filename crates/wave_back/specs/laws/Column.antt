-- The column pass of the way back on plain lists, as a pass over rows (`Pass`): turn r makes rows 2 r and 2 r + 1.
-- Assumes nothing.
use Rattle.std.specs.Prelude.{◌≡◌, List, ℕ, ◌+◌, ◌*◌, ◌-◌, min, ◌≤◌, ◌<◌, ℤ, length}
use Rattle.std.proofs.Common.{subst, arith}
use Rattle.whole.specs.Tab.{at, grid}
use Rattle.whole.specs.laws.Tab.{is_grid, row_in}
use Rattle.wave_back.specs.Line.{col_avg, even_at, odd_at, line_at}
use Rattle.wave_back.specs.laws.Line.{line_place}
use Rattle.wave_back.specs.laws.Pass.{Two, Own, Done, Turned}

-- column x of 2 n rows of w numbers of which the upper n are the low half
abbrev pub low_col : ℕ → (ℕ → ℤ) → ℕ → ℕ → ℤ
low_col w S x r = S (r * w + x)

abbrev pub high_col : ℕ → ℕ → (ℕ → ℤ) → ℕ → ℕ → ℤ
high_col n w S x r = S ((n + r) * w + x)

-- and row y of it after the column pass
abbrev pub col_at : ℕ → (ℕ → ℤ) → ℕ → ℕ → ℤ
col_at n S y x = line_at col_avg n (low_col (2 * n) S x) (high_col n (2 * n) S x) y

-- what is to stand in rows 2 r and 2 r + 1
abbrev pub Even : ℕ → ℕ → List ℤ → ℕ → ℕ → ℤ
Even n w src r x = even_at (low_col w (at src) x) (high_col n w (at src) x) r

abbrev pub Odd : ℕ → ℕ → List ℤ → ℕ → ℕ → ℤ
Odd n w src r x = odd_at col_avg n (high_col n w (at src) x) (even_at (low_col w (at src) x) (high_col n w (at src) x)) r

-- turn r of the pass makes these two rows, and the rows of all turns below r
abbrev pub Turn : ℕ → ℕ → List ℤ → ℕ → ℕ → List ℤ → List ℤ → Type 0
Turn n w src r c l₀ l = Two w (2 * r) (2 * r + 1) (Even n w src r) (Odd n w src r) c l₀ l

abbrev pub Turns : ℕ → ℕ → List ℤ → ℕ → List ℤ → Type 0
Turns n w src r dst = Turned n w (λ y. 2 * y) (λ y. 2 * y + 1) (Even n w src) (Odd n w src) r dst

pub own : (n : ℕ) → Own n (λ r. 2 * r) (λ r. 2 * r + 1)
own n = record { first = λ y r k i. (λ e. omega arith, λ e. omega arith); second = λ y r k i. (λ e. omega arith, λ e. omega arith) }

pub columns_are :
    (n w : ℕ) (src dst : List ℤ) → 1 ≤ n → w ≡ 2 * n →
    (length dst ≡ 2 * n * (2 * n)) × Done w (λ y. 2 * y) (λ y. 2 * y + 1) (Even n w src) (Odd n w src) n dst → dst ≡ grid (2 * n) (2 * n) (col_at n (at src))
columns_are n w src dst one g (e, q) =
    is_grid (2 * n) (2 * n) _ dst (omega arith) e
    (λ y i x j. line_place col_avg n (low_col (2 * n) (at src) x) (high_col n (2 * n) (at src) x) (λ k. at dst (k * (2 * n) + x))
    (λ k h. p.first k h x j) (λ k h. p.second k h x j) y i)
  where
    p : Done (2 * n) (λ y. 2 * y) (λ y. 2 * y + 1) (Even n (2 * n) src) (Odd n (2 * n) src) n dst
    p = subst (λ (v : ℕ). Done v (λ y. 2 * y) (λ y. 2 * y + 1) (Even n v src) (Odd n v src) n dst) g q

-- the rows of a turn lie within
pub record Room (n w r a z y : ℕ) : Type 0 where
  pub in_l : r * w + w ≤ 2 * n * w
  pub in_g : (n + a) * w + w ≤ 2 * n * w
  pub in_h : (n + r) * w + w ≤ 2 * n * w
  pub in_m : z * w + w ≤ 2 * n * w
  pub in_p : (n + y) * w + w ≤ 2 * n * w
  pub in_q : (n + z) * w + w ≤ 2 * n * w
  pub in_o : (2 * r + 1) * w + w ≤ 2 * n * w

pub room : (n w r a z y : ℕ) → r < n → a ≡ r - 1 → z ≡ min (r + 1) (n - 1) → y ≡ z - 1 → Room n w r a z y
room n w r a z y h e f g =
    let i : (k : ℕ) → k < 2 * n → k * w + w ≤ 2 * n * w = λ k b. row_in k (2 * n) w b in
    record {
      in_l = i r (omega arith);
      in_g = i (n + a) (omega arith);
      in_h = i (n + r) (omega arith);
      in_m = i z (omega arith);
      in_p = i (n + y) (omega arith);
      in_q = i (n + z) (omega arith);
      in_o = i (2 * r + 1) (omega arith);
    }
