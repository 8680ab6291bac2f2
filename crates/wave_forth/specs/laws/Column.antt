-- The column pass of the way forth on plain lists, as a pass over rows (wave_back's `Pass`): turn r makes the low row r and the high row n + r.
-- Assumes nothing.
use Rattle.std.specs.Prelude.{◌≡◌, List, ◌++◌, ℕ, ◌+◌, ◌*◌, ◌-◌, min, ◌≤◌, ◌<◌, ℤ, length}
use Rattle.std.proofs.Common.{sym, ◌∙◌, ap, subst, arith, length-append}
use Rattle.whole.specs.Tab.{at, grid}
use Rattle.whole.specs.laws.Tab.{length_grid, row_in}
use Rattle.whole.specs.laws.Holds.{holds_grid, holds_append, holds_all}
use Rattle.wave_back.specs.laws.Pass.{Two, Own, Done, Turned}
use Rattle.wave_forth.specs.Halves.{line_high, line_low}
use Rattle.wave_forth.specs.Forth.{low_row, high_row}

-- column x of rows of w numbers, and what is to stand in its low and its high half
abbrev pub col_of : ℕ → List ℤ → ℕ → ℕ → ℤ
col_of w src x y = at src (y * w + x)

abbrev pub Low : ℕ → ℕ → List ℤ → ℕ → ℕ → ℤ
Low n w src r x = line_low n (col_of w src x) r

abbrev pub High : ℕ → ℕ → List ℤ → ℕ → ℕ → ℤ
High n w src r x = line_high n (col_of w src x) r

-- turn r of the pass makes rows r and n + r, and the rows of all turns below r
abbrev pub Turn : ℕ → ℕ → List ℤ → ℕ → ℕ → List ℤ → List ℤ → Type 0
Turn n w src r c l₀ l = Two w r (n + r) (Low n w src r) (High n w src r) c l₀ l

abbrev pub Turns : ℕ → ℕ → List ℤ → ℕ → List ℤ → Type 0
Turns n w src r dst = Turned n w (λ y. y) (λ y. n + y) (Low n w src) (High n w src) r dst

pub own : (n : ℕ) → Own n (λ r. r) (λ r. n + r)
own n = record { first = λ y r k i. (λ e. omega arith, λ e. omega arith); second = λ y r k i. (λ e. omega arith, λ e. omega arith) }

pub columns_are :
    (n w : ℕ) (src dst : List ℤ) → 1 ≤ n → w ≡ 2 * n →
    (length dst ≡ 2 * n * (2 * n)) × Done w (λ y. y) (λ y. n + y) (Low n w src) (High n w src) n dst →
    dst ≡ grid n (2 * n) (low_row n (at src)) ++ grid n (2 * n) (high_row n (at src))
columns_are n w src dst one g (e, q) =
    let low = grid n (2 * n) (low_row n (at src)) in
    let high = grid n (2 * n) (high_row n (at src)) in
    let a = length_grid n (2 * n) (low_row n (at src)) in
    holds_all dst _ (e ∙ sym (length-append low high ∙ omega (arith, a, length_grid n (2 * n) (high_row n (at src)))))
    (holds_append dst 0 (n * (2 * n)) _ _ (omega (arith, a))
    (holds_grid dst 0 n (2 * n) _ (omega arith) (λ y i x j. let z : 0 + (y * (2 * n) + x) ≡ y * (2 * n) + x = omega arith in ap (at dst) z ∙ p.first y i x j))
    (holds_grid dst (n * (2 * n)) n (2 * n) _ (omega arith)
    (λ y i x j. let z : n * (2 * n) + (y * (2 * n) + x) ≡ (n + y) * (2 * n) + x = omega arith in ap (at dst) z ∙ p.second y i x j)))
  where
    p : Done (2 * n) (λ y. y) (λ y. n + y) (Low n (2 * n) src) (High n (2 * n) src) n dst
    p = subst (λ (v : ℕ). Done v (λ y. y) (λ y. n + y) (Low n v src) (High n v src) n dst) g q

-- the rows of a turn lie within
pub record Room (n w r a b z : ℕ) : Type 0 where
  pub in_e : 2 * r * w + w ≤ 2 * n * w
  pub in_o : (2 * r + 1) * w + w ≤ 2 * n * w
  pub in_f : 2 * z * w + w ≤ 2 * n * w
  pub in_i : 2 * a * w + w ≤ 2 * n * w
  pub in_k : (2 * a + 1) * w + w ≤ 2 * n * w
  pub in_m : 2 * b * w + w ≤ 2 * n * w
  pub in_l : r * w + w ≤ 2 * n * w
  pub in_h : (n + r) * w + w ≤ 2 * n * w

pub room : (n w r a b z : ℕ) → r < n → a ≡ r - 1 → b ≡ min (a + 1) (n - 1) → z ≡ min (r + 1) (n - 1) → Room n w r a b z
room n w r a b z h e f g =
    let i : (k : ℕ) → k < 2 * n → k * w + w ≤ 2 * n * w = λ k b. row_in k (2 * n) w b in
    record {
      in_e = i (2 * r) (omega arith);
      in_o = i (2 * r + 1) (omega arith);
      in_f = i (2 * z) (omega arith);
      in_i = i (2 * a) (omega arith);
      in_k = i (2 * a + 1) (omega arith);
      in_m = i (2 * b) (omega arith);
      in_l = i r (omega arith);
      in_h = i (n + r) (omega arith);
    }
