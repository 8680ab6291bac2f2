-- One level forth on plain lists: its four bands, from what the column pass left.
use Rattle.std.specs.Prelude.{◌≡◌, List, ◌++◌, ℕ, ◌+◌, ◌*◌, ◌≤◌, ◌<◌, ℤ, length}
use Rattle.std.proofs.Math.Path.{sym}
use Rattle.std.proofs.Common.{◌∙◌, ap, subst, mul-le-mul, arith}
use Rattle.whole.specs.Tab.{at, grid}
use Rattle.whole.specs.laws.Tab.{length_grid, row_in}
use Rattle.wave_forth.specs.Halves.{line_high, line_low}
use Rattle.wave_forth.specs.laws.Halves.{high_cong, low_cong}
use Rattle.wave_forth.specs.laws.Row.{from, Bands}
use Rattle.wave_forth.specs.Forth.{low_row, high_row, level_forth}
use Rattle.wave_forth.specs.laws.Forth.{length_level}
use Rattle.whole.specs.laws.Holds.{holds_grid, holds_append, holds_all, upper_at, lower_at}

-- the bands of a level, from what the column pass left: first LL and HL, then LH and HH
module _ (n : ℕ) (xs d₀ d₁ d₂ : List ℤ) (one : 1 ≤ n) (e : length d₀ ≡ 4 * (n * n)) where
  -- what the column pass left
  abbrev passed : List ℤ
  passed = grid n (2 * n) (low_row n (at xs)) ++ grid n (2 * n) (high_row n (at xs))

  top : (r : ℕ) → r < n → (k : ℕ) → k < 2 * n → from passed (0 + r * (2 * n)) k ≡ low_row n (at xs) r k
  top r i k j =
      let z : 0 + r * (2 * n) + k ≡ r * (2 * n) + k = omega arith in ap (at passed) z ∙ upper_at n (2 * n) (low_row n (at xs)) (high_row n (at xs)) r i k j

  bottom : (r : ℕ) → r < n → (k : ℕ) → k < 2 * n → from passed (n * (2 * n) + r * (2 * n)) k ≡ high_row n (at xs) r k
  bottom r i k j = lower_at n (2 * n) (low_row n (at xs)) (high_row n (at xs)) r i k j

  pub level_is : Bands n (2 * n) 0 passed (3 * (n * n)) 0 n d₀ d₁ → Bands n (2 * n) (n * (2 * n)) passed (n * n) (2 * (n * n)) n d₁ d₂ → d₂ ≡ level_forth n xs
  unfolding level_forth
  level_is p q =
      holds_all d₂ _ (q.same ∙ p.same ∙ e ∙ sym (length_level n xs))
      (holds_append d₂ 0 (n * n) _ _ (omega (arith, length_grid n n (λ r c. line_high n (low_row n (at xs) r) c)))
      (holds_grid d₂ 0 n n _ one
      (λ y i x j.
      let b = row_in y n n i in q.kept (0 + (y * n + x)) (λ m g. omega arith) (λ m g. omega arith) ∙ p.highs y i x j ∙ high_cong n _ _ (top y i) x j))
      (holds_append d₂ (n * n) (2 * (n * n)) _ _ (omega (arith, length_grid n n (λ r c. line_low n (high_row n (at xs) r) c)))
      (holds_grid d₂ (n * n) n n _ one (λ y i x j. q.lows y i x j ∙ low_cong n _ _ (bottom y i) x j))
      (holds_append d₂ (2 * (n * n)) (3 * (n * n)) _ _ (omega (arith, length_grid n n (λ r c. line_high n (high_row n (at xs) r) c)))
      (holds_grid d₂ (2 * (n * n)) n n _ one (λ y i x j. q.highs y i x j ∙ high_cong n _ _ (bottom y i) x j))
      (holds_grid d₂ (3 * (n * n)) n n _ one (λ y i x j. let b = row_in y n n i in q.kept (3 * (n * n) + (y * n + x)) (λ m g. omega arith)
      (λ m g. omega arith) ∙ p.lows y i x j ∙ low_cong n _ _ (top y i) x j)))))

-- the sizes of a level
pub record Size (n w : ℕ) : Type 0 where
  pub half : n * w ≡ 2 * (n * n)
  pub most : n * n ≤ 1024

pub size : (n w : ℕ) → n ≤ 32 → w ≡ 2 * n → Size n w
size n w h e = record { half = subst (λ (v : ℕ). n * v ≡ 2 * (n * n)) (sym e) (omega arith); most = mul-le-mul h h }
