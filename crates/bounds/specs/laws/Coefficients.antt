-- How big the wavelet's values of a tile can be, where its samples are within 4,096: 6,145 in the bands of level 1, 13,828 in those of level 2, 16,237 in
-- those of level 3 before LL3, and 24,356 in LL3. 9 would begin at 24,576, which at q = 15 is rounded to 32,768.
-- Assumes nothing.
use Rattle.std.specs.Prelude.{◌≡◌, ℕ, ◌+◌, ◌*◌, ◌/◌, ◌<◌, ℤ, pos, length}
use Rattle.std.proofs.Math.Path.{sym, ap, subst}
use Rattle.std.proofs.Common.{◌∙◌, arith, take_at, drop_at}
use mathlib.Core.List.{List, ◌++◌, append_assoc}
use Rattle.std.proofs.Math.ListN.{length-append, get_or-append}
use Rattle.whole.specs.laws.Near.{Near, wide_near}
use Rattle.whole.specs.Tab.{at, grid}
use Rattle.whole.specs.laws.Tab.{AllNear, length_grid, at_grid}
use Rattle.whole.specs.laws.More.{append_near, all_wide, grid_within}
use Rattle.wave_forth.specs.Halves.{line_high, line_low}
use Rattle.wave_forth.specs.laws.Halves.{low_cong}
use Rattle.wave_forth.specs.Forth.{low_row, high_row, level_forth, forth_from, tile_forth}
use Rattle.bounds.specs.laws.Lines.{low_tight, high_tight}
use Rattle.bounds.specs.laws.Twice.{both1, both2_near}

-- ---- one level: HL, LH and HH, and then LL

module _ (N : ℕ) (xs : List ℤ) where
  details : List ℤ
  details =
      grid N N (λ r c. line_high N (low_row N (at xs) r) c)
      ++ (grid N N (λ r c. line_low N (high_row N (at xs) r) c)
      ++ grid N N (λ r c. line_high N (high_row N (at xs) r) c))

  lows : List ℤ
  lows = grid N N (λ r c. line_low N (low_row N (at xs) r) c)

  level_split : level_forth N xs ≡ details ++ lows
  unfolding level_forth details lows
  level_split =
      let h = grid N N (λ r c. line_high N (low_row N (at xs) r) c) in
      let l = grid N N (λ r c. line_low N (high_row N (at xs) r) c) in
      let b = grid N N (λ r c. line_high N (high_row N (at xs) r) c) in
      sym (append_assoc h (l ++ b) lows ∙ ap (λ (z : List ℤ). h ++ z) (append_assoc l b lows))

  details_length : length details ≡ 3 * (N * N)
  unfolding details
  details_length = simp (length-append, length_grid) (omega arith)

  module _ {B : ℕ} (big : 1 < N) (p : AllNear B xs) where
    low-row : (r x : ℕ) → r < N → Near (3 * B / 2 + 1) (low_row N (at xs) r x)
    low-row r x i = low_tight N (λ y. at xs (y * (2 * N) + x)) r big i (λ k l. p.all _)

    high-row : (r x : ℕ) → r < N → Near B (high_row N (at xs) r x)
    high-row r x i = high_tight N (λ y. at xs (y * (2 * N) + x)) r i (λ k l. p.all _)

    details_near : AllNear (3 * B / 2 + 1) details
    unfolding details
    details_near =
        append_near _ _ (grid_within N N _ (omega arith) (λ r i c j. high_tight N _ c j (λ k l. low-row r k i)))
        (append_near _ _ (grid_within N N _ (omega arith) (λ r i c j. low_tight N _ c big j (λ k l. high-row r k i)))
        (grid_within N N _ (omega arith) (λ r i c j. wide_near (omega arith) (high_tight N _ c j (λ k l. high-row r k i)))))

    lows_near : AllNear (3 * (3 * B / 2 + 1) / 2 + 1) lows
    unfolding lows
    lows_near = grid_within N N _ (omega arith) (λ r i c j. low_tight N _ c big j (λ k l. low-row r k i))

-- ---- the three levels of a tile

-- a level on what stands behind the first a places
from_split : (a N : ℕ) (d l : List ℤ) → length d ≡ a → forth_from a N (d ++ l) ≡ (d ++ details N l) ++ lows N l
from_split a N d l e =
    let t : forth_from a N (d ++ l) ≡ d ++ level_forth N l = let u = take_at d l a e in let v = drop_at d l a e in cc in
    t ∙ (ap (λ (z : List ℤ). d ++ z) (level_split N l) ∙ sym (append_assoc d (details N l) (lows N l)))

module _ (xs : List ℤ) (p : AllNear 4096 xs) where
  low1 : List ℤ
  low1 = lows 32 xs

  low2 : List ℤ
  low2 = lows 16 low1

  before1 : List ℤ
  before1 = details 32 xs

  before2 : List ℤ
  before2 = before1 ++ details 16 low1

  before3 : List ℤ
  before3 = before2 ++ details 8 low2

  length1 : length before1 ≡ 3072
  unfolding before1
  length1 = details_length 32 xs

  length2 : length before2 ≡ 3840
  unfolding before2
  length2 = length-append before1 (details 16 low1) ∙ omega (arith, length1, details_length 16 low1)

  length3 : length before3 ≡ 4032
  unfolding before3
  length3 = length-append before2 (details 8 low2) ∙ omega (arith, length2, details_length 8 low2)

  tile_split : tile_forth xs ≡ before3 ++ lows 8 low2
  unfolding tile_forth before1 before2 before3 low1 low2
  tile_split =
      let a : forth_from 0 32 xs ≡ before1 ++ low1 = level_split 32 xs in
      let b : forth_from 3072 16 (before1 ++ low1) ≡ before2 ++ low2 = from_split 3072 16 before1 low1 length1 in
      let c : forth_from 3840 8 (before2 ++ low2) ≡ before3 ++ lows 8 low2 = from_split 3840 8 before2 low2 length2 in
      ap (λ (l : List ℤ). forth_from 3840 8 (forth_from 3072 16 l)) a ∙ (ap (forth_from 3840 8) b ∙ c)

  -- LL1 crude, LL2 by two levels at once
  near1 : AllNear 9218 low1
  unfolding low1
  near1 = lows_near 32 xs (omega arith) p

  abbrev place : ℕ → ℕ → ℤ
  place v u = at xs (v * 64 + u)

  low1_at : (y x : ℕ) → y < 32 → x < 32 → at low1 (y * 32 + x) ≡ both1 place (λ v u. p.all _) y x
  unfolding low1 lows
  low1_at y x i j = at_grid 32 32 _ y x i j

  near2 : AllNear 10824 low2
  unfolding low2 lows
  near2 = grid_within 16 16 _ (omega arith) (λ r i c j.
      subst (Near 10824) (sym (low_cong 16 _ _ (λ x l. low_cong 16 _ _ (λ y m. low1_at y x m l) r i) c j)) (both2_near place (λ v u. p.all _) r c i j))

  before_near : AllNear 16237 before3
  unfolding before1 before2 before3
  before_near =
      let one = details_near 32 xs (omega arith) p in
      let two = details_near 16 low1 (omega arith) near1 in
      append_near before2 _ (append_near before1 _ (all_wide (omega arith) one) (all_wide (omega arith) two)) (details_near 8 low2 (omega arith) near2)

  pub all_near : AllNear 24356 (tile_forth xs)
  all_near = subst (AllNear 24356) (sym tile_split) (append_near before3 _ (all_wide (omega arith) before_near) (lows_near 8 low2 (omega arith) near2))

  pub front_near : (k : ℕ) → k < 4032 → Near 16237 (at (tile_forth xs) k)
  front_near k h =
      let e = ap (λ (l : List ℤ). at l k) tile_split ∙ get_or-append before3 (lows 8 low2) (pos 0) k (omega (arith, length3)) in
      subst (Near 16237) (sym e) (before_near.all k)
