-- Laws of the way forth: how long it is, and how far its numbers can grow.
use Rattle.std.specs.Prelude.{◌≡◌, List, ◌++◌, ℕ, ◌+◌, ◌*◌, ℤ, pos, length, take, drop}
use Rattle.std.proofs.Common.{sym, ◌∙◌, subst, arith, length-append, length-take-le, get_or-drop}
use Rattle.whole.specs.laws.Near.{Near, wide_near}
use Rattle.whole.specs.Tab.{at, grid}
use Rattle.whole.specs.laws.Tab.{length_grid, grid_near, AllNear}
use Rattle.whole.specs.laws.Part.{part_near}
use Rattle.whole.specs.laws.More.{append_near, all_wide}
use Rattle.wave_forth.specs.laws.Halves.{high_near, low_near}
use Rattle.wave_forth.specs.Forth.{low_row, high_row, level_forth, forth_from, tile_forth}

module _ {B : ℕ} (N : ℕ) (xs : List ℤ) (p : AllNear B xs) where
  low-row : (r x : ℕ) → Near (2 * B) (low_row N (at xs) r x)
  low-row r x = low_near N _ (λ k. p.all _) r

  high-row : (r x : ℕ) → Near B (high_row N (at xs) r x)
  high-row r x = high_near N _ (λ k. p.all _) r

  -- what the column pass leaves
  pub passed_near : AllNear (2 * B) (grid N (2 * N) (low_row N (at xs)) ++ grid N (2 * N) (high_row N (at xs)))
  passed_near = append_near _ _ (grid_near N (2 * N) _ low-row) (grid_near N (2 * N) _ (λ r x. wide_near (omega arith) (high-row r x)))

  -- a level makes at most 4 B of B, and of that only LL
  pub level_near : AllNear (4 * B) (level_forth N xs)
  unfolding level_forth
  level_near =
      append_near _ _ (grid_near N N _ (λ r c. wide_near (omega arith) (high_near N _ (low-row r) c)))
      (append_near _ _ (grid_near N N _ (λ r c. wide_near (omega arith) (low_near N _ (high-row r) c)))
      (append_near _ _ (grid_near N N _ (λ r c. wide_near (omega arith) (high_near N _ (high-row r) c)))
      (grid_near N N _ (λ r c. wide_near (omega arith) (low_near N _ (low-row r) c)))))

pub length_level : (N : ℕ) (xs : List ℤ) → length (level_forth N xs) ≡ 4 * (N * N)
unfolding level_forth
length_level N xs = simp (length-append, length_grid) (omega arith)

pub from_near : {B : ℕ} (a N : ℕ) (xs : List ℤ) → AllNear B xs → AllNear (4 * B) (forth_from a N xs)
from_near {B} a N xs p =
    append_near (take a xs) (level_forth N (drop a xs)) (all_wide (omega arith) (part_near xs 0 a p))
    (level_near N (drop a xs) (record { all = λ i. subst (Near B) (sym (get_or-drop a xs i (pos 0))) (p.all (a + i)) }))

pub from_length : (a N : ℕ) (xs : List ℤ) → length xs ≡ a + 4 * (N * N) → length (forth_from a N xs) ≡ length xs
from_length a N xs e = length-append (take a xs) (level_forth N (drop a xs)) ∙ omega (arith, length-take-le a xs (omega arith), length_level N (drop a xs))

-- a tile stays a list of 4,096
pub forth_length : (xs : List ℤ) → length xs ≡ 4096 → length (tile_forth xs) ≡ 4096
unfolding tile_forth
forth_length xs e =
    let u = from_length 0 32 xs e ∙ e in
    let v = from_length 3072 16 (forth_from 0 32 xs) u ∙ u in
    from_length 3840 8 (forth_from 3072 16 (forth_from 0 32 xs)) v ∙ v

-- and its numbers stay within 64 times the bound: 262,144 for the 4,096 of the colours
pub forth_near : {B : ℕ} (xs : List ℤ) → AllNear B xs → AllNear (64 * B) (tile_forth xs)
unfolding tile_forth
forth_near {B} xs p =
    all_wide (omega arith) (from_near 3840 8 (forth_from 3072 16 (forth_from 0 32 xs)) (from_near 3072 16 (forth_from 0 32 xs) (from_near 0 32 xs p)))
