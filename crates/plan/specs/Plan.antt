-- 02's request Eleven, checker and planner: which tiles of two pictures differ, and which lists of tile numbers are accepted.
-- (01 is this project's scope document, 02 its change requests, 001 is MS-RDPRFX: README, "What 01 is".)
use Rattle.std.specs.Prelude.{ℕ, zero, suc, ◌+◌, ◌*◌, ◌-◌, ◌/◌, ◌%◌, ◌≤◌, ◌≡◌, Bool, true, false, not, List, [], ◌∷◌, ◌++◌, length, get_or, leb, ltb, eqb}
use Rattle.whole.specs.Row.{◌!◌⨾◌, ◌⇒◌∣◌, ◌⨟◌}
use Rattle.session.specs.Header.{size_good}
use Rattle.frame_pieces.specs.Parts.{cols_of, tiles_no, pixels_good}
use Rattle.tile_forth.specs.TileForth.{edge, pixel_place}

-- every number below n meets a test
unfoldable pub all_below : (ℕ → Bool) → ℕ → Bool
all_below p zero = true
all_below p (suc n) = p n ! false ⨾ all_below p n

-- those of the numbers below n that meet a test, from the smallest on
unfoldable pub those : (ℕ → Bool) → ℕ → List ℕ
those p zero = []
those p (suc n) = p n ⇒ those p n ++ (n ∷ []) ∣ those p n

-- ---- a tile that differs

-- "tile numbers (row by row from 0)": the column and the row of tile k, counted in tiles
abbrev pub tile_column : ℕ → ℕ → ℕ
tile_column w k = k % cols_of w

abbrev pub tile_row : ℕ → ℕ → ℕ
tile_row w k = k / cols_of w

-- "filled-up RGB bytes": byte j of the 64 x 64 x 3 of tile k, pixel by pixel and row by row, "edge tiles filled by repeating the last column and row" (01)
unfoldable pub filled_at : List ℕ → ℕ → ℕ → ℕ → ℕ → ℕ
filled_at p w h k j = get_or p (pixel_place w (edge w (64 * tile_column w k + j / 3 % 64)) (edge h (64 * tile_row w k + j / 192)) + j % 3) 0

-- a tile "whose filled-up RGB bytes differ"
unfoldable pub changed_tile : List ℕ → List ℕ → ℕ → ℕ → ℕ → Bool
changed_tile old new w h k = not (all_below (λ j. eqb (filled_at old w h k j) (filled_at new w h k j)) 12288)

-- ---- a list of tile numbers

-- "strictly rising": every number but the last is below the next
unfoldable pub rising : List ℕ → Bool
rising ks = all_below (λ i. ltb (get_or ks i 0) (get_or ks (i + 1) 0)) (length ks - 1)

-- "all numbers exist": each is that of one of n tiles
unfoldable pub below : ℕ → List ℕ → Bool
below n ks = all_below (λ i. ltb (get_or ks i 0) n) (length ks)

-- a number "is listed"
unfoldable pub is_listed : ℕ → List ℕ → Bool
is_listed k [] = false
is_listed k (a ∷ ks) = eqb a k ⇒ true ∣ is_listed k ks

-- "every tile whose filled-up RGB bytes differ is listed"
unfoldable pub covers : List ℕ → List ℕ → ℕ → ℕ → List ℕ → Bool
covers old new w h ks = all_below (λ k. changed_tile old new w h k ⇒ is_listed k ks ∣ true) (tiles_no w h)

-- ---- the checker's answer

-- "before all, a size that 01 refuses is 5, then wrong picture lengths 2": by the lengths of the old and of the new picture
unfoldable pub pictures_fault : ℕ → ℕ → ℕ → ℕ → ℕ
pictures_fault w h old new =
    size_good w h ! 5 ⨾
    pixels_good w h old ! 2 ⨾
    pixels_good w h new ! 2 ⨾
    0

-- "Out of order is 16, no such tile 8, a changed tile missing 17, first in this order": each judged over the whole list
unfoldable pub picks_fault : List ℕ → List ℕ → ℕ → ℕ → List ℕ → ℕ
picks_fault old new w h ks =
    rising ks ! 16 ⨾
    below (tiles_no w h) ks ! 8 ⨾
    covers old new w h ks ! 17 ⨾
    0

-- the number of the first fault; 0 is "accepted"
unfoldable pub plan_fault : ℕ → ℕ → List ℕ → List ℕ → List ℕ → ℕ
plan_fault w h old new ks = pictures_fault w h (length old) (length new) ⨟ picks_fault old new w h ks

-- ---- the planner's list

-- "Ship a planner of our own too": the numbers of exactly the tiles that differ, rising
unfoldable pub changed : List ℕ → List ℕ → ℕ → ℕ → List ℕ
changed old new w h = those (changed_tile old new w h) (tiles_no w h)

-- its first fault: 13 where the list that is lent has no room for the numbers
unfoldable pub make_fault : ℕ → ℕ → List ℕ → List ℕ → ℕ → ℕ
make_fault w h old new room =
    pictures_fault w h (length old) (length new) ⨟
    (leb (length (changed old new w h)) room ! 13 ⨾ 0)

-- ---- what a passed check of the pictures says

-- not "a size that 01 refuses"
pub record Size (w h : ℕ) : Type 0 where
  pub wide : 1 ≤ w
  pub wider : w ≤ 4096
  pub high : 1 ≤ h
  pub higher : h ≤ 2048

-- not "wrong picture lengths"
pub record Lengths (w h : ℕ) (old new : List ℕ) : Type 0 where
  pub old_long : length old ≡ 3 * (w * h)
  pub new_long : length new ≡ 3 * (w * h)

-- "the old and the new RGB picture of one size"
pub record Pictures (w h : ℕ) (old new : List ℕ) : Type 0 where
  pub size : Size w h
  pub lengths : Lengths w h old new
