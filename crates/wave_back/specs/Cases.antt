-- 01's case of this layer, by computation: the line of 001, 4.2.4.3.1.
-- (01 is this project's scope document, 02 its change requests, 001 is MS-RDPRFX: README, "What 01 is".)
use Rattle.std.specs.Prelude.{◌≡◌, List, [], ◌∷◌, ℤ, pos, negsuc}
use Rattle.whole.specs.Tab.{at, table}
use Rattle.wave_back.specs.Line.{row_avg, col_avg, line_at}

-- "L = -32 0 -32 -480 -384 -384 -608 -736, H = 0 0 -64 -64 32 0 -32 -64"
abbrev pub low : List ℤ
low = negsuc 31 ∷ pos 0 ∷ negsuc 31 ∷ negsuc 479 ∷ negsuc 383 ∷ negsuc 383 ∷ negsuc 607 ∷ negsuc 735 ∷ []

abbrev pub high : List ℤ
high = pos 0 ∷ pos 0 ∷ negsuc 63 ∷ negsuc 63 ∷ pos 32 ∷ pos 0 ∷ negsuc 31 ∷ negsuc 63 ∷ []

-- "gives -32 -16 0 0 0 -336 -416 -520 -368 -320 -400 -496 -592 -704 -688 -816"
abbrev pub both : List ℤ
both =
    negsuc 31 ∷ negsuc 15 ∷ pos 0 ∷ pos 0 ∷ pos 0 ∷ negsuc 335 ∷ negsuc 415 ∷ negsuc 519 ∷ negsuc 367 ∷ negsuc 319 ∷ negsuc 399 ∷ negsuc 495 ∷ negsuc 591
    ∷ negsuc 703 ∷ negsuc 687 ∷ negsuc 815 ∷ []

-- along a row, and down a column as well
pub record Worked : Type 0 where
  pub along : table 16 (line_at row_avg 8 (at low) (at high)) ≡ both
  pub down : table 16 (line_at col_avg 8 (at low) (at high)) ≡ both
