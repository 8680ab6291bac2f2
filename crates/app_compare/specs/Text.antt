-- A text made in memory that is lent, piece behind piece.
use Rattle.std.specs.Prelude.{ℕ, ◌+◌, ◌*◌, ◌≤◌, ◌≡◌, List, ◌++◌, length, get_or, take}
use Rattle.session.specs.Header.{tiles_over}
use Rattle.tile_diff.specs.Tiles.{lines_of}
use Rattle.tile_diff.specs.Text.{lines_text}
use Rattle.tile_diff.specs.declared.count.Line.{Line}

-- the first r bytes are a text
pub record Texted (to : List ℕ) (r : ℕ) (bytes : List ℕ) : Type 0 where
  pub fits : r ≤ length to
  pub text : take r to ≡ bytes

-- bytes behind the first n
pub record Put (from to : List ℕ) (n r : ℕ) (bytes : List ℕ) : Type 0 where
  pub end : r ≡ n + length bytes
  pub len : length to ≡ length from
  pub text : take r to ≡ take n from ++ bytes

abbrev pub tiles_in : ℕ → ℕ → ℕ
tiles_in w h = tiles_over w * tiles_over h

-- the lines of a picture's counts
abbrev pub lines_in : List ℕ → ℕ → ℕ → List Line
lines_in cs w h = lines_of (λ j. get_or cs j 0) (tiles_over w) (tiles_in w h) 0

-- all lines are there, and have been counted
pub record Lined (ls : List Line) (to : List ℕ) (n t : ℕ) : Type 0 where
  pub lines : t ≡ length ls
  pub fits : n ≤ 129024
  pub text : take n to ≡ lines_text ls
