-- Two whole pictures, lent as words of either glass: the counts of all their tiles, and the tile that is told next. `glasses_counted`
-- (specs/laws/Pictures) proves that these are request Seven's counts and lines.
-- (01 is this project's scope document, 02 its change requests, 001 is MS-RDPRFX: README, "What 01 is".)
use Rattle.std.specs.Prelude.{ℕ, zero, suc, ◌+◌, ◌*◌, ◌/◌, ◌%◌, ◌<◌, ◌≡◌, List, length, get_or, replicate, leb, Option, Some, None}
use Rattle.whole.specs.Row.{◌!◌⨾◌}
use Rattle.session.specs.Header.{tiles_over, size_good}
use Rattle.tile_diff.specs.Tiles.{not_same, differs, listed}
use Rattle.tile_diff.specs.Counts.{counted_if, next_tile}
use Rattle.tile_diff.specs.Request.{Asked}
use Rattle.tile_diff.specs.declared.count.Line.{Line}
use Rattle.tile_diff.specs.declared.glasses.Found.{Found}

-- the number of the tile over place i
abbrev pub tile_at : ℕ → ℕ → ℕ
tile_at w i = i / w / 64 * tiles_over w + i % w / 64

-- the first n places counted
unfoldable pub places_counted : List ℕ → List ℕ → ℕ → ℕ → List ℕ → List ℕ
places_counted ps qs w zero cs = cs
places_counted ps qs w (suc n) cs = counted_if (not_same (get_or ps n 0) (get_or qs n 0)) (tile_at w n) (places_counted ps qs w n cs)

-- what a caller lends: two pictures of at least so many words (2), a count for each tile (13)
unfoldable pub lent_fault : ℕ → ℕ → ℕ → ℕ → ℕ → ℕ
lent_fault words tiles a b c =
    leb words a ! 2 ⨾
    leb words b ! 2 ⨾
    leb tiles c ! 13 ⨾
    0

-- the size goes before that (5)
unfoldable pub tiles_fault : ℕ → ℕ → ℕ → ℕ → ℕ → ℕ
tiles_fault w h a b c =
    size_good w h ! 5 ⨾
    lent_fault (h * w) (tiles_over w * tiles_over h) a b c

-- the counts at exit: refused they are as they were; done, all of them are begun anew, and those past the last tile are 0
unfoldable pub counts_left : ℕ → List ℕ → List ℕ → ℕ → ℕ → List ℕ → List ℕ
counts_left zero ps qs w h cs = places_counted ps qs w (h * w) (replicate (length cs) 0)
counts_left (suc f) ps qs w h cs = cs

-- the number that is answered, and the counts at exit
pub record TilesCounted (w h : ℕ) (ps qs cs cs' : List ℕ) (n : ℕ) : Type 0 where
  pub number : n ≡ tiles_fault w h (length ps) (length qs) (length cs)
  pub left : cs' ≡ counts_left (tiles_fault w h (length ps) (length qs) (length cs)) ps qs w h cs

-- a tile as it is told, and its line; no tile has a count of 0, so that says that there is none
unfoldable pub found_of : Option (ℕ × Line) → Found
found_of (Some (k, l)) = record { number = 0; tile = k; x = l.x; y = l.y; n = l.n }
found_of None = record { number = 0; tile = 0; x = 0; y = 0; n = 0 }

-- the first tile that differs, from tile `from` on; a size that 01 does not allow is 5
unfoldable pub found_from : List ℕ → ℕ → ℕ → ℕ → Found
found_from cs w h from =
    size_good w h ! record { number = 5; tile = 0; x = 0; y = 0; n = 0 } ⨾
    found_of (next_tile cs w h from)

pub record GlassesCounted : Type 0 where
  -- a count is that of the differing words of its tile
  pub counts :
      (ps qs cs : List ℕ) (w h k : ℕ)
      → tiles_fault w h (length ps) (length qs) (length cs) ≡ 0
      → k < tiles_over w * tiles_over h
      → get_or (counts_left 0 ps qs w h cs) k 0 ≡ differs ps qs w h (k % tiles_over w) (k / tiles_over w)
  -- and who asks for the tiles one after the other gets the lines of request Seven
  pub lines :
      (ps qs cs : List ℕ) (w h : ℕ) (ls : List Line)
      → tiles_fault w h (length ps) (length qs) (length cs) ≡ 0
      → Asked (counts_left 0 ps qs w h cs) w h 0 ls
      → ls ≡ listed ps qs w h
