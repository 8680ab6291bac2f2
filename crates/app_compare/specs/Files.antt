-- What is read of two .pic files, and what is known of them by it (02, request Seven).
-- (01 is this project's scope document, 02 its change requests, 001 is MS-RDPRFX: README, "What 01 is".)
use Rattle.std.specs.Prelude.{ℕ, ◌+◌, ◌*◌, ◌≤◌, ◌≡◌, Bool, true, false, List, ℤ, leb, length, take, drop}
use Rattle.whole.specs.Row.{◌!◌⨾◌}
use Rattle.tile_diff.specs.Tiles.{words_of}
use Rattle.tile_diff.specs.Pic.{pic_of, is_whole, verdict_of}
use Rattle.tile_diff.specs.Counts.{row_counted}
use Rattle.tile_diff.specs.Request.{row_of, rows_counted}
use Rattle.tile_diff.specs.Text.{printed}
use Rattle.tile_diff.specs.declared.pic.Pic.{Pic}
use Rattle.tile_diff.specs.declared.pic.Verdict.{Verdict}
use Rattle.tile_diff.specs.declared.pic.Verdict.TheVariants.{Bad, Size, Tiles}
use Rattle.app_compare.specs.declared.files.Seen.{Seen}
use Rattle.app_compare.specs.Outside.{Opened}
use Rattle.app_compare.specs.Told.{Files, Told}

-- so many bytes from a place on, or all that are there
pub record ReadAt (fd : ℤ) (place want : ℕ) (bytes : List ℕ) : Type 0 where
  pub told : Told (λ (file : Files). bytes ≡ take want (drop place (file fd)))

-- ---- what a file's head and its end say

pub record HeadRead (fd : ℤ) (p : Pic) : Type 0 where
  pub told : Told (λ (file : Files). p ≡ pic_of (take 4 (file fd)))

-- the same size, and whole or not alike
pub record Like (p q : Pic) : Type 0 where
  pub width : p.width ≡ q.width
  pub height : p.height ≡ q.height
  pub whole : is_whole p ≡ is_whole q

-- two bytes asked for where the last one stands: the file's length where one comes, and a length that is not the head's where none comes or two
abbrev pub end_of : Pic → ℕ
end_of p = 3 + 2 * (p.width * p.height)

abbrev pub with_end : Pic → ℕ → Pic
with_end p n = record { width = p.width; height = p.height; bytes = end_of p + n }

pub record EndRead (fd : ℤ) (p r : Pic) : Type 0 where
  pub told : Told (λ (file : Files). r ≡ with_end p (length (take 2 (drop (end_of p) (file fd)))))

pub record Looked (fd : ℤ) (p : Pic) : Type 0 where
  pub told : Told (λ (file : Files). Like p (pic_of (file fd)))

-- ---- rows

pub record RowRead (fd : ℤ) (w y : ℕ) (bytes : List ℕ) : Type 0 where
  pub told : Told (λ (file : Files). bytes ≡ row_of (file fd) w y)

-- row y of both came whole
unfoldable pub rows_whole : ℕ → List ℕ → List ℕ → Bool
rows_whole w a b =
    leb (2 * w) (length a) ! false ⨾
    leb (2 * w) (length b)

-- row y of two files, its differing words counted
pub record RowDone (w y : ℕ) (fa fb from to : List ℕ) (r : Bool) : Type 0 where
  pub counts : to ≡ row_counted (words_of (row_of fa w y)) (words_of (row_of fb w y)) w y from
  pub whole : r ≡ rows_whole w (row_of fa w y) (row_of fb w y)

pub record RowCounted (a b : ℤ) (w y : ℕ) (from to : List ℕ) (r : Bool) : Type 0 where
  pub told : Told (λ (file : Files). RowDone w y (file a) (file b) from to r)

-- all rows of two files that have them
pub record RowsDone (w h : ℕ) (fa fb from to : List ℕ) (r : Bool) : Type 0 where
  pub good : r ≡ true
  pub counts : to ≡ rows_counted fa fb w h from

-- a file that has h rows of w words
abbrev pub Has : ℕ → ℕ → List ℕ → Type 0
Has w h f = 4 + 2 * (h * w) ≤ length f

pub record RowsCounted (a b : ℤ) (w h : ℕ) (from to : List ℕ) (r : Bool) : Type 0 where
  pub told : Told (λ (file : Files). Has w h (file a) → Has w h (file b) → RowsDone w h (file a) (file b) from to r)

-- ---- both files

-- counts are made of tiles alone
unfoldable pub counts_of : Verdict → List ℕ → List ℕ → List ℕ → List ℕ
counts_of Bad fa fb cs = cs
counts_of Size fa fb cs = cs
counts_of Tiles fa fb cs = rows_counted fa fb (pic_of fa).width (pic_of fa).height cs

-- after the rows: a picture of which one came short is bad
unfoldable pub after_rows : Bool → Verdict
after_rows true = Tiles
after_rows false = Bad

pub record FilesRead (fa fb from to : List ℕ) (r : Seen) : Type 0 where
  pub verdict : r.verdict ≡ verdict_of (pic_of fa) (pic_of fb)
  pub width : r.width ≡ (pic_of fa).width
  pub height : r.height ≡ (pic_of fa).height
  pub counts : to ≡ counts_of (verdict_of (pic_of fa) (pic_of fb)) fa fb from

pub record BothRead (a b : ℤ) (from to : List ℕ) (r : Seen) : Type 0 where
  pub told : Told (λ (file : Files). FilesRead (file a) (file b) from to r)

-- ---- the whole answer: what 02 wants printed for the files that were opened under the two names

pub record Answered (name-a name-b text : List ℕ) : Type 0 where
  pub a : ℤ
  pub b : ℤ
  pub opened_a : Opened name-a a
  pub opened_b : Opened name-b b
  pub told : Told (λ (file : Files). text ≡ printed (file a) (file b))
