-- 02's request Seven over the calls: two files whose rows were counted one after the other, and the lines that were then asked for. `request_seven`
-- (specs/laws/Request) proves all of it.
-- (01 is this project's scope document, 02 its change requests, 001 is MS-RDPRFX: README, "What 01 is".)
use Rattle.std.specs.Prelude.{ℕ, zero, suc, ◌+◌, ◌*◌, ◌<◌, ◌≤◌, ◌≡◌, ◌⊎◌, true, false, take, drop, replicate, ltb, eqb, Some, None}
use mathlib.Core.List.{List, [], ◌∷◌, Memᴰ}
use Rattle.whole.specs.Row.{◌!◌⨾◌, ◌⇒◌∣◌}
use Rattle.session.specs.Header.{tiles_over}
use Rattle.tile_diff.specs.Tiles.{words_of, differs, listed}
use Rattle.tile_diff.specs.Pic.{pic_of, is_whole, verdict_of}
use Rattle.tile_diff.specs.Counts.{row_counted, next_tile}
use Rattle.tile_diff.specs.declared.count.Line.{Line}
use Rattle.tile_diff.specs.declared.pic.Pic.{Pic}
use Rattle.tile_diff.specs.declared.pic.Verdict.TheVariants.{Bad, Size, Tiles}

-- the words of a file, behind its head
abbrev pub picture_of : List ℕ → List ℕ
picture_of m = words_of (drop 4 m)

-- "one pixel row of each file at a time": the bytes of row y of a file of width w
unfoldable pub row_of : List ℕ → ℕ → ℕ → List ℕ
row_of m w y = take (2 * w) (drop (2 * (y * w)) (drop 4 m))

-- the counts after the calls for the first n rows of two files
unfoldable pub rows_counted : List ℕ → List ℕ → ℕ → ℕ → List ℕ → List ℕ
rows_counted a b w zero cs = cs
rows_counted a b w (suc n) cs = row_counted (words_of (row_of a w n)) (words_of (row_of b w n)) w n (rows_counted a b w n cs)

-- 2,048 counts, none yet
abbrev pub no_counts : List ℕ
no_counts = replicate 2048 0

-- what a caller gets who asks for the next tile from tile k on, until there is none
pub data Asked (cs : List ℕ) (w h : ℕ) : ℕ → List Line → Type 0 where
  none : {k : ℕ} → next_tile cs w h k ≡ None → Asked cs w h k []
  more : {k j : ℕ} {l : Line} {ls : List Line} → next_tile cs w h k ≡ Some (j, l) → Asked cs w h (j + 1) ls → Asked cs w h k (l ∷ ls)

-- two files that are neither bad nor of different sizes, and a caller who has asked for their lines: all that `lines` below asks for
pub record CanBeAsked : Type 0 where
  pub a : List ℕ
  pub b : List ℕ
  pub tiles : verdict_of (pic_of a) (pic_of b) ≡ Tiles
  pub ls : List Line
  pub asked : Asked (rows_counted a b (pic_of a).width (pic_of a).height no_counts) (pic_of a).width (pic_of a).height 0 ls

-- 1 where a line is that of column x and row y, else 0
unfoldable pub is_of : ℕ → ℕ → Line → ℕ
is_of x y l =
    eqb l.x x ! 0 ⨾
    eqb l.y y ! 0 ⨾
    1

-- how often a tile is listed
unfoldable pub times_in : ℕ → ℕ → List Line → ℕ
times_in x y [] = 0
times_in x y (l ∷ ls) = is_of x y l + times_in x y ls

-- a line that may stand there: a tile of the picture that differs, with its count
pub record Right (ps qs : List ℕ) (w h : ℕ) (l : Line) : Type 0 where
  pub column : l.x < tiles_over w
  pub row : l.y < tiles_over h
  pub count : l.n ≡ differs ps qs w h l.x l.y
  pub some : 0 < l.n

-- lines "row by row", columns from the left, from tile k on
pub data RowByRow (columns : ℕ) : ℕ → List Line → Type 0 where
  end : {k : ℕ} → RowByRow columns k []
  next : {k : ℕ} {l : Line} {ls : List Line} → k ≤ l.y * columns + l.x → RowByRow columns (l.y * columns + l.x + 1) ls → RowByRow columns k (l ∷ ls)

pub record RequestSeven : Type 0 where
  -- "\"bad\", which goes before \"size\"": whatever the other file is
  pub bad-before-size : (p q : Pic) → (is_whole p ≡ false) ⊎ (is_whole q ≡ false) → verdict_of p q ≡ Bad
  -- "Different sizes print only \"size\""
  pub different_sizes :
      (p q : Pic) → is_whole p ≡ true → is_whole q ≡ true → ((p.width ≡ q.width) × (p.height ≡ q.height) → ⊥) → verdict_of p q ≡ Size
  -- and nothing else is bad or of different sizes
  pub one_size : (p q : Pic) → is_whole p ≡ true → is_whole q ≡ true → p.width ≡ q.width → p.height ≡ q.height → verdict_of p q ≡ Tiles
  -- "The counts are those of a definition over the two word lists", and so are the lines: two files that are neither bad nor of different sizes
  pub lines :
      (a b : List ℕ) (ls : List Line)
      → verdict_of (pic_of a) (pic_of b) ≡ Tiles
      → let w = (pic_of a).width in let h = (pic_of a).height in
      Asked (rows_counted a b w h no_counts) w h 0 ls
      → ls ≡ listed (picture_of a) (picture_of b) w h
  pub can_be_asked : CanBeAsked
  -- "every differing tile is listed once", and none that does not differ
  pub once :
      (ps qs : List ℕ) (w h x y : ℕ)
      → x < tiles_over w
      → y < tiles_over h
      → times_in x y (listed ps qs w h) ≡ (ltb 0 (differs ps qs w h x y) ⇒ 1 ∣ 0)
  -- nothing else is listed
  pub only : (ps qs : List ℕ) (w h : ℕ) (l : Line) → Memᴰ l (listed ps qs w h) → Right ps qs w h l
  pub row_by_row : (ps qs : List ℕ) (w h : ℕ) → RowByRow (tiles_over w) 0 (listed ps qs w h)
  -- "Equal pictures print only \"tiles 0\""
  pub equal : (ps : List ℕ) (w h : ℕ) → listed ps ps w h ≡ []
  -- "Two pictures that differ only in the top left word print \"0 0 1\"", of every size
  pub top_left :
      (p q : ℕ) (ws : List ℕ) (w h : ℕ) → 1 ≤ w → 1 ≤ h → (p ≡ q → ⊥) → listed (p ∷ ws) (q ∷ ws) w h ≡ record { x = 0; y = 0; n = 1 } ∷ []
