-- What the tool prints for two files, byte by byte (02, request Seven).
-- (01 is this project's scope document, 02 its change requests, 001 is MS-RDPRFX: README, "What 01 is".)
use Rattle.std.specs.Prelude.{ℕ, zero, suc, ◌+◌, ◌/◌, ◌%◌, List, [], ◌∷◌, ◌++◌, length, ltb}
use Rattle.whole.specs.Row.{◌⇒◌∣◌}
use Rattle.tile_diff.specs.Tiles.{listed}
use Rattle.tile_diff.specs.Pic.{pic_of, verdict_of}
use Rattle.tile_diff.specs.Request.{picture_of}
use Rattle.tile_diff.specs.declared.count.Line.{Line}
use Rattle.tile_diff.specs.declared.pic.Verdict.{Verdict}
use Rattle.tile_diff.specs.declared.pic.Verdict.TheVariants.{Bad, Size, Tiles}

-- the decimal digits of a number of at most so many digits, in ASCII, no zeros in front
unfoldable pub digits_of : ℕ → ℕ → List ℕ
digits_of zero n = []
digits_of (suc most) n =
    ltb n 10 ⇒ (48 + n) ∷ [] ∣
    digits_of most (n / 10) ++ ((48 + n % 10) ∷ [])

-- a machine number has at most 20
abbrev pub decimal_of : ℕ → List ℕ
decimal_of n = digits_of 20 n

-- "one line \"x y n\" per tile": 32 is the blank, 10 the end of the line
unfoldable pub line_text : Line → List ℕ
line_text l = decimal_of l.x ++ (32 ∷ (decimal_of l.y ++ (32 ∷ (decimal_of l.n ++ (10 ∷ [])))))

unfoldable pub lines_text : List Line → List ℕ
lines_text [] = []
lines_text (l ∷ ls) = line_text l ++ lines_text ls

-- "then a last line \"tiles t\""
unfoldable pub tiles_text : ℕ → List ℕ
tiles_text t = (116 ∷ 105 ∷ 108 ∷ 101 ∷ 115 ∷ 32 ∷ []) ++ (decimal_of t ++ (10 ∷ []))

-- "prints only \"bad\"", "print only \"size\"", or the lines of the tiles
unfoldable pub text_of : Verdict → List Line → List ℕ
text_of Bad ls = 98 ∷ 97 ∷ 100 ∷ 10 ∷ []
text_of Size ls = 115 ∷ 105 ∷ 122 ∷ 101 ∷ 10 ∷ []
text_of Tiles ls = lines_text ls ++ tiles_text (length ls)

-- all that is printed for two files; a missing one is a file of no bytes
unfoldable pub printed : List ℕ → List ℕ → List ℕ
printed a b = text_of (verdict_of (pic_of a) (pic_of b)) (listed (picture_of a) (picture_of b) (pic_of a).width (pic_of a).height)
