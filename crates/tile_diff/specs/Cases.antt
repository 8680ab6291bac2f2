-- Small cases of request Seven, computed by the definitions.
use Rattle.std.specs.Prelude.{◌≡◌, List, [], ◌∷◌, ℕ, replicate, set}
use Rattle.tile_diff.specs.Tiles.{listed}
use Rattle.tile_diff.specs.Pic.{pic_of, verdict_of}
use Rattle.tile_diff.specs.declared.count.Line.{Line}
use Rattle.tile_diff.specs.declared.pic.Verdict.TheVariants.{Bad, Size, Tiles}

abbrev line : ℕ → ℕ → ℕ → Line
line x y n = record { x = x; y = y; n = n }

-- 66 words in one row, the word at place i another
abbrev other : ℕ → List ℕ
other i = set (replicate 66 7) i 8

abbrev file : ℕ → ℕ → List ℕ → List ℕ
file w h ws = w ∷ 0 ∷ h ∷ 0 ∷ ws

pub record Cases : Type 0 where
  -- "Two pictures that differ only in the top left word print \"0 0 1\" and \"tiles 1\""
  pub top_left : listed (other 0) (replicate 66 7) 66 1 ≡ line 0 0 1 ∷ []
  -- the last column of a tile, and the first of the next, which the picture cuts
  pub column : listed (other 63) (replicate 66 7) 66 1 ≡ line 0 0 1 ∷ []
  pub next_column : listed (other 64) (replicate 66 7) 66 1 ≡ line 1 0 1 ∷ []
  -- the same words as one column: the tile below
  pub next_row : listed (other 64) (replicate 66 7) 1 66 ≡ line 0 1 1 ∷ []
  -- bad goes before size: a byte short, of another size
  pub bad_first : verdict_of (pic_of (file 1 1 (1 ∷ []))) (pic_of (file 1 2 (1 ∷ 2 ∷ 3 ∷ 4 ∷ []))) ≡ Bad
  pub too_long : verdict_of (pic_of (file 1 1 (1 ∷ 2 ∷ []))) (pic_of (file 1 1 (1 ∷ 2 ∷ 3 ∷ []))) ≡ Bad
  pub no-width : verdict_of (pic_of (file 0 1 [])) (pic_of (file 0 1 [])) ≡ Bad
  pub size : verdict_of (pic_of (file 2 1 (1 ∷ 2 ∷ 3 ∷ 4 ∷ []))) (pic_of (file 1 2 (1 ∷ 2 ∷ 3 ∷ 4 ∷ []))) ≡ Size
  pub tiles : verdict_of (pic_of (file 1 1 (1 ∷ 2 ∷ []))) (pic_of (file 1 1 (3 ∷ 4 ∷ []))) ≡ Tiles
