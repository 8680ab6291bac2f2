-- What a tile shows: its three components' samples and its words. sets gives the five bytes of a quantiser set by its number.
use Rattle.std.specs.Prelude.{ℕ, ◌<◌, ◌≡◌, List, ℤ, length}
use Rattle.frame_layout.specs.Bytes.{Tile}
use Rattle.bands.specs.Bands.{quant_of}
use Rattle.tile_back.specs.Component.{samples_of}
use Rattle.tile_back.specs.Word.{Plane, word_at}
use Rattle.frame_layout.specs.Reader.{rect_count, set_at}
use Rattle.frame_blocks.specs.Blocks.{rects_of}
use Rattle.frame_blocks.specs.Tiles.{index_of, code_part}
use Rattle.frame_draw.specs.declared.row.Spot.{Spot}
use Rattle.frame_draw.specs.Clips.{Clips}
use Rattle.frame_draw.specs.Spans.{asked}

-- the samples of component k (0, 1, 2: Y, Cb, Cr) of a tile
unfoldable pub plane_of : ℕ → (ℕ → List ℕ) → Tile → ℕ → List ℤ
plane_of mode sets t k = samples_of mode (quant_of (sets (index_of t k))) (code_part t k)

-- the word of each of its 4,096 places, on a glass
unfoldable pub tile_word : ℕ → ℕ → (ℕ → List ℕ) → Tile → ℕ → ℕ
tile_word glass mode sets t = word_at glass (plane_of mode sets t 0) (plane_of mode sets t 1) (plane_of mode sets t 2)

-- the work lists: all that is said of them between calls
pub record Lists (y cb cr tmp : List ℤ) : Type 0 where
  pub y_len : length y ≡ 4096
  pub cb_len : length cb ≡ 4096
  pub cr_len : length cr ≡ 4096
  pub tmp_len : length tmp ≡ 4096

-- three lists that hold a tile's samples
pub record Sampled (mode : ℕ) (sets : ℕ → List ℕ) (t : Tile) (y cb cr : List ℤ) : Type 0 where
  pub y_is : y ≡ plane_of mode sets t 0
  pub cb_is : cb ≡ plane_of mode sets t 1
  pub cr_is : cr ≡ plane_of mode sets t 2

-- a tile made ready to be drawn into a channel of w x h, on a glass of either word size: its samples in three lists, where it lies, how many of
-- the region's rectangles it is held against, and those in the fourth
pub record Ready (mode : ℕ) (m : List ℕ) (sp w h : ℕ) (t : Tile) (y cb cr tmp : List ℤ) (s : Spot) : Type 0 where
  pub sampled : Sampled mode (set_at m sp) t y cb cr
  pub y_plane : Plane y
  pub cb_plane : Plane cb
  pub cr_plane : Plane cr
  pub w_is : s.w ≡ w
  pub h_is : s.h ≡ h
  pub tx_is : s.tx ≡ t.x
  pub ty_is : s.ty ≡ t.y
  pub x_small : s.tx < 65536
  pub y_small : s.ty < 65536
  pub held : s.n ≡ asked (rects_of m 14) (rect_count m 14) s.w s.h s.tx s.ty
  pub clips : Clips (rects_of m 14) s.n s.w s.tx tmp
