-- A tidied frame while it is written: heads by the lengths of what was written, and what is asked of a message before its codes are tidied.
-- (01 is this project's scope document, 02 its change requests, 001 is MS-RDPRFX: README, "What 01 is".)
use Rattle.std.specs.Prelude.{ℕ, zero, suc, ◌+◌, ◌-◌, ◌≡◌, Bool, false, List, ◌∷◌, ◌++◌, eqb, length, drop}
use Rattle.whole.specs.Row.{◌!◌⨾◌, ◌⇒◌∣◌}
use Rattle.wire.specs.Le.{bytes16, bytes32, patch}
use Rattle.session.specs.Header.{ready}
use Rattle.session.specs.declared.Session.{Session}
use Rattle.frame_layout.specs.Bytes.{Tile}
use Rattle.frame_layout.specs.Reader.{size_at, tile_count, data_of, set_place}
use Rattle.frame_blocks.specs.Tiles.{TileWhole}
use Rattle.frame.specs.laws.Frame.{FrontGood}
use Rattle.tidy.specs.Tidy.{fault_for, layout_for, cut_code}
use Rattle.tidy.specs.declared.frames.Put.{Put}

-- bytes put at a place of the output, with so many codes changed: the output is patched with them, and the place behind them is said
pub record Puts (bytes : List ℕ) (changed at : ℕ) (out out' : List ℕ) (r : Put) : Type 0 where
  pub left : out' ≡ patch out at bytes
  pub behind : r.to ≡ at + length bytes
  pub counts : r.cut ≡ changed

-- the first 19 bytes of a tile, by the lengths of its codes as they were written
unfoldable pub head_with : Tile → ℕ → ℕ → ℕ → List ℕ
head_with t ly lcb lcr =
    bytes16 0xCAC3 ++ (bytes32 (19 + ly + lcb + lcr) ++ (t.qy ∷ t.qcb ∷ t.qcr ∷ (bytes16 t.x ++ (bytes16 t.y
    ++ (bytes16 ly ++ (bytes16 lcb ++ bytes16 lcr))))))

-- how many of a tile's codes are not as they came
unfoldable pub tile_cut : ℕ → ℕ → Tile → ℕ
tile_cut sd et t = cut_code sd et t.ys + (cut_code sd et t.cbs + cut_code sd et t.crs)

-- n tiles from a place on, each whole in the tileset's data
unfoldable pub AllWhole : ℕ → List ℕ → ℕ → Type 0
AllWhole zero d at = Unit
AllWhole (suc n) d at = TileWhole d at × AllWhole n d (at + size_at d at)

-- a message whose layout is in order
pub record Laid (m : List ℕ) : Type 0 where
  pub front : FrontGood m
  pub tiles : AllWhole (tile_count m (set_place m)) (data_of m (set_place m)) 0

-- the output with the rest of the message put behind the tiles, and the tileset's two lengths: it stands at sp, its tiles from a place on to before another
unfoldable pub closed_as : List ℕ → ℕ → ℕ → List ℕ → ℕ → ℕ → List ℕ
closed_as m sp end out from to = patch (patch (patch out to (drop end m)) (sp + 2) (bytes32 (to - sp))) (sp + 18) (bytes32 (to - from))

-- is a tidied frame to be tried?
unfoldable pub is_due : Session → List ℕ → Bool
is_due s m = ready s ! false ⨾ eqb (fault_for s m) 0 ⇒ false ∣ eqb (layout_for s m) 0
