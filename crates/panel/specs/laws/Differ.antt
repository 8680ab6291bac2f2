-- The tile that is told for C is that of `tile_diff`'s own call.
use Rattle.std.specs.Prelude.{ℕ, ◌≡◌, List}
use Rattle.std.proofs.Common.{ap}
use Rattle.tile_diff.specs.Pictures.{found_from}
use Rattle.tile_diff.specs.declared.glasses.Found.{Found}
use Rattle.panel.specs.Differ.{NextTileCall}

pub next_tile_call :
    (w h : ℕ) (cs : List ℕ) (from : ℕ) (f : Found) → f ≡ found_from cs w h from → NextTileCall w h cs from f.tile f.x f.y f.n f.number
next_tile_call w h cs from f e =
    record {
      said = ap (λ (g : Found). g.number) e;
      tile_is = ap (λ (g : Found). g.tile) e;
      column = ap (λ (g : Found). g.x) e;
      row = ap (λ (g : Found). g.y) e;
      count = ap (λ (g : Found). g.n) e;
    }
