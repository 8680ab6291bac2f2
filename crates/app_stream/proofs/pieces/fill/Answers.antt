-- The piece that is there (`fills_same`), or the next one (`fills_next`).
use mathlib.Core.Path.{refl}
use Rattle.app_stream.specs.laws.Pieces.{fills_same, fills_next}
use Rattle.app_stream.proofs.pieces.fill.Goals as goal

pub returns-then-p-end : goal.returns-then-p-end
returns-then-p-end g c = fills_same _ _ _ _ c.first-end.ensures refl c.if-p-end.true

pub returns : goal.returns
returns g c =
    fills_next _ _ _ _ _ _ c.first-end.ensures refl c.if-p-end.false
