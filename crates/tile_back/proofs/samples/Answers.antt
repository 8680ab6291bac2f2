-- `tile::samples` meets its contract: the coefficients of a component that has no fault are in range, so the wavelet takes them. Assumes nothing.
use mathlib.Core.Path.{sym, ap, subst, ◌∙◌}
use lib.ListN.{length}
use Rattle.whole.specs.laws.Tab.{AllNear}
use Rattle.wave_back.specs.Tile.{tile_back}
use Rattle.tile_back.specs.Component.{samples_of}
use Rattle.tile_back.specs.laws.Component.{coefficients_near}
use Rattle.tile_back.proofs.samples.Goals as goal

pub tile_back-requires : goal.tile_back-requires
tile_back-requires c =
    let d = c.coefficients in
    let g = coefficients_near c.args.mode c.args.q.v c.args.code.now c.requires.3 in
    (ap length d.ensures ∙ g.0, c.requires.1, subst (AllNear 32767) (sym d.ensures) g.1)

pub returns : goal.returns
unfolding samples_of
returns c = c.tile_back.ensures ∙ ap tile_back c.coefficients.ensures
