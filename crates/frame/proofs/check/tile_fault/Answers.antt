-- `tile_fault` meets its contract: the front's fault, or the codes' of a tile whose front was checked.
use Prim.Native.Nat.{ℕ}
use mathlib.Core.Path.{sym, ◌∙◌, subst}
use Rattle.whole.specs.laws.Row.{goes_on}
use Rattle.frame_blocks.specs.Tiles.{TileGood}
use Rattle.frame_blocks.specs.laws.Blocks.{handed_first}
use Rattle.frame_blocks.specs.laws.Tiles.{tile_good, tile_goes_on}
use Rattle.frame.proofs.check.tile_fault.Goals as goal

pub returns-in_err-tile_front : goal.returns-in_err-tile_front
returns-in_err-tile_front c =
    let a = c.args in
    handed_first _ _ _ _ c.from_residual.ensures.1 c.in_err-tile_front.ensures ∙ sym (tile_goes_on _ a.s.width a.s.height a.q a.d.now a.at)

pub codes_fault-requires : goal.codes_fault-requires
codes_fault-requires c =
    let a = c.args in
    let g = tile_good a.s.width a.s.height a.q a.d.now a.at c.requires.4 c.in_ok-tile_front.ensures in
    (c.requires.1, c.requires.2, subst (λ (z : ℕ). TileGood z a.d.now a.at) c.requires.3 g)

pub returns : goal.returns
returns c =
    let a = c.args in
    goes_on _ _ _ (sym c.in_ok-tile_front.ensures) c.codes_fault.ensures ∙ sym (tile_goes_on _ a.s.width a.s.height a.q a.d.now a.at)
