-- A good size fits 16 bits; then the tile is `next_tile`'s.
use mathlib.Core.Path.{ap, sym, ◌∙◌}
use native.Mathlib.Omega.{arith}
use Rattle.whole.specs.laws.Row.{passes, fails}
use Rattle.tile_diff.specs.Pictures.{found_of, found_from}
use Rattle.tile_diff.specs.laws.Request.{size_is}
use Rattle.tile_diff.proofs.glasses.found_from.Goals as goal

pub overflow_cast-width : goal.overflow_cast-width
overflow_cast-width c =
    let s = size_is c.args.width c.args.height (sym c.is_size.ensures ∙ c.if-is_size.true) in
    omega (arith, s.wider)

pub overflow_cast-height : goal.overflow_cast-height
overflow_cast-height c =
    let s = size_is c.args.width c.args.height (sym c.is_size.ensures ∙ c.if-is_size.true) in
    omega (arith, s.high)

pub returns-then-is_size : goal.returns-then-is_size
unfolding found_from
returns-then-is_size c = passes _ _ _ _ (sym c.is_size.ensures ∙ c.if-is_size.true) (c.found_of.ensures ∙ ap found_of c.next_tile.ensures)

pub returns : goal.returns
unfolding found_from
returns c = fails _ _ _ _ (sym c.is_size.ensures ∙ c.if-is_size.false) (rw c.number.ensures)
