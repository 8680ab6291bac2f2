-- The number is small (`row_small`), and the definition's.
use mathlib.Core.Path.{refl}
use native.Mathlib.Omega.{arith}
use native.Mathlib.Nat.{mod-lt}
use Rattle.session.specs.Header.{tiles_over}
use Rattle.tile_diff.specs.laws.Pictures.{row_small}
use Rattle.tile_diff.proofs.glasses.tile_at.Goals as goal

pub overflow_mul-result : goal.overflow_mul-result
overflow_mul-result c = omega (arith, row_small c.args.width c.args.i c.requires.1 c.requires.2)

pub overflow_add-result-2 : goal.overflow_add-result-2
overflow_add-result-2 c =
    let m = mod-lt c.args.i c.requires.0 in
    omega (arith, row_small c.args.width c.args.i c.requires.1 c.requires.2)

pub returns : goal.returns
unfolding tiles_over
returns c = refl
