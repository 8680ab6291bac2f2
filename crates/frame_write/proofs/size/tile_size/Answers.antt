-- The first refusal of three (`first-of`, `second-of`, `third_of`), or the three sizes together (`tile_sized`): each is at most 65,535, so no sum is too big.
use mathlib.Core.Path.{refl}
use native.Mathlib.Omega.{arith}
use Rattle.wire.specs.laws.Refusal.{handed_on}
use Rattle.frame_write.specs.Encode.{tile_part}
use Rattle.frame_write.specs.Sets.{tile_refusal_over}
use Rattle.frame_write.specs.laws.Encode.{part_sized, first-of, second-of, third_of, tile_sized}
use Rattle.frame_write.proofs.size.tile_size.Goals as goal

pub returns-in_err-a : goal.returns-in_err-a
unfolding tile_refusal_over
returns-in_err-a c =
    rw (handed_on _ _ c.from_residual.ensures.1) (first-of _ _ _ _ _ c.in_err-a.ensures.number)

pub returns-in_err-b : goal.returns-in_err-b
unfolding tile_refusal_over
returns-in_err-b c =
    rw (handed_on _ _ c.from_residual-in_err-b.ensures.1) (second-of _ _ _ _ _ c.in_ok-a.ensures.number c.in_err-b.ensures.number)

pub returns-in_err-c : goal.returns-in_err-c
unfolding tile_refusal_over
returns-in_err-c c =
    rw (handed_on _ _ c.from_residual-in_err-c.ensures.1) (third_of _ _ _ _ _ c.in_ok-a.ensures.number c.in_ok-b.ensures.number c.in_err-c.ensures.number)

pub overflow_add-result : goal.overflow_add-result
unfolding tile_part
overflow_add-result c = omega (arith, part_sized _ _ _ _ c.in_ok-a.ensures)

pub overflow_add-result-2 : goal.overflow_add-result-2
unfolding tile_part
overflow_add-result-2 c = omega (arith, part_sized _ _ _ _ c.in_ok-a.ensures, part_sized _ _ _ _ c.in_ok-b.ensures)

pub overflow_add-result-3 : goal.overflow_add-result-3
unfolding tile_part
overflow_add-result-3 c =
    omega (arith, part_sized _ _ _ _ c.in_ok-a.ensures, part_sized _ _ _ _ c.in_ok-b.ensures, part_sized _ _ _ _ c.in_ok-c.ensures)

pub returns : goal.returns
returns c =
    let a = c.args in
    let j = c.args.job in
    tile_sized a.pixels.now j.width j.height j.mode j.quants a.k _ _ _ _ c.in_ok-a.ensures c.in_ok-b.ensures c.in_ok-c.ensures refl
