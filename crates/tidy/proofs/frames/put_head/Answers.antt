-- The tile's fields, each right behind the one before, are one patch (`patch_next`).
use mathlib.Core.Path.{refl}
use Prim.Native.Nat.{◌≤◌}
use native.Mathlib.Omega.{arith}
use lib.ListN.{length}
use Rattle.wire.specs.Le.{bytes16, bytes32}
use Rattle.wire.specs.laws.Le.{patch_next}
use Rattle.frame_layout.specs.Reader.{tile_at}
use Rattle.tidy.specs.laws.Put.{head_put}
use Rattle.tidy.proofs.frames.put_head.Goals as goal

pub overflow_add-to-6 : goal.overflow_add-to-6
overflow_add-to-6 c =
    omega (arith, c.requires.1, c.well_formed)

pub put16_at-requires-2 : goal.put16_at-requires-2
put16_at-requires-2 c =
    omega (
      arith,
      c.requires.1,
      c.put16_at.auto.out,
      c.put32_at.auto.out,
      c.put_two8.auto.out,
      c.put8_at.auto.out,
      c.put_two16.auto.out,
      c.put_two16-2.auto.out,
    )

pub returns : goal.returns
unfolding bytes16 bytes32 tile_at
returns c =
    let h : c.args.to ≤ length c.args.out.now = omega (arith, c.requires.1) in
    let w1 = c.put16_at.ensures in
    let w2 = patch_next _ _ _ _ _ _ _ w1 c.put32_at.ensures refl h in
    let w3 = patch_next _ _ _ _ _ _ _ w2 c.put_two8.ensures refl h in
    let w4 = patch_next _ _ _ _ _ _ _ w3 c.put8_at.ensures refl h in
    let w5 = patch_next _ _ _ _ _ _ _ w4 c.put_two16.ensures refl h in
    let w6 = patch_next _ _ _ _ _ _ _ w5 c.put_two16-2.ensures refl h in
    head_put (tile_at c.args.d.now c.args.at) c.args.out.now _ c.args.to c.le16_at-x.result c.le16_at-y.result c.args.ly
    c.args.lcb c.args.lcr
    c.le16_at-x.ensures.0 c.le16_at-y.ensures.0 (patch_next _ _ _ _ _ _ _ w6 c.put16_at-2.ensures refl h)
