-- `call::pass_of` meets its contract: a message without a fault has its region, whose size says where the tileset stands.
use native.Mathlib.Omega.{arith}
use Rattle.frame_layout.specs.Reader.{size_at}
use Rattle.frame.specs.laws.Frame.{message_good, pass_is}
use Rattle.frame.proofs.call.pass_of.Goals as goal

pub le32_at-requires : goal.le32_at-requires
le32_at-requires c =
    let a = c.args in
    let g = message_good a.s.width a.s.height a.s.mode a.m.now c.requires in
    omega (arith, g.front.region.there, g.front.region.size)

pub returns : goal.returns
unfolding size_at
returns c =
    pass_is c.args.s c.args.m.now _ c.le32_at.ensures.0
