-- Four stores into a list of four are those four bytes (`four`).
use Rattle.wire.specs.laws.Le.{four}
use Rattle.wire.specs.Le.{bytes32}
use Rattle.wire.proofs.put32.Goals as goal

pub returns : goal.returns
unfolding bytes32
returns c = four c.args.out.now _ _ _ _ c.requires
