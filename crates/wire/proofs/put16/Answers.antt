-- Two stores into a list of two are those two bytes (`two`).
use Rattle.wire.specs.laws.Le.{two}
use Rattle.wire.specs.Le.{bytes16}
use Rattle.wire.proofs.put16.Goals as goal

pub returns : goal.returns
unfolding bytes16
returns c = two c.args.out.now _ _ c.requires
