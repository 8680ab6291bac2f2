-- Bits filled up to bytes (`bytes_length`); a list in range is in range when folded (`range_folded`).
use native.Mathlib.Omega.{arith}
use Rattle.code_write.specs.laws.Write.{range_folded, bytes_length}
use Rattle.code_write.proofs.call.byte_size.Goals as goal

pub list_size-requires : goal.list_size-requires
list_size-requires c = (c.requires.0, range_folded c.args.list.now c.requires.1)

pub returns : goal.returns
returns c = omega (arith, c.list_size.ensures.0, bytes_length c.args.mode c.args.list.now)
