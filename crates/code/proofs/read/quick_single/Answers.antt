-- `code::read::quick_single` meets its contract: the single value in the word is the one at its place (`first_turns`). Assumes nothing.
use Prim.Native.Nat.{◌-◌}
use mathlib.Core.Bool.{false}
use mathlib.Core.Path.{sym, ◌∙◌}
use lib.ListN.{length}
use Rattle.bits.specs.Bits.{num_bits}
use Rattle.code.specs.laws.Quick.{first_storable, first_turns}
use Rattle.code.specs.laws.Steps.{elem_low_one}
use Rattle.code.proofs.read.quick_single.Goals as goal

pub keep-requires : goal.keep-requires
keep-requires c =
    let a = c.args in
    let q = elem_low_one a.c.kp a.c.krp (length a.list.now - a.i) 0 (num_bits 57 a.w) c.requires.1 in
    first_storable false a.w a.list.now a.c a.i c.requires.0 _ (c.single_in.ensures ∙ sym q)

pub returns : goal.returns
returns c =
    let k = c.keep in
    let a = c.args in
    let q = elem_low_one a.c.kp a.c.krp (length a.list.now - a.i) 0 (num_bits 57 a.w) c.requires.1 in
    first_turns false a.w a.list.now a.c a.i c.requires.0 _ (c.single_in.ensures ∙ sym q) k.new.list k.result k.ensures
