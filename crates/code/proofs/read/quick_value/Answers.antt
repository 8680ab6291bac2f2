-- `code::read::quick_value` meets its contract: the run's value behind the zeros of the word (`value_is`) is stored. Assumes nothing.
use Prim.Native.Nat.{◌-◌}
use mathlib.Core.Bool.{true}
use mathlib.Core.Path.{sym, ◌∙◌}
use lib.ListN.{length}
use native.Mathlib.Omega.{arith}
use Rattle.bits.specs.Bits.{num_bits}
use Rattle.code.specs.laws.Quick.{value_is, word_storable}
use Rattle.code.specs.laws.Steps.{elem_high}
use Rattle.code.proofs.read.quick_value.Goals as goal

pub keep-requires : goal.keep-requires
keep-requires c =
    let a = c.args in
    let n = length a.list.now in
    let r = c.requires in
    let v = c.run_value_in-e.ensures ∙ sym (value_is a.w a.m a.t.kp a.t.krp (n - a.j) r.zeros r.inside) in
    let q = v ∙ sym (elem_high true a.t.kp a.t.krp (n - a.j) a.m (num_bits 57 a.w) r.high) in
    (r.places, r.room, r.place, word_storable true a.t.kp a.t.krp n a.j a.m a.w _ (omega (arith, r.inside)) r.room q)

pub returns : goal.returns
returns c =
    let a = c.args in
    let k = c.keep in
    let r = c.requires in
    let v = c.run_value_in-e.ensures ∙ sym (value_is a.w a.m a.t.kp a.t.krp (length a.list.now - a.j) r.zeros r.inside) in
    rw v at k.ensures
