-- The ones and the low bits make the number, and nothing is lost (`gr_bounds`, `gr_got`).
use mathlib.Core.Path.{sym}
use native.Mathlib.Omega.{arith}
use Rattle.bits.specs.Bits.{bits_of}
use Rattle.bits.specs.laws.Bit.{gr_bounds, gr_got}
use Rattle.bits.proofs.golomb.Goals as goal

pub overflow_add-result : goal.overflow_add-result
overflow_add-result c =
    let a = c.args in
    let b = gr_bounds a.k a.from a.s.now _ _ _ _ c.requires.1 c.requires.0 (sym c.in_ok-v.ensures) (sym c.in_ok-b.ensures) in
    omega (arith, b.0, b.1)

pub returns : goal.returns
returns c =
    let a = c.args in
    let b = gr_bounds a.k a.from a.s.now _ _ _ _ c.requires.1 c.requires.0 (sym c.in_ok-v.ensures) (sym c.in_ok-b.ensures) in
    rw b.0 (sym (gr_got a.k a.from (bits_of a.s.now) _ _ _ _ (sym c.in_ok-v.ensures) (sym c.in_ok-b.ensures)))
