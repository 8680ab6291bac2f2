-- The first half is read in as many bits as the sum has (`size_fit`: at most 31).
use Prim.Native.Nat.{◌≤◌}
use mathlib.Core.Path.{sym, ◌∙◌}
use native.Mathlib.Omega.{arith}
use Rattle.bits.specs.laws.Here.{gr_lt}
use Rattle.code.specs.Code.{size}
use Rattle.code.specs.laws.Steps.{size_fit}
use Rattle.tidy_code.proofs.element.low.Goals as goal

pub number-requires : goal.number-requires
number-requires c =
    let e = sym c.golomb.ensures ∙ c.in_ok-g.ensures.ok_part in
    let h : size c.in_ok-g.g ≤ 31 = size_fit _ 31 (gr_lt _ _ _ _ _ (omega arith) c.requires.0 e) in
    (c.requires.0, omega (arith, c.bit_size.ensures))
