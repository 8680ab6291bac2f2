-- What is read in the word ends in it (`gr_within`), and the first half has at most 31 bits (`size_fit`).
use Prim.Native.Nat.{◌≤◌}
use mathlib.Core.Path.{sym, ◌∙◌}
use native.Mathlib.Omega.{arith}
use Rattle.bits.specs.laws.Word.{gr_within}
use Rattle.code.specs.Code.{size}
use Rattle.code.specs.laws.Steps.{size_fit}
use Rattle.code.proofs.word.pair_in.Goals as goal

pub number_in-requires : goal.number_in-requires
number_in-requires c =
    let h = gr_within _ _ _ _ _ (omega (arith, c.requires.2)) (sym c.golomb_in.ensures ∙ c.in_ok-g.ensures.ok_part) in
    let k : size c.in_ok-g.g ≤ 31 = size_fit _ 31 h.1 in
    (h.0, omega (arith, c.bit_size.ensures))
