-- Each turn keeps it, and at the end it is what is promised.
use mathlib.Core.Path.{ap, sym, ◌∙◌}
use Prim.Native.Nat.{◌<◌}
use native.Mathlib.Omega.{arith}
use Rattle.wire.specs.laws.Refusal.{number_pos, number_on}
use Rattle.frame_layout.specs.Reader.{halves_fault}
use Rattle.frame_blocks.specs.laws.Blocks.{part_byte, part_long, quants_stop, quants_go_on, quants_end}
use Rattle.frame_blocks.proofs.block.quants_fault.Goals as goal

pub returns-in_err-halves_fault : goal.returns-in_err-halves_fault
returns-in_err-halves_fault c =
    let a = c.args in
    let i = c.loop-b.b-index in
    let l : i < a.k = omega (arith, part_long a.m.now a.k a.at c.requires) in
    number_on _ _ c.from_residual.ensures.1
    ∙ quants_stop _ a.k a.at i _ l (number_pos _) (c.in_err-halves_fault.ensures ∙ ap halves_fault (part_byte a.m.now a.k a.at i l))
    ∙ sym c.loop-b.invariant

pub loop-b-preserved : goal.loop-b-preserved
loop-b-preserved c =
    let a = c.args in
    let i = c.loop-b.b-index in
    let l : i < a.k = omega (arith, part_long a.m.now a.k a.at c.requires) in
    c.loop-b.invariant ∙ quants_go_on _ a.k a.at i l (ap halves_fault (sym (part_byte a.m.now a.k a.at i l)) ∙ sym c.in_ok-halves_fault.ensures)

pub returns : goal.returns
returns c =
    let a = c.args in
    quants_end _ a.k a.at c.loop-b.b-index (omega (arith, part_long a.m.now a.k a.at c.requires)) ∙ sym c.loop-b.invariant
