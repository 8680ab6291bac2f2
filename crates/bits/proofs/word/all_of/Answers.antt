-- Each turn keeps it, and at the end it is what is promised.
use mathlib.Core.Path.{sym, ◌∙◌}
use native.Mathlib.Omega.{arith}
use Rattle.bits.specs.laws.Ahead.{horner_more, horner_end, byte_grow}
use Rattle.bits.proofs.word.all_of.Goals as goal

pub overflow_mul-w : goal.overflow_mul-w
overflow_mul-w c =
    let l = c.loop-b in
    record { fits = omega (arith, (byte_grow l.b-index l.w 0 (omega (arith, c.requires)) l.invariant.1 (omega arith)).1) }

pub loop-b-preserved : goal.loop-b-preserved
loop-b-preserved c =
    let l = c.loop-b in (
      rw c.wide.ensures.0 (sym (horner_more c.args.s.now l.w l.b-index (omega arith)) ∙ l.invariant.0),
      (byte_grow l.b-index l.w c.wide.result (omega (arith, c.requires)) l.invariant.1 c.wide.ensures.1).0,
    )

pub returns : goal.returns
returns c =
    let l = c.loop-b in
    sym (horner_end c.args.s.now l.w l.b-index (omega arith)) ∙ l.invariant.0
