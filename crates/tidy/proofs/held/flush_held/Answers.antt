-- Not 38 bytes are 2 (`not_38`, `held_refused`); else what waits in them goes on, and nothing waits then (`flushed_held`).
use mathlib.Core.Path.{sym, ap, ◌∙◌}
use lib.ListN.{length}
use Rattle.wire.specs.declared.Refusal.TheVariants.{Buffer}
use Rattle.tidy.specs.Held.{held_of, held_fault}
use Rattle.tidy.specs.laws.Held.{not_38, held_refused, part_all, flushed_held}
use Rattle.tidy.proofs.held.flush_held.Goals as goal

pub returns-then-held-ne38 : goal.returns-then-held-ne38
returns-then-held-ne38 c =
    let a = c.args in
    held_refused (held_fault a.held.now 35 (length a.out.now)) _ _ a.held.now a.out.now Buffer (not_38 a.held.now _ _ c.if-held-ne38.true)

pub returns : goal.returns
returns c =
    let a = c.args in
    let q = c.put_waiting_in.ensures in
    flushed_held a.held.now _ _ a.out.now _ _ c.waiting_in-w.result c.flush-g.result c.if-held-ne38.false c.waiting_in-w.ensures
    (part_all a.held.now) (q ∙ ap (held_of c.flush-g.result.waiting) (sym (part_all a.held.now))) c.flush-g.ensures
