-- Not 38 bytes are 2 (`not_38`, `held_refused`); else the store is lent, and given back with the three numbers (`held_gave`, `store_back`).
use mathlib.Core.Path.{ap, ◌∙◌}
use native.Mathlib.Omega.{arith}
use Prim.Native.Nat.{◌+◌}
use lib.ListN.{length}
use Rattle.wire.specs.declared.Refusal.TheVariants.{Buffer}
use Rattle.tidy.specs.Held.{held_of, held_fault}
use Rattle.tidy.specs.laws.Held.{not_38, held_refused, part_all, store_back, given_held}
use Rattle.tidy.proofs.held.give_held.Goals as goal

pub returns-then-held-ne38 : goal.returns-then-held-ne38
returns-then-held-ne38 c =
    let a = c.args in
    held_refused (held_fault a.held.now (35 + length a.block.now) (length a.out.now)) _ _ a.held.now a.out.now Buffer
    (not_38 a.held.now _ _ c.if-held-ne38.true)

pub returns : goal.returns
returns c =
    let a = c.args in
    let q = c.put_waiting_in.ensures in
    given_held a.held.now _ c.give_header-g.new.store a.out.now _ _ c.waiting_in-w.result c.give_header-g.result c.if-held-ne38.false
    c.waiting_in-w.ensures (part_all a.held.now)
    (q ∙ ap (held_of c.give_header-g.result.waiting) (store_back a.held.now c.give_header-g.new.store (omega (arith, c.if-held-ne38.false))))
    a.block.now c.give_header-g.ensures
