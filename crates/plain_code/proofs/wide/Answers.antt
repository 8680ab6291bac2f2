-- `wide` meets its contract, by its three tests. Assumes nothing.
use native.Mathlib.Omega.{arith}
use borrow.Author.Tests.{lt-ltb, le-ltb}
use Rattle.whole.specs.Row.{◌⇒◌∣◌}
use Rattle.plain_code.proofs.wide.Goals as goal
use Rattle.plain_code.proofs.wide.Goals.{then-g-a, else-g-a}

pub returns-then-a-gt65534 : goal.returns-then-a-gt65534
unfolding ◌⇒◌∣◌
returns-then-a-gt65534 c =
    elim c.if-g-a.branch [
      | then-g-a w ↦ rw (w.t-4-is, lt-ltb _ _ w.if-g-a.true)
      | else-g-a w ↦ rw (w.t-4-is, le-ltb _ _ w.if-g-a.false, lt-ltb 65534 c.args.a (omega (arith, c.if-a-gt65534.either, w.if-g-a.false)))
    ]

pub returns-else-a-gt65534 : goal.returns-else-a-gt65534
unfolding ◌⇒◌∣◌
returns-else-a-gt65534 c = rw (le-ltb _ _ c.if-a-gt65534.false.0, le-ltb _ _ c.if-a-gt65534.false.1)
