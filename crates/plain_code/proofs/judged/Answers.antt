-- `judged` meets its contract: cut, range, overrun, or the element. Assumes nothing.
use borrow.Author.Tests.{lt-ltb, le-ltb}
use Rattle.whole.specs.Row.{◌⇒◌∣◌}
use Rattle.plain_code.proofs.judged.Goals as goal

pub returns-then-s-next : goal.returns-then-s-next
unfolding ◌⇒◌∣◌
returns-then-s-next c = rw (lt-ltb _ _ c.if-s-next.true)

pub returns-then-range : goal.returns-then-range
unfolding ◌⇒◌∣◌
returns-then-range c = rw (le-ltb _ _ c.if-s-next.false, c.if-range.true)

pub returns-then-overrun : goal.returns-then-overrun
unfolding ◌⇒◌∣◌
returns-then-overrun c =
    let if1 = c.if-s-next in
    rw (le-ltb _ _ if1.false, c.if-range.false, c.if-overrun.true)

pub returns : goal.returns
unfolding ◌⇒◌∣◌
returns c =
    let if1 = c.if-s-next in
    rw (le-ltb _ _ if1.false, c.if-range.false, c.if-overrun.false)
