-- `lone` meets its contract, by its two tests. Assumes nothing.
use borrow.Author.Tests.{lt-ltb, le-ltb}
use Rattle.whole.specs.Row.{◌⇒◌∣◌}
use Rattle.plain_code.proofs.lone.Goals as goal

pub returns-then-left-lt2 : goal.returns-then-left-lt2
unfolding ◌⇒◌∣◌
returns-then-left-lt2 c = rw (lt-ltb _ _ c.if-left-lt2.true)

pub returns-else-left-lt2 : goal.returns-else-left-lt2
unfolding ◌⇒◌∣◌
returns-else-left-lt2 c = rw (le-ltb _ _ c.if-left-lt2.false)
