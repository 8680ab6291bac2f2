-- The same with the second list.
use Rattle.app_calls.specs.laws.Calls.{two_not, two_made}
use Rattle.std.proofs.Common.{rules}
use Rattle.app_calls.proofs.calls.frame_with_one.Goals as goal

pub returns-then-cb-two : goal.returns-then-cb-two
returns-then-cb-two g c = two_not _ _ _ _ _ _ _ c.if-cb-two.true

pub returns : goal.returns
returns g c =
    two_made _ _ _ _ _ _ _ _ _ _ c.if-cb-two.false (search rules)
    c.frame_with_two.ensures
