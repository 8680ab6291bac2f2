-- The same with the first list.
use Rattle.app_calls.specs.laws.Calls.{one_not, one_made}
use Rattle.std.proofs.Common.{rules}
use Rattle.app_calls.proofs.calls.frame_call.Goals as goal

pub returns-then-y-one : goal.returns-then-y-one
returns-then-y-one g c = one_not _ _ _ _ _ _ _ c.if-y-one.true

pub returns : goal.returns
returns g c =
    one_made _ _ _ _ _ _ _ _ _ _ c.if-y-one.false (search rules)
    c.frame_with_one.ensures
