-- The collector and the store are those of the call inside.
use Rattle.app_answers.specs.laws.Answers.{taken_made}
use Rattle.app_answers.proofs.collected.take_call.Goals as goal

pub returns : goal.returns
returns c = taken_made _ _ _ _ _ c.collect-t.ensures
