-- One hand-over, and its part to its call: `step_is`.
use Rattle.app_calls.specs.laws.Given.{step_is}
use Rattle.app_calls.proofs.given.step.Goals as goal

pub returns : goal.returns
returns c =
    step_is _ _ _ _ _ _ _ _ _ _ _ c.rest.ensures c.collect-t.ensures c.advance.ensures c.part.ensures
