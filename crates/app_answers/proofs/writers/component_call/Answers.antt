-- The list is what the call inside leaves of sevens.
use Rattle.app_answers.specs.laws.Answers.{component_made}
use Rattle.app_answers.proofs.writers.component_call.Goals as goal

pub returns : goal.returns
returns c =
    component_made _ _ c.args.list.now _ _ _ (c.fill.ensures.after (λ y e. e)) c.read_component-r.ensures
