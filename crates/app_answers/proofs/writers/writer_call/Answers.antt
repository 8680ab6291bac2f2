-- Length and output are what the call inside says and leaves of A5.
use Rattle.app_answers.specs.laws.Answers.{component_said}
use Rattle.app_answers.proofs.writers.writer_call.Goals as goal

pub returns : goal.returns
returns c =
    component_said _ _ _ _ _ _ _ (c.fill.ensures.after (λ y e. e)) c.write_component-w.ensures c.count_of-n.ensures
