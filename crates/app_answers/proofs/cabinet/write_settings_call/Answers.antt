-- Length and output are what the call inside says and leaves of A5.
use Rattle.app_answers.specs.laws.Answers.{settings_said}
use Rattle.app_answers.proofs.cabinet.write_settings_call.Goals as goal

pub returns : goal.returns
returns c =
    settings_said _ _ _ _ _ _ (c.fill.ensures.after (λ y e. e)) c.write_settings-w.ensures c.count_of-n.ensures
