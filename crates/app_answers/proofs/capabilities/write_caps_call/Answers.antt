-- The output is what the call inside leaves of A5.
use Rattle.app_answers.specs.laws.Answers.{caps_made}
use Rattle.app_answers.proofs.capabilities.write_caps_call.Goals as goal

pub returns : goal.returns
returns c =
    caps_made _ c.args.out.now _ _ _ (c.fill.ensures.after (λ y e. e)) c.write_caps-w.ensures
