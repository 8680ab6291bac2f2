-- The output is what the call inside leaves of A5.
use Rattle.app_answers.specs.laws.Answers.{ack_made}
use Rattle.app_answers.proofs.capabilities.write_ack_call.Goals as goal

pub returns : goal.returns
returns c =
    ack_made _ c.args.out.now _ _ _ (c.fill.ensures.after (λ y e. e)) c.write_ack-w.ensures
