-- Length and output are what the call inside says and leaves of A5.
use Rattle.app_answers.specs.laws.Answers.{headers_said}
use Rattle.app_answers.proofs.writers.headers_call.Goals as goal

pub returns : goal.returns
returns c =
    headers_said _ _ _ _ _ _ _ _ (c.fill.ensures.after (λ y e. e)) c.write_headers-w.ensures c.count_of-n.ensures
