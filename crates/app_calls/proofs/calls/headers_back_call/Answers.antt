-- The record after the fourth call.
use Rattle.app_calls.specs.laws.Calls.{session_back}
use Rattle.app_calls.proofs.calls.headers_back_call.Goals as goal

pub returns : goal.returns
returns c = session_back _ _ _ c.headers_back-f.ensures
