-- Number and record are those of the call inside.
use Rattle.app_calls.specs.laws.Calls.{heard_made}
use Rattle.app_calls.proofs.calls.read_one.Goals as goal

pub returns : goal.returns
returns c = heard_made _ _ _ _ _ c.number_of.ensures c.header_record-after.ensures c.read_header-h.ensures
