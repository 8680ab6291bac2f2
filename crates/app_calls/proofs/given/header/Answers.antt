-- The desk goes on with the record that the header call leaves.
use Rattle.app_calls.specs.laws.Given.{header-on}
use Rattle.app_calls.proofs.given.header.Goals as goal

pub returns : goal.returns
returns c =
    header-on _ _ _ _ _ c.after_header.ensures c.header_record.ensures c.read_header-h.ensures
