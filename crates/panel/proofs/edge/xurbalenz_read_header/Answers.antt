-- Number and record are two readings of one answer (`header-call`).
use Rattle.panel.specs.laws.Edge.{header-call}
use Rattle.panel.proofs.edge.xurbalenz_read_header.Goals as goal

pub returns : goal.returns
returns c = header-call _ _ _ _ _ c.read_header-answer.ensures c.number_of.ensures c.header_record.ensures
