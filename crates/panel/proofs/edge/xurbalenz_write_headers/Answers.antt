-- Number and length are two readings of one answer (`write_call`).
use Rattle.panel.specs.laws.Edge.{write_call}
use Rattle.panel.proofs.edge.xurbalenz_write_headers.Goals as goal

pub returns : goal.returns
returns c =
    write_call _ _ _ _ _ _ _ c.write_headers-w.ensures c.count_of.ensures c.number_of.ensures
