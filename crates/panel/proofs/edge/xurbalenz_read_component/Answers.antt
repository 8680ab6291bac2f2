-- Number and bits are two readings of one answer (`component-call`).
use Rattle.panel.specs.laws.Edge.{component-call}
use Rattle.panel.proofs.edge.xurbalenz_read_component.Goals as goal

pub returns : goal.returns
returns c = component-call _ _ _ _ _ _ _ c.read_component-r.ensures c.reading_bits.ensures c.reading_number.ensures
