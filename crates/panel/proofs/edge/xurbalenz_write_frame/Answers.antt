-- Number and length are two readings of one answer (`frame_write_call`).
use Rattle.panel.specs.laws.Edge.{frame_write_call}
use Rattle.panel.proofs.edge.xurbalenz_write_frame.Goals as goal

pub returns : goal.returns
returns c =
    frame_write_call _ _ _ _ _ _ _ _ _ _ _ _ _ _ _ c.write_frame-w.ensures c.count_of.ensures c.number_of.ensures
