-- `edge::frame_call` meets its contract: one law over the word size (`frame-call`).
use Rattle.panel.specs.laws.Edge.{frame-call}
use Rattle.panel.proofs.edge.frame_call.Goals as goal

pub returns : goal.returns
returns g c = frame-call _ _ _ _ _ _ _ _ _ _ _ _ _ _ _ _ c.read_frame-f.ensures c.count_of.ensures c.number_of.ensures
