-- The words of this glass are their numbers.
use Rattle.std.proofs.lemmas.List.{map-id}
use Rattle.panel.proofs.edge.xurbalenz_read_frame.Goals as goal

pub returns : goal.returns
returns c = simp map-id at c.frame_call.ensures
