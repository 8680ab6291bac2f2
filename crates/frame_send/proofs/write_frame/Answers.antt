-- `write_frame` meets its contract: the writer over both sets, with one set for both, is the writer over one set (`as_one`). Assumes nothing.
use Rattle.frame_write.specs.laws.OneSet.{as_one}
use Rattle.frame_send.proofs.write_frame.Goals as goal

pub returns : goal.returns
returns c = as_one _ _ _ _ _ _ _ _ _ _ _ _ _ c.write_frame_sets.ensures
