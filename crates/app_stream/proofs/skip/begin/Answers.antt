-- The definition, from what each part gives.

use Rattle.app_stream.proofs.skip.begin.Goals as goal

pub returns : goal.returns
returns c = rw (c.bytes_left.ensures, c.rest_of.ensures, c.frame_on.ensures)
