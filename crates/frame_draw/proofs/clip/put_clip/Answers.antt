-- `clip::put_clip` meets its contract: four stores.

use Rattle.frame_draw.proofs.clip.put_clip.Goals as goal

pub returns : goal.returns
returns c = cc
