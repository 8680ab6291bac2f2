-- `draw::rect_holds` meets its contract: the four numbers are read, and `is_inside` does the rest.
use Rattle.frame_draw.specs.Draw.{holds}
use Rattle.frame_draw.proofs.row.rect_holds.Goals as goal

pub returns : goal.returns
unfolding holds
returns c = cc
