-- `clip::number_at` meets its contract: a number that is not below 0 is its size.
use Rattle.frame_draw.specs.laws.Clip.{counted}
use Rattle.frame_draw.proofs.clip.number_at.Goals as goal

pub overflow_cast-result : goal.overflow_cast-result
overflow_cast-result c = counted _ (record { sfits = c.result-1.given }) c.requires.1
