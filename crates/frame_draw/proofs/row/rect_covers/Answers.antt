-- `draw::rect_covers` meets its contract: a row of one check.
use Rattle.whole.specs.laws.Row.{rows}
use Rattle.frame_draw.specs.Spans.{covers}
use Rattle.frame_draw.proofs.row.rect_covers.Goals as goal

pub returns-then-rect_holds : goal.returns-then-rect_holds
unfolding covers
returns-then-rect_holds c = search rows depth 14 fits 20000

pub returns : goal.returns
unfolding covers
returns c = search rows depth 14 fits 20000
