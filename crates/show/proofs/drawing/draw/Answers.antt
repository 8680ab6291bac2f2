-- One law for each way of the match: `drawn_frame`, and that nothing else is drawn (`drawn_more`, `drawn_header`, `drawn_refused`).
use Rattle.show.specs.laws.Play.{drawn_frame, drawn_other}
use Rattle.show.proofs.drawing.draw.Goals as goal

pub returns-in-Frame : goal.returns-in-Frame
returns-in-Frame g c =
    drawn_frame _ _ g.W.GlassWord.GLASS _ _ _ _ _ c.in-Frame.is c.first.ensures c.frame.ensures

pub returns-in_default : goal.returns-in_default
returns-in_default g c = drawn_other _ _ g.W.GlassWord.GLASS _ _ c.in_default.not-Frame
