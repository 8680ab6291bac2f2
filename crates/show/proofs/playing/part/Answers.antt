-- One law for each way of the match: `desk_more`, `desk_header`, `desk_frame`, `desk_refused`.
use Rattle.show.specs.laws.Play.{desk_more, desk_header, desk_frame, desk_refused}
use Rattle.show.proofs.playing.part.Goals as goal

pub returns-in-More : goal.returns-in-More
returns-in-More c = desk_more _ _ _ c.in-More.is

pub returns-in-Header : goal.returns-in-Header
returns-in-Header c = desk_header _ _ _ _ _ _ c.in-Header.is c.first.ensures c.header.ensures

pub returns-in-Frame : goal.returns-in-Frame
returns-in-Frame c = desk_frame _ _ _ _ _ c.in-Frame.is c.after_frame.ensures

pub returns-in-Refused : goal.returns-in-Refused
returns-in-Refused c = desk_refused _ _ _ _ c.in-Refused.is
