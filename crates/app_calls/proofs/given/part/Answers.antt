-- One law for each way of the match: `part_more`, `part_header`, `part_frame`, `part_refused`.
use Rattle.std.proofs.Common.{refl}
use Rattle.std.proofs.lemmas.List.{map-id}
use Rattle.app_calls.specs.laws.Given.{part_more, part_refused, part_header, part_frame}
use Rattle.app_calls.proofs.given.part.Goals as goal

pub returns-in-More : goal.returns-in-More
returns-in-More c = part_more _ _ _ _ _ _ c.in-More.is refl

pub returns-in-Header : goal.returns-in-Header
returns-in-Header c = part_header _ _ _ _ _ _ _ _ c.in-Header.is c.first.ensures c.header.ensures

pub returns-in-Frame : goal.returns-in-Frame
returns-in-Frame c =
    part_frame _ _ _ _ _ _ _ _ _ _ c.in-Frame.is c.first-message.ensures (simp map-id at c.frame_call.ensures) c.after_frame.ensures

pub returns-in-Refused : goal.returns-in-Refused
returns-in-Refused c = part_refused _ _ _ _ _ _ _ c.in-Refused.is refl
