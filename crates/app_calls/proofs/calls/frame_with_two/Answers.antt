-- The picture is what the frame call leaves, with the third list a part of one of 8,192.
use Rattle.app_calls.specs.laws.Calls.{three_not, three_made}
use Rattle.std.proofs.Common.{rules}
use Rattle.app_calls.proofs.calls.frame_with_two.Goals as goal

pub returns-then-cr-three : goal.returns-then-cr-three
returns-then-cr-three g c = three_not _ _ _ _ _ _ _ c.if-cr-three.true

pub returns : goal.returns
returns g c =
    three_made _ _ _ _ _ _ _ _ _ _ _ _
    c.if-cr-three.false
    c.read_frame-r.ensures.picture (search rules) (search rules) (search rules) (search rules)
