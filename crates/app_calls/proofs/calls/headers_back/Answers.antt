-- Four header calls, each on the record that the one before left.
use Rattle.app_calls.specs.laws.Calls.{back_short, back_four}
use Rattle.app_calls.proofs.calls.headers_back.Goals as goal

pub returns-then-out-lt47 : goal.returns-then-out-lt47
returns-then-out-lt47 c = back_short _ _ c.if-out-lt47.true

pub returns : goal.returns
returns c =
    back_four _ _ _ _ _ _ c.if-out-lt47.false c.read_one-one.ensures c.read_one-two.ensures c.read_one-three.ensures c.read_one-four.ensures
