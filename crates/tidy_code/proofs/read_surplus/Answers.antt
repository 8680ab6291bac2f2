-- One law for each sender.
use Rattle.tidy_code.specs.laws.Read.{surplus_one, surplus_two, surplus_none}
use Rattle.tidy_code.proofs.read_surplus.Goals as goal

pub returns-then-sender-eq1 : goal.returns-then-sender-eq1
returns-then-sender-eq1 c =
    let a = c.args in
    surplus_one a.sender a.mode a.w.now _ _ c.if-sender-eq1.true c.read_padded.ensures

pub returns-then-sender-eq2 : goal.returns-then-sender-eq2
returns-then-sender-eq2 c =
    let a = c.args in
    surplus_two a.sender a.mode a.w.now _ _ c.if-sender-eq2.true c.read_longer.ensures

pub returns : goal.returns
returns c =
    let a = c.args in
    surplus_none a.sender a.mode a.w.now _ _ c.if-sender-eq1.false c.if-sender-eq2.false c.refuse.ensures
