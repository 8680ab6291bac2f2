-- Each return is one case of `told_desk`.
use Rattle.std.proofs.Common.{refl}
use Rattle.whole.specs.laws.Row.{case_yes, case_no}
use Rattle.replay.specs.Desk.{told_desk}
use Rattle.replay.proofs.records.after_told.Goals as goal

pub returns-then-made : goal.returns-then-made
unfolding told_desk
returns-then-made c = case_yes _ _ _ _ c.if-made.true refl

pub returns : goal.returns
unfolding told_desk
returns c = case_no _ _ _ _ c.if-made.false c.bad.ensures
