-- Each number is held against the next one, by a closure that says which is the lesser (`rising_answer`); of a part of the list that is all of it too.
use Rattle.std.specs.Prelude.{ltb}
use Rattle.std.proofs.Common.{rules}
use Rattle.std.proofs.lemmas.List.Sorted.{answers_always}
use Rattle.std.proofs.Math.Seq.{take-length}
use Rattle.plan.specs.laws.Lists.{rising_answer}
use Rattle.plan.proofs.check.is_rising.Goals as goal

pub returns : goal.returns
returns c =
    let said = rising_answer _ c.is_sorted_by.result (c.is_sorted_by.ensures.cases ltb (answers_always _ _ _ (λ f a r g called. search rules))) in
    cc (said, take-length c.args.picks.now)
