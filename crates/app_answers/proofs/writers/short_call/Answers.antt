-- The same with its first list: a part of one of 8,192 (`short_list_sent`).
use Rattle.app_answers.specs.laws.Answers.{list_not, short_list_sent}
use borrow.Author.Rules.{rules}
use Rattle.app_answers.proofs.writers.short_call.Goals as goal

pub returns-then-list-one : goal.returns-then-list-one
returns-then-list-one c = list_not _ _ _ _ _ c.if-list-one.true

pub returns : goal.returns
returns c =
    short_list_sent _ _ _ _ _ _ _ _ _ _ c.if-list-one.false (search rules) c.short_with_one.ensures
