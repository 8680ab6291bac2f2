-- The frame writer over both sets, or the one of one set, which is that one with luma's for both (`sets_written`, `one_written`).
use Rattle.app_answers.specs.laws.Answers.{sets_written, one_written}
use borrow.Author.Rules.{rules}
use Rattle.app_answers.proofs.writers.written_by.Goals as goal

pub returns-then-a : goal.returns-then-a
returns-then-a c = sets_written _ _ _ _ _ _ _ _ _ (search rules) (search rules)

pub returns : goal.returns
returns c = one_written _ _ _ _ _ _ _ _ _ (search rules) (search rules)
