-- The frame writer's call on an output of A5: what it says and leaves is the promise of the call inside (`frame-sent`).
use Rattle.app_answers.specs.laws.Answers.{pair_not, frame-sent}
use borrow.Author.Rules.{rules}
use Rattle.app_answers.proofs.writers.writer_with_one.Goals as goal

pub returns-then-scratch-two : goal.returns-then-scratch-two
returns-then-scratch-two c = pair_not _ _ _ _ c.if-scratch-two.true

pub returns : goal.returns
returns c =
    frame-sent _ _ _ _ _ _ _ _ _ _ _ _ c.if-scratch-two.false (search rules) (c.fill.ensures.after (λ y e. e)) c.written_by-w.ensures
    c.count_of-n.ensures
