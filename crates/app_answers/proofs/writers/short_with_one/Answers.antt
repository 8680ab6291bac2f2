-- The short frame's writer on an output of A5: what it says and leaves is the promise of the call inside (`short_sent`).
use Rattle.app_answers.specs.laws.Answers.{pair_not, short_sent}
use borrow.Author.Rules.{rules}
use Rattle.app_answers.proofs.writers.short_with_one.Goals as goal

pub returns-then-scratch-two : goal.returns-then-scratch-two
returns-then-scratch-two c = pair_not _ _ _ _ c.if-scratch-two.true

pub returns : goal.returns
returns c =
    short_sent _ _ _ _ _ _ _ _ _ _ _ _ _ _ c.if-scratch-two.false (search rules) (c.fill.ensures.after (λ y e. e)) c.write_frame_short-w.ensures
    c.count_of-n.ensures
