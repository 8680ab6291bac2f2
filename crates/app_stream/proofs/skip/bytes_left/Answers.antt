-- Each return is a row of `passed`.
use mathlib.Core.Path.{refl}
use borrow.Author.Tests.{lt-ltb, le-ltb}
use Rattle.whole.specs.laws.Row.{case_yes, case_no}
use Rattle.app_stream.specs.Skip.{passed}
use Rattle.app_stream.proofs.skip.bytes_left.Goals as goal

pub returns-then-left-gt0 : goal.returns-then-left-gt0
unfolding passed
returns-then-left-gt0 c = case_yes _ _ _ _ (lt-ltb 0 c.args.left c.if-left-gt0.true) refl

pub returns-then-inside : goal.returns-then-inside
unfolding passed
returns-then-inside c = case_no _ _ _ _ (le-ltb 0 c.args.left c.if-left-gt0.false) (case_yes _ _ _ _ c.if-inside.true refl)

pub returns : goal.returns
unfolding passed
returns c =
    case_no _ _ _ _ (le-ltb 0 c.args.left c.if-left-gt0.false) (case_no _ _ _ _ c.if-inside.false c.nothing.ensures)
