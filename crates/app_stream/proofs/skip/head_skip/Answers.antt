-- Each return is a row of `head_skip`: it waits, is passed over, or is refused.
use Prim.Native.Nat.{◌+◌}
use mathlib.Core.Path.{refl}
use native.Mathlib.Omega.{arith}
use borrow.Author.Tests.{lt-ltb, le-ltb}
use Rattle.whole.specs.laws.Row.{case_yes, case_no, ne_via, eq_via}
use Rattle.app_stream.specs.Skip.{head_skip}
use Rattle.app_stream.proofs.skip.head_skip.Goals as goal

pub returns-then-seen-lt5 : goal.returns-then-seen-lt5
unfolding head_skip
returns-then-seen-lt5 c = case_yes _ _ _ _ (lt-ltb (c.args.seen + 1) 6 (omega arith)) refl

pub returns-then-own_fault-eq0 : goal.returns-then-own_fault-eq0
unfolding head_skip
returns-then-own_fault-eq0 c =
    case_no _ _ _ _ (le-ltb (c.args.seen + 1) 6 (omega arith)) (case_yes _ _ _ _ (eq_via _ _ 0 c.own_fault.ensures c.if-own_fault-eq0.true)
    (rw (c.bytes_left.ensures, c.rest_of.ensures, c.frame_on.ensures)))

pub returns : goal.returns
unfolding head_skip
returns c =
    case_no _ _ _ _ (le-ltb (c.args.seen + 1) 6 (omega arith)) (case_no _ _ _ _ (ne_via _ _ 0 c.own_fault.ensures c.if-own_fault-eq0.false) refl)
