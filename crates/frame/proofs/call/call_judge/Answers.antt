-- `call_judge` meets its contract: each return is read off the row of `call_fault`; the words of a ready record are those of its size.
use Prim.Native.Nat.{◌*◌}
use mathlib.Core.Path.{refl, sym}
use native.Mathlib.Omega.{arith}
use borrow.Author.Tests.{le-leb, lt-leb, eq-eqb, ne_eqb}
use Rattle.whole.specs.laws.Row.{passes, fails}
use Rattle.session.specs.laws.Header.{ready_good, right_words}
use Rattle.frame.specs.Frame.{call_fault}
use Rattle.frame.proofs.call.call_judge.Goals as goal

pub returns-then-not-is_ready : goal.returns-then-not-is_ready
unfolding call_fault
returns-then-not-is_ready c = fails _ _ _ _ (sym c.if-not-is_ready.ensures) refl

pub returns-then-not-is_full : goal.returns-then-not-is_full
unfolding call_fault
returns-then-not-is_full c = passes _ _ _ _ (sym c.if-not-is_ready.ensures) (fails _ _ _ _ (sym c.if-not-is_full.ensures) refl)

pub returns-then-word-s : goal.returns-then-word-s
unfolding call_fault
returns-then-word-s c =
    let a = c.args in
    passes _ _ _ _ (sym c.if-not-is_ready.ensures) (passes _ _ _ _ (sym c.if-not-is_full.ensures)
    (fails _ _ _ _ (ne_eqb a.word a.s.glass c.if-word-s.true) refl))

pub returns-then-p-s : goal.returns-then-p-s
unfolding call_fault
returns-then-p-s c =
    let a = c.args in
    let w = right_words a.s (ready_good a.s (sym c.if-not-is_ready.ensures)).right in
    passes _ _ _ _ (sym c.if-not-is_ready.ensures) (passes _ _ _ _ (sym c.if-not-is_full.ensures)
    (passes _ _ _ _ (eq-eqb a.word a.s.glass c.if-word-s.false) (fails _ _ _ _ (lt-leb (a.s.height * a.s.width) a.p (omega (arith, w, c.if-p-s.true))) refl)))

pub returns : goal.returns
unfolding call_fault
returns c =
    let a = c.args in
    let w = right_words a.s (ready_good a.s (sym c.if-not-is_ready.ensures)).right in
    passes _ _ _ _ (sym c.if-not-is_ready.ensures) (passes _ _ _ _ (sym c.if-not-is_full.ensures)
    (passes _ _ _ _ (eq-eqb a.word a.s.glass c.if-word-s.false) (passes _ _ _ _ (le-leb (a.s.height * a.s.width) a.p (omega (arith, w, c.if-p-s.false))) refl)))
