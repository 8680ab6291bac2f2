-- `collect::settle` meets its contract: each return is a row of `settled`, whatever store it stands with.
use mathlib.Core.Path.{ap}
use borrow.Author.Tests.{lt-ltb, le-ltb, eq-eqb, ne_eqb}
use Rattle.whole.specs.laws.Row.{case_yes, case_no}
use Rattle.collect.specs.Collect.{took, settled}
use Rattle.collect.proofs.settle.Goals as goal

pub returns-then-held-end : goal.returns-then-held-end
unfolding settled
returns-then-held-end c = λ store.
    let s = c.args in
    ap (took s.n) (case_yes _ _ _ _ (lt-ltb s.held s.end c.if-held-end.true) (rw c.in_block-c.ensures))

pub returns-then-part-eq-IN_FRAME : goal.returns-then-part-eq-IN_FRAME
unfolding settled
returns-then-part-eq-IN_FRAME c = λ store.
    let s = c.args in
    let a = c.if-held-end in
    ap (took s.n) (case_no _ _ _ _ (le-ltb s.held s.end a.false)
    (case_yes _ _ _ _ (eq-eqb s.part 3 c.if-part-eq-IN_FRAME.true) (rw c.in_block-c-then-part-eq-IN_FRAME.ensures)))

pub returns-then-part-eq-TO_HEADER : goal.returns-then-part-eq-TO_HEADER
unfolding settled
returns-then-part-eq-TO_HEADER c = λ store.
    let s = c.args in
    let a = c.if-held-end in
    let b = c.if-part-eq-IN_FRAME in
    ap (took s.n) (case_no _ _ _ _ (le-ltb s.held s.end a.false) (case_no _ _ _ _ (ne_eqb s.part 3 b.false)
    (case_yes _ _ _ _ (eq-eqb s.part 1 c.if-part-eq-TO_HEADER.true) (rw c.reset-c.ensures))))

pub returns : goal.returns
unfolding settled
returns c = λ store.
    let s = c.args in
    let a = c.if-held-end in
    let b = c.if-part-eq-IN_FRAME in
    ap (took s.n) (case_no _ _ _ _ (le-ltb s.held s.end a.false) (case_no _ _ _ _ (ne_eqb s.part 3 b.false)
    (case_no _ _ _ _ (ne_eqb s.part 1 c.if-part-eq-TO_HEADER.false) (rw c.reset-c.ensures))))
