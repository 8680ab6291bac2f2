-- `collect::is_waiting` meets its contract: each return is a row of `made_waiting`.
use Prim.Native.Nat.{◌^◌}
use mathlib.Core.Path.{refl, ◌∙◌}
use native.Mathlib.Omega.{arith}
use borrow.Author.Tests.{le-leb, le-ltb, lt-ltb}
use Rattle.whole.specs.laws.Row.{rows, passes, fails, ne_is, eq_is}
use Rattle.collect.specs.Collect.{made_waiting}
use Rattle.collect.proofs.is_waiting.Goals as goal

pub returns-then-c-gt6 : goal.returns-then-c-gt6
unfolding made_waiting
returns-then-c-gt6 c = search rows

pub returns-then-weight-c : goal.returns-then-weight-c
unfolding made_waiting
returns-then-weight-c c =
    let s = c.args.c in
    let w = c.weight.ensures.0 in
    passes _ _ _ _ (le-leb s.seen 6 (omega arith)) (fails _ _ _ _ (le-ltb s.head (256 ^ s.seen) (omega arith)) refl)

pub returns-then-c-number_of : goal.returns-then-c-number_of
unfolding made_waiting
returns-then-c-number_of c =
    let s = c.args.c in
    let w = c.weight.ensures.0 in
    passes _ _ _ _ (le-leb s.seen 6 (omega arith)) (passes _ _ _ _ (lt-ltb s.head (256 ^ s.seen) (omega arith))
    (fails _ _ _ _ (ne_is refl (c.number_of.ensures ∙ c.refusal_of.ensures) c.if-c-number_of.true) refl))

pub returns : goal.returns
unfolding made_waiting
returns c =
    let s = c.args.c in
    let w = c.weight.ensures.0 in
    passes _ _ _ _ (le-leb s.seen 6 (omega arith)) (passes _ _ _ _ (lt-ltb s.head (256 ^ s.seen) (omega arith))
    (passes _ _ _ _ (eq_is refl (c.number_of.ensures ∙ c.refusal_of.ensures) c.if-c-number_of.false) c.is_between.ensures))
