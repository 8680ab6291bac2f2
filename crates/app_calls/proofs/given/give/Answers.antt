-- What is still to be given comes to all that is given (`scene_given`).
use Rattle.std.proofs.Common.{◌≡◌, ◌+◌, ◌-◌, length, sym, ◌∙◌, arith}
use Rattle.app_calls.specs.laws.Given.{none_left, at-end, one_more, given_is}
use Rattle.app_calls.proofs.given.give.Goals as goal

pub loop-preserved : goal.loop-preserved
loop-preserved c =
    let n = length c.args.bytes.now in
    let k : n - (c.loop.counter + 1) ≡ n - c.loop.counter - 1 = omega arith in
    rw k (c.loop.invariant ∙ one_more _ _ (n - c.loop.counter) _ _ (omega arith) (omega arith) c.step-e.ensures)

pub returns-then-bytes-e : goal.returns-then-bytes-e
returns-then-bytes-e c =
    at-end _ _ _ _ c.if-bytes-e.true ∙ (sym c.loop.invariant ∙ given_is _ _ _ _ _ _ c.start-e.ensures)

pub returns : goal.returns
returns c = none_left _ _ (length c.args.bytes.now - c.loop.counter) _ (omega arith) ∙ (sym c.loop.invariant ∙ given_is _ _ _ _ _ _ c.start-e.ensures)
