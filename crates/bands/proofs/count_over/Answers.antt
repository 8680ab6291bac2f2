-- Each turn counts one place more (`count_turn`); at the end all places are counted.
use Rattle.std.proofs.Common.{◌≡◌, ℕ, ◌+◌, ◌≤◌, ◌∙◌, ap, refl, arith, length, w32}
use Rattle.whole.specs.laws.Near.{back_ok}
use Rattle.whole.specs.Tab.{at}
use Rattle.bands.specs.laws.Steps.{over_of, overs}
use Rattle.bands.specs.laws.Range.{count_turn}
use Rattle.bands.proofs.count_over.Goals as goal
use Rattle.bands.proofs.count_over.Goals.{After-over-bad}

-- the count of one place more
turn : (c : After-over-bad) → (c.loop-v.bad + c.over-bad.result ≤ c.loop-v.v-index + 1)
    × (c.loop-v.bad + c.over-bad.result ≡ overs (λ (k : ℕ). c.args.m) (at c.args.part.now) (c.loop-v.v-index + 1))
turn c =
    let v = back_ok w32 (at c.args.part.now c.loop-v.v-index) c.over-arg-1.given in
    count_turn (λ (k : ℕ). c.args.m) (at c.args.part.now) c.loop-v.v-index c.loop-v.bad c.over-bad.result c.loop-v.invariant
    (c.over-bad.ensures ∙ ap (over_of c.args.m) v)

pub loop-v-init : goal.loop-v-init
unfolding overs
loop-v-init c = refl

pub overflow_add-bad : goal.overflow_add-bad
overflow_add-bad c = omega (arith, (turn (goal.at.overflow_add-bad c).After-over-bad).0)

pub loop-v-preserved : goal.loop-v-preserved
loop-v-preserved c = (turn (goal.at.loop-v-preserved c).After-over-bad).1

pub returns : goal.returns
returns c =
    let n : c.loop-v.v-index ≡ length c.args.part.now = omega arith in
    c.loop-v.invariant ∙ ap (overs (λ (k : ℕ). c.args.m) (at c.args.part.now)) n
