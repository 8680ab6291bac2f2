-- Each turn counts one sum more (`sum_more`, `count_turn`); at the end all 64 are counted.
use Rattle.std.proofs.Common.{◌≡◌, ℕ, ◌+◌, ◌≤◌, ◌∙◌, ap, sym, subst, refl, arith, w32, to_z, of_z}
use Rattle.whole.specs.laws.Near.{Near, back, back_near, back_ok}
use Rattle.whole.specs.Tab.{at}
use Rattle.bands.specs.Bands.{sum_to}
use Rattle.bands.specs.laws.Steps.{over_of, overs}
use Rattle.bands.specs.laws.Range.{sum_more, sum_so_far, count_turn}
use Rattle.bands.proofs.count_sums.Goals as goal
use Rattle.bands.proofs.count_sums.Goals.{After-over-bad, After-plus-sum}

-- the next sum
sum_is : (c : After-plus-sum) → to_z w32 (of_z w32 c.plus-sum.result) ≡ sum_to (at c.args.part.now) (c.loop-v.v-index + 1)
sum_is c =
    let f = at c.args.part.now in
    let v = back w32 (c.requires.1.all c.loop-v.v-index) tt in
    cc (back_ok w32 c.plus-sum.result c.plus-sum.type_inv, c.plus-sum.ensures, c.loop-v.invariant.0, v, sum_more f c.loop-v.v-index)

-- the count with it
turn : (c : After-over-bad) → (c.loop-v.bad + c.over-bad.result ≤ c.loop-v.v-index + 1)
    × (c.loop-v.bad + c.over-bad.result ≡ overs (λ (k : ℕ). c.args.m) (λ (k : ℕ). sum_to (at c.args.part.now) (k + 1)) (c.loop-v.v-index + 1))
turn c =
    count_turn (λ (k : ℕ). c.args.m) (λ (k : ℕ). sum_to (at c.args.part.now) (k + 1)) c.loop-v.v-index c.loop-v.bad c.over-bad.result
    c.loop-v.invariant.1 (c.over-bad.ensures ∙ ap (over_of c.args.m) (sum_is c.before))

pub loop-v-init : goal.loop-v-init
unfolding overs sum_to
loop-v-init c = (refl, refl)

pub plus-sum-requires : goal.plus-sum-requires
plus-sum-requires c =
    let f = at c.args.part.now in
    let so_far = sum_so_far f c.loop-v.v-index (omega (arith, c.requires.0)) (λ k. c.requires.1.all k) in
    (subst (Near 2097152) (sym c.loop-v.invariant.0) so_far, back_near w32 (c.requires.1.all c.loop-v.v-index) tt)

pub overflow_add-bad : goal.overflow_add-bad
overflow_add-bad c = omega (arith, (turn (goal.at.overflow_add-bad c).After-over-bad).0, c.requires.0)

pub loop-v-preserved : goal.loop-v-preserved
loop-v-preserved c = (sum_is (goal.at.loop-v-preserved c).After-plus-sum, (turn (goal.at.loop-v-preserved c).After-over-bad).1)

pub returns : goal.returns
returns c =
    let n : c.loop-v.v-index ≡ 64 = omega (arith, c.requires.0) in
    c.loop-v.invariant.1 ∙ ap (overs (λ (k : ℕ). c.args.m) (λ (k : ℕ). sum_to (at c.args.part.now) (k + 1))) n
