-- The level is made where the list is ready for it, which gives all that `level_from` asks for.
use mathlib.Core.Path.{refl, sym, ◌∙◌}
use native.Mathlib.Omega.{arith}
use lib.Dec.{lit≤}
use lib.ListN.{length}
use Rattle.whole.specs.laws.Row.{case_yes, case_no}
use Rattle.whole.specs.laws.More.{all_wide}
use Rattle.sample.specs.Waves.{levelled}
use Rattle.sample.specs.laws.Waves.{Ready, ready_gives}
use Rattle.sample.proofs.wave_stages.level.Goals as goal
use Rattle.sample.proofs.wave_stages.level.Goals.{Else-not-ready}

is-ready : (e : Else-not-ready) → let a = e.args in Ready a.work.now (length a.tmp.now) a.n
is-ready e = ready_gives _ _ _ _ e.ready.ensures e.if-not-ready.false

pub returns-then-not-ready : goal.returns-then-not-ready
unfolding levelled
returns-then-not-ready c = case_no _ _ _ _ (sym c.ready.ensures ∙ c.if-not-ready.true) refl

pub overflow_mul-n : goal.overflow_mul-n
overflow_mul-n c = omega (arith, (is-ready (goal.at.overflow_mul-n c).Else-not-ready).square)

pub overflow_mul-n-2 : goal.overflow_mul-n-2
overflow_mul-n-2 c = omega (arith, (is-ready (goal.at.overflow_mul-n-2 c).Else-not-ready).square)

pub overflow_sub-n : goal.overflow_sub-n
overflow_sub-n c = omega (arith, (is-ready (goal.at.overflow_sub-n c).Else-not-ready).square)

pub overflow_mul-n-3 : goal.overflow_mul-n-3
overflow_mul-n-3 c = omega (arith, (is-ready (goal.at.overflow_mul-n-3 c).Else-not-ready).high)

pub level_from-requires : goal.level_from-requires
level_from-requires c =
    let r = is-ready (goal.at.level_from-requires c).Else-not-ready in
    (r.low, r.high, omega (arith, r.square, r.long), r.long, r.scratch, all_wide (lit≤ tt) r.near, refl)

pub returns : goal.returns
unfolding levelled
returns c =
    case_yes _ _ _ _ (sym c.ready.ensures ∙ c.if-not-ready.false) c.level_from.ensures
