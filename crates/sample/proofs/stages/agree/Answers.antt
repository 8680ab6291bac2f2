-- As many places agree in all as among those passed and those left (`agree_turn`).
use mathlib.Core.Path.{ap, ◌∙◌}
use native.Mathlib.Nat.{zero-add}
use native.Mathlib.Omega.{arith}
use mir.Syntax.{w32}
use mir.Facts.{to_z-of_z}
use Rattle.sample.specs.Compare.{one_if, holds_at}
use Rattle.sample.specs.laws.Compare.{one_most, agree_turn, agree_end}
use Rattle.sample.proofs.stages.agree.Goals as goal

pub loop-i-init : goal.loop-i-init
loop-i-init c = (omega arith, zero-add _)

pub overflow_add-same : goal.overflow_add-same
overflow_add-same c =
    omega (arith, c.loop-i.invariant.0, one_most _ _ c.one-same.ensures, c.loop-i-test.true)

pub loop-i-preserved : goal.loop-i-preserved
loop-i-preserved c = (
  omega (arith, c.loop-i.invariant.0, one_most _ _ c.one-same.ensures),
  agree_turn _ _ c.loop-i.i _ _ _ c.loop-i-test.true (c.one-same.ensures ∙ ap
      one_if (c.holds.ensures ∙ ap (holds_at _ _) (to_z-of_z {w = w32} (record { sfits = c.holds-arg-1.given })))) c.loop-i.invariant.1,
)

pub returns : goal.returns
returns c = agree_end _ _ c.loop-i.i _ _ (omega arith) c.loop-i.invariant.1
