-- What is skipped from the place reached on is what is skipped in all (`skip_on`); the measure is what is left.
use Rattle.std.proofs.Common.{sym, refl, ◌∙◌, arith}
use Rattle.app_pictures.specs.Ppm.{skip_at}
use Rattle.app_pictures.specs.laws.Ppm.{skip_end, skip_on, skip_none}
use Rattle.app_pictures.proofs.ppm.skip.Goals as goal

pub loop-at-init : goal.loop-at-init
unfolding skip_at
loop-at-init c = refl

pub returns-in-None : goal.returns-in-None
returns-in-None c =
    skip_end _ _ _ c.loop-at-test.true (sym c.in-None.is ∙ c.after.ensures) ∙ sym c.loop-at.invariant

pub overflow_add-at : goal.overflow_add-at
overflow_add-at c = omega arith

pub loop-at-smaller : goal.loop-at-smaller
loop-at-smaller c = omega arith

pub loop-at-preserved : goal.loop-at-preserved
loop-at-preserved c =
    c.loop-at.invariant ∙ skip_on _ _ _ _ c.loop-at-test.true (sym c.in-Some.is ∙ c.after.ensures)

pub returns : goal.returns
returns c = skip_none _ _ _ c.loop-at-test.false ∙ sym c.loop-at.invariant
