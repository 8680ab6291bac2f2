-- A sum that is out of range ends it (`fit_ends`); else it is what scaling says (`fit_goes`).
use Rattle.std.proofs.Common.{refl, sym, subst}
use Rattle.wire.specs.laws.Refusal.{number_on, number_pos}
use Rattle.plain.specs.laws.Fit.{Fitted, fit_ends, mid_good, fit_goes}
use Rattle.plain.proofs.fit.Goals as goal

pub returns-in_err-sum : goal.returns-in_err-sum
returns-in_err-sum c =
    subst (Fitted c.args.q.v c.args.work.now c.sum.new.work) (sym (number_on _ _ c.from_residual.ensures.1))
    (fit_ends c.args.q.v _ _ _ c.in_err-sum.ensures (number_pos _))

pub scale-requires : goal.scale-requires
scale-requires c =
    let m = mid_good c.args.q.v _ _ 0 c.in_ok-sum.ensures refl c.requires.0 c.requires.1 in (m.0, m.1, c.requires.2)

pub returns : goal.returns
returns c = fit_goes c.args.q.v _ _ 0 c.in_ok-sum.ensures refl _ _ c.scale.ensures
