-- Refused, or the wavelet of its coefficients.
use Rattle.std.proofs.Common.{refl, sym, subst}
use Rattle.wire.specs.laws.Refusal.{number_on, number_pos}
use Rattle.plain.specs.Plain.{Sampled}
use Rattle.plain.specs.laws.Parts.{samples_refused, coefficients_good, samples_done}
use Rattle.plain.proofs.samples.Goals as goal

pub returns-in_err-component : goal.returns-in_err-component
returns-in_err-component c =
    let a = c.args in
    subst (Sampled a.mode a.q.v a.code.now a.work.now c.component.new.work) (sym (number_on _ _ c.from_residual.ensures.1))
    (samples_refused a.mode a.q.v a.code.now a.work.now _ _ c.in_err-component.ensures (number_pos _))

pub tile-requires : goal.tile-requires
tile-requires c =
    let a = c.args in
    let g = coefficients_good a.mode a.q.v a.code.now a.work.now _ _ c.in_ok-component.ensures refl in (g.0, c.requires.1, g.1)

pub returns : goal.returns
returns c =
    let a = c.args in
    samples_done a.mode a.q.v a.code.now a.work.now _ _ c.in_ok-component.ensures refl _ c.tile.ensures
