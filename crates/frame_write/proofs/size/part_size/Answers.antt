-- The list that was loaded is judged, then measured (`part_judged`, `part_measured`): what is said of it is said of the definition's.
use mathlib.Core.Path.{ap₂, sym, subst, ◌∙◌}
use native.Mathlib.Omega.{arith}
use mathlib.Core.List.{List}
use lib.IntN.{ℤ}
use lib.ListN.{length}
use Rattle.wire.specs.laws.Refusal.{handed_on}
use Rattle.bands.specs.Bands.{QuantGood, coefficients_fault}
use Rattle.bands.specs.declared.Quant.{Quant}
use Rattle.code_write.specs.Write.{Measures, bytes_of, code_fault}
use Rattle.code_write.specs.laws.Write.{code_measures}
use Rattle.quants.specs.Quants.{quant_for}
use Rattle.frame_write.specs.Encode.{tile_part}
use Rattle.frame_write.specs.Job.{list_in}
use Rattle.frame_write.specs.laws.Encode.{for_good, part_judged, part_measured}
use Rattle.frame_write.proofs.size.part_size.Goals as goal

pub judge-requires : goal.judge-requires
judge-requires c =
    let g = c.requires.0.picture in (
      omega (arith, c.load_part.auto.list, c.requires.0.first),
      subst (λ (q : Quant). QuantGood q.v) (sym c.quant_for.ensures) (for_good c.args.job.quants c.args.c g.luma g.chroma),
    )

pub returns-in_err-judge : goal.returns-in_err-judge
unfolding tile_part
returns-in_err-judge c =
    let a = c.args in
    let j = c.args.job in
    rw (handed_on _ _ c.from_residual.ensures.1)
    (part_judged j.mode (quant_for j.quants a.c).v (list_in j a.pixels.now a.k a.c) _
    (c.in_err-judge.ensures ∙ ap₂ (λ (q : Quant) (l : List ℤ). coefficients_fault q.v l) c.quant_for.ensures c.load_part.ensures))

pub returns : goal.returns
unfolding tile_part
returns c =
    let a = c.args in
    let j = c.args.job in
    let m = c.measure_component in
    part_measured j.mode (quant_for j.quants a.c).v (list_in j a.pixels.now a.k a.c)
    (c.in_ok-judge.ensures ∙ ap₂ (λ (q : Quant) (l : List ℤ). coefficients_fault q.v l) c.quant_for.ensures c.load_part.ensures) m.result
    (subst (λ (x : List ℤ). Measures (code_fault j.mode x) (length (bytes_of j.mode x)) m.result) c.load_part.ensures
    (code_measures _ _ _ m.ensures))
