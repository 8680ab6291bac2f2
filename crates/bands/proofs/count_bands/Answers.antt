-- Each turn keeps it, and at the end it is what is promised.
use Prim.Native.Nat.{◌+◌, ◌≤◌, ◌<◌}
use mathlib.Core.Path.{◌≡◌, refl, ap, ◌∙◌}
use native.Mathlib.Omega.{arith}
use lib.ListN.{length}
use Rattle.whole.specs.Tab.{at}
use Rattle.whole.specs.laws.Part.{part_length}
use Rattle.bands.specs.declared.Band.{Band}
use Rattle.bands.specs.laws.Steps.{overs, limit_of, limit_at}
use Rattle.bands.specs.laws.Band.{BandGood, band_is, quant_is}
use Rattle.bands.specs.laws.Range.{overs_le}
use Rattle.bands.specs.laws.Judge.{limits_turn}
use Rattle.bands.proofs.count_bands.Goals as goal
use Rattle.bands.proofs.count_bands.Goals.{After-band_at-b, After-count_over-bad}

-- the band that begins here
here : (c : After-band_at-b) → BandGood c.loop-from.from c.band_at-b.result
here c = band_is c.band_at-b.ensures

ends : (c : After-band_at-b) → (c.loop-from.from < c.band_at-b.result.end) × (c.band_at-b.result.end ≤ 4032) × (c.band_at-b.result.end ≤ length c.args.work.now)
ends c =
    let l : c.loop-from.from < 4032 = c.loop-from-test.true in
    ((here c).behind (omega arith), (here c).before l, omega (arith, (here c).before l, c.requires.0))

-- the count with this band
turn : (c : After-count_over-bad) → c.loop-from.bad + c.count_over-bad.result ≡ overs (limit_at c.args.q.v) (at c.args.work.now) c.band_at-b.result.end
turn c =
    let q = c.args.q.v in
    let n = c.quant_of-n in
    let is = quant_is q c.loop-from.from n.result c.band_at-b.result n.ensures.0 c.band_at-b.ensures in
    let lim : c.limit.result ≡ limit_at q c.loop-from.from = c.limit.ensures ∙ ap limit_of is in
    limits_turn q c.args.work.now c.loop-from.from c.band_at-b.result.end c.limit.result c.loop-from.bad c.count_over-bad.result
    c.loop-from-test.true (ap (λ (x : Band). x.end) c.band_at-b.ensures) c.requires.0 lim c.loop-from.invariant.1 c.count_over-bad.ensures

pub loop-from-init : goal.loop-from-init
unfolding overs
loop-from-init c = (omega arith, refl)

pub quant_of-n-requires : goal.quant_of-n-requires
quant_of-n-requires c = (c.requires.1, (here (goal.at.quant_of-n-requires c).After-band_at-b).index)

pub offset_bounds-work-from : goal.offset_bounds-work-from
offset_bounds-work-from c = omega (arith, ends (goal.at.offset_bounds-work-from c).After-band_at-b)

pub slice_bounds-count_over-count : goal.slice_bounds-count_over-count
slice_bounds-count_over-count c = omega (arith, ends (goal.at.slice_bounds-count_over-count c).After-band_at-b)

pub slice_bounds-count_over-start : goal.slice_bounds-count_over-start
slice_bounds-count_over-start c = omega (arith, ends (goal.at.slice_bounds-count_over-start c).After-band_at-b)

pub slice_bounds-count_over-end : goal.slice_bounds-count_over-end
slice_bounds-count_over-end c = omega (arith, ends (goal.at.slice_bounds-count_over-end c).After-band_at-b)

pub limit-requires : goal.limit-requires
limit-requires c = (c.quant_of-n.ensures.1, c.quant_of-n.ensures.2)

pub count_over-bad-requires : goal.count_over-bad-requires
count_over-bad-requires c =
    let e = ends (goal.at.count_over-bad-requires c).After-band_at-b in
    omega (arith, part_length c.args.work.now c.loop-from.from c.band_at-b.result.end (omega arith) (omega arith))

pub overflow_add-bad : goal.overflow_add-bad
overflow_add-bad c =
    omega (
      arith,
      turn (goal.at.overflow_add-bad c).After-count_over-bad,
      ends (goal.at.overflow_add-bad c).After-band_at-b,
      overs_le (limit_at c.args.q.v)
          (at c.args.work.now) c.band_at-b.result.end,
    )

pub loop-from-smaller : goal.loop-from-smaller
loop-from-smaller c = omega (arith, ends (goal.at.loop-from-smaller c).After-band_at-b)

pub loop-from-preserved : goal.loop-from-preserved
loop-from-preserved c = ((ends (goal.at.loop-from-preserved c).After-band_at-b).1, turn (goal.at.loop-from-preserved c).After-count_over-bad)

pub returns : goal.returns
returns c =
    let n : c.loop-from.from ≡ 4032 = omega arith in
    c.loop-from.invariant.1 ∙ ap (overs (limit_at c.args.q.v) (at c.args.work.now)) n
