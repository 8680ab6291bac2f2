-- From a place to the end of its band all places have the quantiser that is called with (`same_quant`); the part that comes back is put there (`by_part`).
use Rattle.std.proofs.Common.{◌≡◌, sym, subst, ◌∙◌, arith, ℕ, ℤ, ◌+◌, ◌-◌, ◌<◌, ◌≤◌, length, take, drop}
use Rattle.whole.specs.Tab.{at}
use Rattle.whole.specs.laws.Part.{part_length, part_at}
use Rattle.bands.specs.declared.Band.{Band}
use Rattle.bands.specs.Bands.{quant_at}
use Rattle.bands.specs.laws.Band.{BandGood, band_is, quant_is, same_quant}
use Rattle.bands.specs.laws.Part.{by_part, by_near}
use Rattle.bands.proofs.each_band.Goals as goal
use Rattle.bands.proofs.each_band.Goals.{After-band_at-b, After-quant_of-n}

-- the band that begins here
here : (g : _) (c : After-band_at-b g) → BandGood c.loop-from.from c.band_at-b.result
here g c = band_is c.band_at-b.ensures

ends : (g : _) (c : After-band_at-b g) → (c.loop-from.from < c.band_at-b.result.end) × (c.band_at-b.result.end ≤ length c.loop-from.work)
ends g c =
    let l : c.loop-from.from < 4096 = c.loop-from-test.true in
    ((here g c).behind l, omega (arith, (here g c).within, c.requires.good.0))

-- what is called with, at a place of the part
long : (g : _) (c : After-quant_of-n g) →
    length (take (c.band_at-b.result.end - c.loop-from.from) (drop c.loop-from.from c.loop-from.work)) ≡ c.band_at-b.result.end - c.loop-from.from
long g c = let e = ends g c.before in part_length c.loop-from.work c.loop-from.from c.band_at-b.result.end (omega arith) e.1

is : (g : _) (c : After-quant_of-n g) (k : ℕ) → k < c.band_at-b.result.end - c.loop-from.from →
    (c.quant_of-n.result ≡ quant_at c.args.q.v (c.loop-from.from + k))
    × (at (take (c.band_at-b.result.end - c.loop-from.from) (drop c.loop-from.from c.loop-from.work)) k ≡ at c.args.work.now (c.loop-from.from + k))
is g c k h =
    let a = c.loop-from.from in
    let b = c.band_at-b in
    let i : a + k < b.result.end = omega arith in
    let n = quant_is c.args.q.v a c.quant_of-n.result b.result c.quant_of-n.ensures.0 b.ensures in (
      n ∙ same_quant c.args.q.v a (a + k) (omega arith) (subst (λ (x : Band). a + k < x.end) b.ensures i),
      part_at c.loop-from.work a (b.result.end - a) k h ∙ c.loop-from.invariant.1.rest (a + k) (omega arith),
    )

pub quant_of-n-requires : goal.quant_of-n-requires
quant_of-n-requires g c = (c.requires.good.2, (here g (goal.at.quant_of-n-requires g c).After-band_at-b).index)

pub slice_bounds-each_value-count : goal.slice_bounds-each_value-count
slice_bounds-each_value-count g c = omega (arith, ends g (goal.at.slice_bounds-each_value-count g c).After-band_at-b)

pub slice_bounds-each_value-start : goal.slice_bounds-each_value-start
slice_bounds-each_value-start g c = omega (arith, ends g (goal.at.slice_bounds-each_value-start g c).After-band_at-b)

pub slice_bounds-each_value-end : goal.slice_bounds-each_value-end
slice_bounds-each_value-end g c = omega (arith, ends g (goal.at.slice_bounds-each_value-end g c).After-band_at-b)

pub each_value-requires-clause-near : goal.each_value-requires-clause-near
each_value-requires-clause-near g c = by_near _ _ _ _ _ c.loop-from.invariant.1 c.requires.good.1

pub each_value-requires-clause-can : goal.each_value-requires-clause-can
each_value-requires-clause-can g c = λ k h.
    let q = (goal.at.each_value-requires-clause-can g c).After-quant_of-n in
    let l : k < c.band_at-b.result.end - c.loop-from.from = omega (arith, long g q) in
    let p = is g q k l in
    subst (λ (m : ℕ). g.F.Fn.pre c.args.f (m, (at (take (c.band_at-b.result.end - c.loop-from.from) (drop c.loop-from.from c.loop-from.work)) k, tt)))
    (sym p.0)
    (subst (λ (z : ℤ). g.F.Fn.pre c.args.f (quant_at c.args.q.v (c.loop-from.from + k), (z, tt))) (sym p.1)
    (c.requires.can (c.loop-from.from + k) (omega (arith, (here g q.before).within))))

pub loop-from-smaller : goal.loop-from-smaller
loop-from-smaller g c = omega (arith, ends g (goal.at.loop-from-smaller g c).After-band_at-b)

pub loop-from-preserved : goal.loop-from-preserved
loop-from-preserved g c =
    let q = (goal.at.loop-from-preserved g c).After-quant_of-n in
    let a = c.loop-from.from in
    let e = ends g q.before in
    let new = c.each_value.new.part in (
      (here g q.before).within,
      by_part (λ k x y. goal.F-post g c.args.f (quant_at c.args.q.v k) x y) c.args.work.now c.loop-from.work new a c.band_at-b.result.end
          (omega arith) e.1 (c.each_value.auto.part ∙ long g q) c.loop-from.invariant.1
          (λ k h.
          let p = is g q k h in
          subst (λ (m : ℕ). g.F.Fn.post c.args.f (m, (at c.args.work.now (a + k), tt)) (at new k)) p.0
          (subst (λ (z : ℤ). g.F.Fn.post c.args.f (c.quant_of-n.result, (z, tt)) (at new k)) p.1
          (c.each_value.ensures k (omega (arith, long g q))))),
    )
