-- `scale` meets its contract. The loop keeps `Scaling`: each place passed is scaled and in range. Assumes nothing.
use Prim.Native.Nat.{ℕ, ◌-◌, ◌^◌}
use mathlib.Core.Path.{◌≡◌, sym, ap, subst, ◌∙◌}
use native.Mathlib.Omega.{arith}
use lib.IntN.{pos}
use mir.Syntax.{w32}
use mir.Val.{to_z, of_z}
use Rattle.whole.specs.laws.Near.{Near, back, back_near, back_ok}
use Rattle.whole.specs.Tab.{at}
use Rattle.bands.specs.Bands.{scale_at}
use Rattle.plain.specs.laws.Fit.{scale_start, scale_next, scale_bad, scale_end}
use Rattle.plain.proofs.scale.Goals as goal
use Rattle.plain.proofs.scale.Goals.{After-scaled-v, At-loop-k}

-- what is scaled
here : (s : At-loop-k) → at s.loop-k.work s.loop-k.k ≡ at s.args.work.now s.loop-k.k
here s = s.loop-k.invariant.done.rest s.loop-k.k (omega arith)

near : (s : At-loop-k) → Near 32767 (at s.loop-k.work s.loop-k.k)
near s = subst (Near 32767) (sym (here s)) (s.requires.1.all s.loop-k.k)

-- the value at this place
value : (c : After-scaled-v) → let a = c.args in
    to_z w32 (of_z w32 c.scaled-v.result) ≡ scale_at a.q.v (at a.work.now) c.loop-k.k
value c =
    let e = ap (λ (n : ℕ). pos (2 ^ (n - 1))) c.quant.ensures.0 in
    cc (
      back_ok w32 c.scaled-v.result c.scaled-v.type_inv,
      c.scaled-v.ensures,
      back w32 (near c.before.before.before.before) tt,
      here c.before.before.before.before,
      e,
    )

pub loop-k-init : goal.loop-k-init
loop-k-init c = scale_start c.args.q.v c.args.work.now c.requires.0

pub slice_copy_out-scaled : goal.slice_copy_out-scaled
slice_copy_out-scaled c =
    let pre = c.requires in
    omega (arith, c.loop-k.invariant.done.same, pre.0, c.loop-k-test.true)

pub quant-requires : goal.quant-requires
quant-requires c = (c.requires.2, c.loop-k-test.true)

pub scaled-v-requires : goal.scaled-v-requires
scaled-v-requires c =
    (back_near w32 (near ((goal.at.scaled-v-requires c).At-loop-k)) tt, c.quant.ensures.1, c.quant.ensures.2)

pub shape_of-work-then-not-in_range : goal.shape_of-work-then-not-in_range
shape_of-work-then-not-in_range c =
    let loop = c.loop-k in
    loop.invariant.done.same

pub returns-then-not-in_range : goal.returns-then-not-in_range
returns-then-not-in_range c =
    let loop-test = c.loop-k-test in
    let l = c.loop-k in
    let pre = c.requires in
    let args = c.args in
    scale_bad args.q.v args.work.now pre.0 l.work l.k l.invariant loop-test.true _ (value ((goal.at.returns-then-not-in_range c).After-scaled-v)) l.work
    (sym c.in_range.ensures ∙ c.if-not-in_range.true)

pub bounds-work-k : goal.bounds-work-k
bounds-work-k c =
    let loop-test = c.loop-k-test in
    let loop = c.loop-k in
    let pre = c.requires in
    omega (arith, loop.invariant.done.same, pre.0, loop-test.true)

pub loop-k-preserved : goal.loop-k-preserved
loop-k-preserved c =
    let loop-test = c.loop-k-test in
    let l = c.loop-k in
    let pre = c.requires in
    let args = c.args in
    scale_next args.q.v args.work.now pre.0 l.work l.k l.invariant loop-test.true _ (value ((goal.at.loop-k-preserved c).After-scaled-v))
    (sym c.in_range.ensures ∙ c.if-not-in_range.false)

pub shape_of-work : goal.shape_of-work
shape_of-work c = c.loop-k.invariant.done.same

pub returns : goal.returns
returns c =
    let loop = c.loop-k in
    let pre = c.requires in
    let args = c.args in
    scale_end args.q.v args.work.now pre.0 loop.work loop.k loop.invariant c.loop-k-test.false
