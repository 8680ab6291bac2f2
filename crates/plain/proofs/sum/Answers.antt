-- `sum` meets its contract. The loop keeps `Summing`: s is the sum so far, each place passed holds its own sum, all are in range. Assumes nothing.
use Prim.Native.Nat.{ℕ, ◌+◌, ◌<◌}
use mathlib.Core.Path.{◌≡◌, sym, subst, ◌∙◌}
use native.Mathlib.Omega.{arith}
use lib.IntN.{ℤ, ◌+ℤ◌}
use lib.ListN.{length}
use mathlib.Core.List.{List}
use Rattle.whole.specs.laws.Tab.{AllNear}
use mir.Syntax.{w32}
use mir.Val.{to_z, of_z}
use Rattle.whole.specs.laws.Near.{Near, back, back_near, back_ok}
use Rattle.whole.specs.Tab.{at}
use Rattle.bands.specs.Bands.{ll3}
use Rattle.bands.specs.laws.Range.{sum_so_far}
use Rattle.plain.specs.laws.Fit.{Summing, sum_start, sum_here, sum_next, sum_bad, sum_end}
use Rattle.plain.proofs.sum.Goals as goal
use Rattle.plain.proofs.sum.Goals.{After-plus-s}

-- what is added is near
near : (before now : List ℤ) (len : length before ≡ 4096) → AllNear 32767 before → (s : ℤ) (i : ℕ) → Summing before now s i → i < 64 →
    Near 32767 (at now (4032 + i))
near before now len a s i w h = subst (Near 32767) (sym (sum_here before len now s i w h)) (a.all (4032 + i))

-- the sum at this place
value : (c : After-plus-s) → let l = c.loop-i in
    to_z w32 (of_z w32 c.plus-s.result) ≡ to_z w32 l.s-bits +ℤ ll3 c.args.work.now l.i
value c =
    let l = c.loop-i in
    let pre = c.requires in
    let a = c.args.work.now in
    let s = to_z w32 l.s-bits in
    cc (
      back_ok w32 c.plus-s.result c.plus-s.type_inv,
      c.plus-s.ensures,
      back w32 (near a l.work pre.0 pre.1 s l.i l.invariant c.loop-i-test.true) tt,
      sum_here a pre.0 l.work s l.i l.invariant c.loop-i-test.true,
    )

pub loop-i-init : goal.loop-i-init
loop-i-init c = sum_start c.args.work.now c.requires.0

pub slice_copy_out-plus : goal.slice_copy_out-plus
slice_copy_out-plus c =
    let pre = c.requires in
    omega (arith, c.loop-i.invariant.done.same, pre.0, c.loop-i-test.true)

pub plus-s-requires : goal.plus-s-requires
plus-s-requires c =
    let l = c.loop-i in
    let pre = c.requires in
    let args = c.args in
    let a = c.args.work.now in
    let so_far = sum_so_far (ll3 a) l.i l.invariant.room (λ k. pre.1.all (4032 + k)) in
    (subst (Near 2097152) (sym l.invariant.so_far) so_far, back_near w32 (near a l.work pre.0 pre.1 _ l.i l.invariant c.loop-i-test.true) tt)

pub shape_of-work-then-not-in_range : goal.shape_of-work-then-not-in_range
shape_of-work-then-not-in_range c =
    let loop = c.loop-i in
    loop.invariant.done.same

pub returns-then-not-in_range : goal.returns-then-not-in_range
returns-then-not-in_range c =
    let loop-test = c.loop-i-test in
    let l = c.loop-i in
    let pre = c.requires in
    let args = c.args in
    sum_bad args.work.now pre.0 l.work (to_z w32 l.s-bits) l.i l.invariant loop-test.true _ (value (goal.at.returns-then-not-in_range c).After-plus-s) l.work
    (sym c.in_range.ensures ∙ c.if-not-in_range.true)

pub bounds-work-i : goal.bounds-work-i
bounds-work-i c =
    let loop-test = c.loop-i-test in
    let loop = c.loop-i in
    let pre = c.requires in
    omega (arith, loop.invariant.done.same, pre.0, loop-test.true)

pub loop-i-preserved : goal.loop-i-preserved
loop-i-preserved c =
    let loop-test = c.loop-i-test in
    let l = c.loop-i in
    let pre = c.requires in
    let args = c.args in
    sum_next args.work.now pre.0 l.work (to_z w32 l.s-bits) l.i l.invariant loop-test.true _ (value (goal.at.loop-i-preserved c).After-plus-s)
    (sym c.in_range.ensures ∙ c.if-not-in_range.false)

pub shape_of-work : goal.shape_of-work
shape_of-work c = c.loop-i.invariant.done.same

pub returns : goal.returns
returns c =
    let pre = c.requires in
    let args = c.args in
    let l = c.loop-i in sum_end args.work.now pre.0 l.work (to_z w32 l.s-bits) l.i l.invariant c.loop-i-test.false
