-- `rows` meets its contract. The loop keeps `Done`: the places passed hold the row pass. Assumes nothing.
use Prim.Native.Nat.{ℕ, ◌*◌, ◌/◌, ◌%◌, ◌<◌}
use mathlib.Core.Path.{refl, subst, ◌∙◌}
use native.Mathlib.Nat.{div-lt_iff_lt-mul, mod-lt}
use native.Mathlib.Omega.{arith}
use lib.ListN.{drop}
use mir.Syntax.{w32}
use Rattle.whole.specs.laws.Near.{back_ok}
use Rattle.whole.specs.Tab.{at}
use Rattle.bands.specs.laws.Part.{done_none, done_put}
use Rattle.plain.specs.laws.Lines.{rows_at}
use Rattle.plain.proofs.rows.Goals as goal

pub overflow_mul-w : goal.overflow_mul-w
overflow_mul-w c = omega (arith, c.requires.0.small)

pub overflow_mul-k-end : goal.overflow_mul-k-end
overflow_mul-k-end c = omega (arith, c.requires.0.fits, c.requires.0.small, c.requires.0.some)

pub loop-k-init : goal.loop-k-init
loop-k-init c = (refl, omega arith, done_none _ _)

pub nonzero_div-k : goal.nonzero_div-k
nonzero_div-k c =
    let pre = c.requires in
    omega (arith, pre.0.some)

pub nonzero_rem-k : goal.nonzero_rem-k
nonzero_rem-k c =
    let pre = c.requires in
    omega (arith, pre.0.some)

pub row-requires : goal.row-requires
row-requires c =
    let pre = c.requires in
    let args = c.args in
    let k = c.loop-k.k in (
      pre.0,
      (div-lt_iff_lt-mul {k = 2 * args.n} {x = k} {y = 2 * args.n} (omega (arith, pre.0.some))).1
          (subst (λ (m : ℕ). k < m) c.loop-k.invariant.0 c.loop-k-test.true),
      mod-lt k (omega
          (arith, pre.0.some)),
    )

pub offset_bounds-dst-k : goal.offset_bounds-dst-k
offset_bounds-dst-k c =
    let loop = c.loop-k in
    let pre = c.requires in
    omega (arith, pre.0.fits, pre.1, loop.invariant.0, loop.invariant.1, loop.invariant.2.same, c.loop-k-test.true)

pub bounds-dst-k : goal.bounds-dst-k
bounds-dst-k c =
    let loop = c.loop-k in
    let pre = c.requires in
    omega (arith, pre.0.fits, pre.1, loop.invariant.0, loop.invariant.1, loop.invariant.2.same, c.loop-k-test.true)

pub overflow_step-k : goal.overflow_step-k
overflow_step-k c =
    let loop = c.loop-k in
    let pre = c.requires in
    omega (arith, pre.0.fits, pre.1, loop.invariant.0, loop.invariant.1, loop.invariant.2.same, c.loop-k-test.true)

pub loop-k-preserved : goal.loop-k-preserved
loop-k-preserved c =
    let l = c.loop-k in
    let pre = c.requires in
    let a = c.args in
    let v = back_ok w32 c.row.result c.row.type_inv ∙ c.row.ensures in (
      l.invariant.0,
      omega (arith, l.invariant.0, c.loop-k-test.true),
      done_put (λ (i : ℕ). rows_at a.n (at (drop a.from a.src.now)) (i / (2 * a.n)) (i % (2 * a.n)))
          l.k a.dst.now l.dst _ (omega (arith, l.invariant.0, c.loop-k-test.true, pre.0.fits, pre.1)) v l.invariant.2,
    )

pub shape_of-dst : goal.shape_of-dst
shape_of-dst c = c.loop-k.invariant.2.same

pub returns : goal.returns
returns c = record { place = λ k h. c.loop-k.invariant.2.done k (omega (arith, c.loop-k.invariant.0, c.loop-k-test.false)) }
