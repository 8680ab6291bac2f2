-- `columns` meets its contract. The loop keeps `Done`: the places passed hold the level, those before it are as they were. Assumes nothing.
use Prim.Native.Nat.{ℕ, ◌+◌, ◌*◌, ◌%◌, ◌<◌}
use mathlib.Core.Path.{◌≡◌, refl, sym, subst, ◌∙◌}
use native.Mathlib.Nat.{div-lt_iff_lt-mul, mod-lt}
use native.Mathlib.Omega.{arith}
use mir.Syntax.{w32}
use Rattle.whole.specs.laws.Near.{back_ok}
use Rattle.whole.specs.Tab.{at}
use Rattle.bands.specs.laws.Part.{Done}
use Rattle.wave_back.specs.laws.Level.{level_from, from_length}
use Rattle.plain.specs.laws.Fit.{done_is, done_next}
use Rattle.plain.specs.laws.Lines.{col_line, col_is, col_start}
use Rattle.plain.proofs.columns.Goals as goal

pub overflow_mul-w : goal.overflow_mul-w
overflow_mul-w c = omega (arith, c.requires.0.small)

pub overflow_mul-k-end : goal.overflow_mul-k-end
overflow_mul-k-end c = omega (arith, c.requires.0.fits, c.requires.0.small, c.requires.0.some)

pub loop-k-init : goal.loop-k-init
loop-k-init c = let a = c.args in (refl, omega arith, col_start a.dst.now a.from a.n c.requires.0)

pub nonzero_rem-k : goal.nonzero_rem-k
nonzero_rem-k c =
    let pre = c.requires in
    omega (arith, pre.0.some)

pub overflow_mul-n : goal.overflow_mul-n
overflow_mul-n c =
    let pre = c.requires in
    omega (arith, pre.0.fits, pre.0.small, pre.0.some)

pub nonzero_rem-k-in-loop-k : goal.nonzero_rem-k-in-loop-k
nonzero_rem-k-in-loop-k c =
    let pre = c.requires in
    omega (arith, pre.0.some)

pub overflow_add-n : goal.overflow_add-n
overflow_add-n c =
    let pre = c.requires in
    let args = c.args in
    let r : c.loop-k.k % (2 * args.n) < 2 * args.n = mod-lt c.loop-k.k (omega (arith, pre.0.some)) in omega
    (arith, r, pre.0.fits, pre.0.small)

pub nonzero_div-k : goal.nonzero_div-k
nonzero_div-k c =
    let pre = c.requires in
    omega (arith, pre.0.some)

pub line-requires : goal.line-requires
line-requires c =
    let loop = c.loop-k in
    let pre = c.requires in
    let a = c.args in
    let w : 0 < 2 * a.n = omega (arith, pre.0.some) in (
      col_line a.dst.now a.from a.n pre.0 a.src.now pre.1 pre.2 (loop.k % (2 * a.n)) (mod-lt loop.k w),
      (div-lt_iff_lt-mul {k = 2 * a.n} {x = loop.k} {y = 2 * a.n} w).1 (subst (λ (m : ℕ). loop.k < m) loop.invariant.0 c.loop-k-test.true),
    )

pub overflow_add-from : goal.overflow_add-from
overflow_add-from c =
    let loop = c.loop-k in
    let pre = c.requires in
    omega (arith, pre.0.fits, pre.0.len, loop.invariant.0, loop.invariant.1, loop.invariant.2.same, c.loop-k-test.true)

pub offset_bounds-dst-from : goal.offset_bounds-dst-from
offset_bounds-dst-from c =
    let loop = c.loop-k in
    let pre = c.requires in
    omega (arith, pre.0.fits, pre.0.len, loop.invariant.0, loop.invariant.1, loop.invariant.2.same, c.loop-k-test.true)

pub bounds-dst-from : goal.bounds-dst-from
bounds-dst-from c =
    let loop = c.loop-k in
    let pre = c.requires in
    omega (arith, pre.0.fits, pre.0.len, loop.invariant.0, loop.invariant.1, loop.invariant.2.same, c.loop-k-test.true)

pub overflow_step-k : goal.overflow_step-k
overflow_step-k c =
    let loop = c.loop-k in
    let pre = c.requires in
    omega (arith, pre.0.fits, pre.0.len, loop.invariant.0, loop.invariant.1, loop.invariant.2.same, c.loop-k-test.true)

pub loop-k-preserved : goal.loop-k-preserved
loop-k-preserved c =
    let loop-test = c.loop-k-test in
    let l = c.loop-k in
    let pre = c.requires in
    let a = c.args in
    let d = c.args.dst.now in
    let v = back_ok w32 c.line.result c.line.type_inv ∙ c.line.ensures
    ∙ col_is d a.from a.n pre.0 a.src.now pre.1 pre.2 l.k (subst (λ (m : ℕ). l.k < m) l.invariant.0 loop-test.true) in (
      l.invariant.0,
      omega (arith, l.invariant.0, loop-test.true),
      done_next (at (level_from a.from a.n d)) a.from l.k d l.dst _
          (omega (arith, l.invariant.0, loop-test.true, pre.0.fits, pre.0.len)) v l.invariant.2,
    )

pub shape_of-dst : goal.shape_of-dst
shape_of-dst c = c.loop-k.invariant.2.same

pub returns : goal.returns
returns c =
    let pre = c.requires in
    let a = c.args in
    let l = c.loop-k in
    let d = c.args.dst.now in
    let e : a.from + l.k ≡ 4096 = omega (arith, c.loop-k-test.false, l.invariant.0, l.invariant.1, pre.0.fits) in
    done_is (level_from a.from a.n d) d l.dst 4096 pre.0.len
    (from_length a.from a.n d (pre.0.len ∙ sym pre.0.fits) ∙ pre.0.len)
    (subst (λ (i : ℕ). Done (at (level_from a.from a.n d)) i d l.dst) e l.invariant.2)
