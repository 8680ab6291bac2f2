-- `load_row` meets its contract. The loop keeps `Loaded`: the places before it hold their samples. Assumes nothing.
use Prim.Native.Nat.{ℕ, ◌+◌, ◌*◌, ◌<◌}
use mathlib.Core.Path.{◌≡◌, ◌∙◌, sym, subst}
use native.Mathlib.Omega.{arith}
use mir.Syntax.{w32}
use Rattle.whole.specs.laws.Near.{Near, back_ok}
use Rattle.tile_forth.specs.TileForth.{sample_at}
use Rattle.tile_forth.specs.laws.TileForth.{Loaded, loaded_more, edge_in, pixel_in, row_sample}
use Rattle.tile_forth.proofs.load_row.Goals as goal

pub overflow_mul-from : goal.overflow_mul-from
overflow_mul-from c =
    let args = c.args in
    let pre = c.requires in
    let good = c.well_formed in
    let y : c.last_or.result < args.h = subst (λ (n : ℕ). n < args.h) (sym c.last_or.ensures) (edge_in args.h _ pre.le_w.2) in
    omega (arith, pixel_in args.w args.h 0 c.last_or.result pre.le_w.0 y, pre.le_w.4, good)

pub overflow_mul-from-2 : goal.overflow_mul-from-2
overflow_mul-from-2 c =
    let args = c.args in
    let pre = c.requires in
    let good = c.well_formed in
    let y : c.last_or.result < args.h = subst (λ (n : ℕ). n < args.h) (sym c.last_or.ensures) (edge_in args.h _ pre.le_w.2) in
    omega (arith, pixel_in args.w args.h 0 c.last_or.result pre.le_w.0 y, pre.le_w.4, good)

pub loop-x-init : goal.loop-x-init
loop-x-init c =
    let pre = c.requires in
    let a = c.args in
    let e : 64 * a.j ≡ 64 * a.j + 0 = omega arith in
    subst (λ (i : ℕ). Loaded (sample_at a.pixels.now a.w a.h a.tx a.ty a.c) i a.work.now) e pre.j_bound.1

pub column-requires : goal.column-requires
column-requires c = (c.requires.le_w.0, omega (arith, c.loop-x-test.true))

pub overflow_mul-column : goal.overflow_mul-column
overflow_mul-column c =
    let last_or = c.last_or in
    let pre = c.requires in
    let good = c.well_formed in
    let a = c.args in
    let x : c.column.result < a.w = subst (λ (n : ℕ). n < a.w) (sym c.column.ensures) (edge_in a.w _ pre.le_w.0) in
    let y : last_or.result < a.h = subst (λ (n : ℕ). n < a.h) (sym last_or.ensures) (edge_in a.h _ pre.le_w.2) in
    omega (arith, pixel_in a.w a.h c.column.result last_or.result x y, pre.le_w.4, good)

pub overflow_add-from : goal.overflow_add-from
overflow_add-from c =
    let last_or = c.last_or in
    let pre = c.requires in
    let good = c.well_formed in
    let a = c.args in
    let x : c.column.result < a.w = subst (λ (n : ℕ). n < a.w) (sym c.column.ensures) (edge_in a.w _ pre.le_w.0) in
    let y : last_or.result < a.h = subst (λ (n : ℕ). n < a.h) (sym last_or.ensures) (edge_in a.h _ pre.le_w.2) in
    omega (arith, pixel_in a.w a.h c.column.result last_or.result x y, pre.le_w.4, good)

pub bytes_at-requires : goal.bytes_at-requires
bytes_at-requires c =
    let last_or = c.last_or in
    let pre = c.requires in
    let good = c.well_formed in
    let a = c.args in
    let x : c.column.result < a.w = subst (λ (n : ℕ). n < a.w) (sym c.column.ensures) (edge_in a.w _ pre.le_w.0) in
    let y : last_or.result < a.h = subst (λ (n : ℕ). n < a.h) (sym last_or.ensures) (edge_in a.h _ pre.le_w.2) in
    omega (arith, pixel_in a.w a.h c.column.result last_or.result x y, pre.le_w.4, good)

pub overflow_mul-j : goal.overflow_mul-j
overflow_mul-j c =
    let pre = c.requires in
    omega (arith, pre.j_bound.0)

pub overflow_add-j : goal.overflow_add-j
overflow_add-j c =
    let loop-test = c.loop-x-test in
    let pre = c.requires in
    omega (arith, pre.j_bound.0, loop-test.true)

pub offset_bounds-work-j : goal.offset_bounds-work-j
offset_bounds-work-j c =
    let loop-test = c.loop-x-test in
    let pre = c.requires in
    omega (arith, pre.j_bound.0, loop-test.true)

pub bounds-work-j : goal.bounds-work-j
bounds-work-j c =
    let loop-test = c.loop-x-test in
    let loop = c.loop-x in
    let pre = c.requires in
    omega (arith, pre.j_bound.0, loop.invariant.len, loop-test.true)

pub loop-x-preserved : goal.loop-x-preserved
loop-x-preserved c =
    let loop-test = c.loop-x-test in
    let last_or = c.last_or in
    let pre = c.requires in
    let a = c.args in
    let l = c.loop-x in
    let f = sample_at a.pixels.now a.w a.h a.tx a.ty a.c in
    let b = back_ok w32 c.bytes_at.result c.bytes_at.type_inv in
    let e : 64 * a.j + l.x + 1 ≡ 64 * a.j + (l.x + 1) = omega arith in
    let s = row_sample a.pixels.now a.w a.h a.tx a.ty a.c a.j l.x
    (3 * (last_or.result * a.w) + 3 * c.column.result) loop-test.true (cc (last_or.ensures, c.column.ensures)) in
    let m = loaded_more f (64 * a.j + l.x) l.work _ (omega (arith, pre.j_bound.0, loop-test.true)) (b ∙ (c.bytes_at.ensures.0 ∙ s))
    (subst (Near 16384) (sym b) c.bytes_at.ensures.1) l.invariant in
    rw (← e) m

pub shape_of-work : goal.shape_of-work
shape_of-work c =
    let pre = c.requires in
    c.loop-x.invariant.len ∙ sym pre.j_bound.1.len

pub returns : goal.returns
returns c =
    let a = c.args in
    let l = c.loop-x in
    let e : 64 * a.j + l.x ≡ 64 * (a.j + 1) = omega (arith, c.loop-x-test.false) in
    subst (λ (i : ℕ). Loaded (sample_at a.pixels.now a.w a.h a.tx a.ty a.c) i l.work) e l.invariant
