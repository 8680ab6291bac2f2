-- `even_at` meets its contract: the three numbers lie in the list. Assumes nothing.
use Prim.Native.Nat.{ℕ, ◌+◌, ◌*◌}
use mathlib.Core.Path.{ap, ◌∙◌}
use native.Mathlib.Omega.{arith}
use lib.IntN.{ℤ}
use mir.Syntax.{w32}
use Rattle.whole.specs.laws.Near.{back, back_near, back_ok}
use Rattle.whole.specs.Tab.{at}
use Rattle.wave_back.specs.laws.Line.{even_step}
use Rattle.plain.proofs.even_at.Goals as goal

pub overflow_mul-d : goal.overflow_mul-d
overflow_mul-d c = omega (arith, c.requires.0.low c.args.c c.requires.1)

pub overflow_add-l : goal.overflow_add-l
overflow_add-l c = omega (arith, c.requires.0.low c.args.c c.requires.1)

pub offset_bounds-src-l : goal.offset_bounds-src-l
offset_bounds-src-l c = omega (arith, c.requires.0.low c.args.c c.requires.1)

pub bounds-src-l : goal.bounds-src-l
bounds-src-l c = omega (arith, c.requires.0.low c.args.c c.requires.1, c.requires.0.len)

pub overflow_mul-d-2 : goal.overflow_mul-d-2
overflow_mul-d-2 c =
    let pre = c.requires in
    omega (arith, pre.0.high c.prev.result (omega (arith, c.prev.ensures, pre.1)))

pub overflow_add-h : goal.overflow_add-h
overflow_add-h c =
    let pre = c.requires in
    omega (arith, pre.0.high c.prev.result (omega (arith, c.prev.ensures, pre.1)))

pub offset_bounds-src-h : goal.offset_bounds-src-h
offset_bounds-src-h c =
    let pre = c.requires in
    omega (arith, pre.0.high c.prev.result (omega (arith, c.prev.ensures, pre.1)))

pub bounds-src-h : goal.bounds-src-h
bounds-src-h c =
    let pre = c.requires in
    omega (arith, pre.0.high c.prev.result (omega (arith, c.prev.ensures, pre.1)), pre.0.len)

pub overflow_mul-d-3 : goal.overflow_mul-d-3
overflow_mul-d-3 c =
    let pre = c.requires in
    let args = c.args in
    omega (arith, pre.0.high args.c pre.1)

pub overflow_add-h-2 : goal.overflow_add-h-2
overflow_add-h-2 c =
    let pre = c.requires in
    let args = c.args in
    omega (arith, pre.0.high args.c pre.1)

pub offset_bounds-src-h-2 : goal.offset_bounds-src-h-2
offset_bounds-src-h-2 c =
    let pre = c.requires in
    let args = c.args in
    omega (arith, pre.0.high args.c pre.1)

pub bounds-src-h-2 : goal.bounds-src-h-2
bounds-src-h-2 c =
    let pre = c.requires in
    let args = c.args in
    omega (arith, pre.0.high args.c pre.1, pre.0.len)

pub even-requires : goal.even-requires
even-requires c =
    let prev = c.prev in
    let pre = c.requires in
    let args = c.args in
    let p = c.requires.0 in
    let i = c.args.c in
    let h = c.requires.1 in (
      back_near w32 (p.near_low i h) tt,
      back_near w32 (p.near_high prev.result (omega (arith, prev.ensures, h))) tt,
      back_near w32
          (p.near_high i h) tt,
    )

pub returns : goal.returns
returns c =
    let prev = c.prev in
    let pre = c.requires in
    let a = c.args in
    let p = c.requires.0 in
    let h = c.requires.1 in
    let S : ℕ → ℤ = at a.src.now in
    back_ok w32 c.even.result c.even.type_inv ∙ even_step (λ (i : ℕ). S (a.l + a.d * i)) (λ (i : ℕ). S (a.h + a.d * i)) a.c
    c.even.ensures (back w32 (p.near_low a.c h) tt)
    (back w32 (p.near_high prev.result (omega (arith, prev.ensures, h))) tt ∙ ap (λ (i : ℕ). S (a.h + a.d * i)) prev.ensures)
    (back w32 (p.near_high a.c h) tt)
