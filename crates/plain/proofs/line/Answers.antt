-- `line` meets its contract: an even place, or an odd one from the two even places beside it. Assumes nothing.
use Prim.Native.Nat.{ℕ, ◌+◌, ◌*◌, ◌/◌}
use mathlib.Core.Path.{sym, ap, subst, ◌∙◌}
use native.Mathlib.Omega.{arith}
use lib.IntN.{ℤ}
use mir.Syntax.{w32}
use Rattle.whole.specs.laws.Near.{Near, back, back_near, back_ok}
use Rattle.whole.specs.Tab.{at}
use Rattle.wave_back.specs.Line.{even_at}
use Rattle.wave_back.specs.laws.Line.{odd_step, even_near}
use Rattle.plain.specs.laws.Lines.{avg_of, line_even, line_odd}
use Rattle.plain.proofs.line.Goals as goal
use Rattle.plain.proofs.line.Goals.{After-even_at-y, Else-k-eq0}

-- both even places are near
near_x : (c : Else-k-eq0) → Near 536870913 c.even_at-x.result
near_x c =
    let pre = c.requires in
    let args = c.args in
    let p = c.requires.0 in
    let b = args.k / 2 in
    subst (Near 536870913) (sym c.even_at-x.ensures)
    (even_near _ _ _ (p.near_low b (omega arith)) (p.near_high _ (omega arith)) (p.near_high b (omega arith)))

near_y : (c : After-even_at-y) → Near 536870913 c.even_at-y.result
near_y c =
    let pre = c.requires in
    let p = c.requires.0 in
    let m = c.next in
    subst (Near 536870913) (sym c.even_at-y.ensures)
    (even_near _ _ _ (p.near_low m.result (omega (arith, m.ensures))) (p.near_high _ (omega (arith, m.ensures)))
    (p.near_high m.result (omega (arith, m.ensures))))

pub even_at-x-requires : goal.even_at-x-requires
even_at-x-requires c = (c.requires.0, omega arith)

pub returns-then-k-eq0 : goal.returns-then-k-eq0
returns-then-k-eq0 c =
    let even-at = c.even_at-x in
    let a = c.args in
    let S : ℕ → ℤ = at a.src.now in
    back_ok w32 even-at.result even-at.type_inv ∙ even-at.ensures ∙ line_even (avg_of a.along) a.n (λ
    (i : ℕ). S (a.l + a.d * i)) (λ (i : ℕ). S (a.h + a.d * i)) a.k c.if-k-eq0.true

pub next-requires : goal.next-requires
next-requires c = omega arith

pub even_at-y-requires : goal.even_at-y-requires
even_at-y-requires c =
    let pre = c.requires in
    (pre.0, omega (arith, c.next.ensures))

pub overflow_mul-d : goal.overflow_mul-d
overflow_mul-d c =
    let pre = c.requires in
    let args = c.args in
    omega (arith, pre.0.high (args.k / 2) (omega arith))

pub overflow_add-h : goal.overflow_add-h
overflow_add-h c =
    let pre = c.requires in
    let args = c.args in
    omega (arith, pre.0.high (args.k / 2) (omega arith))

pub offset_bounds-src-h : goal.offset_bounds-src-h
offset_bounds-src-h c =
    let pre = c.requires in
    let args = c.args in
    omega (arith, pre.0.high (args.k / 2) (omega arith))

pub bounds-src-h : goal.bounds-src-h
bounds-src-h c =
    let pre = c.requires in
    let args = c.args in
    omega (arith, pre.0.high (args.k / 2) (omega arith), pre.0.len)

pub odd-requires : goal.odd-requires
odd-requires c =
    let pre = c.requires in
    let args = c.args in (
      back_near w32 (pre.0.near_high (args.k / 2) (omega arith)) tt,
      back_near w32 (near_x ((goal.at.odd-requires c).Else-k-eq0)) tt,
      back_near w32 (near_y (goal.at.odd-requires c).After-even_at-y) tt,
    )

pub returns : goal.returns
returns c =
    let even-at2 = c.even_at-y in
    let next = c.next in
    let if1 = c.if-k-eq0 in
    let even-at = c.even_at-x in
    let pre = c.requires in
    let a = c.args in
    let S : ℕ → ℤ = at a.src.now in
    let L : ℕ → ℤ = λ i. S (a.l + a.d * i) in
    let H : ℕ → ℤ = λ i. S (a.h + a.d * i) in
    back_ok w32 c.odd.result c.odd.type_inv ∙ odd_step (avg_of a.along) a.n H (even_at L H) (a.k / 2) c.odd.ensures
    (back w32 (pre.0.near_high (a.k / 2) (omega arith)) tt)
    (back_ok w32 even-at.result even-at.type_inv ∙ even-at.ensures)
    (back_ok w32 even-at2.result even-at2.type_inv ∙ even-at2.ensures ∙ ap (even_at L H) next.ensures)
    ∙ line_odd (avg_of a.along) a.n L H a.k if1.false
