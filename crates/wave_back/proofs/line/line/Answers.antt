-- Each turn keeps it, and at the end it is what is promised.
use Prim.Native.Nat.{◌-◌, ◌+◌, min}
use mathlib.Core.Path.{◌≡◌, ◌∙◌, ap, sym, subst}
use native.Mathlib.Nat.{not-suc-le-zero}
use native.Mathlib.Omega.{arith}
use lib.ListN.{length, length-set}
use mir.Syntax.{w32}
use mir.Val.{to_z}
use Rattle.whole.specs.laws.Near.{Near, back, back_near, back_ok}
use Rattle.whole.specs.Tab.{at}
use Rattle.wave_back.specs.Line.{row_avg, even_at}
use Rattle.wave_back.specs.laws.Line.{pair_put, line_is, odd_step, even_step, even_near}
use Rattle.wave_back.proofs.line.line.Goals as goal
use Rattle.wave_back.proofs.line.line.Goals.{After-even-y, At-loop-j}

x_near : (s : At-loop-j) → Near 536870913 (to_z w32 s.loop-j.x-bits)
x_near s =
    let p = s.requires.all_near in
    subst (Near 536870913) (sym s.loop-j.invariant.0) (even_near _ _ s.loop-j.j (p.0.all _) (p.1.all _) (p.1.all _))

y_is :
    (c : After-even-y) →
    c.even-y.result ≡ even_at (at c.args.lo.now)
    (at c.args.hi.now)
    (c.loop-j.j + 1)
y_is c =
    let p = c.requires.all_near in
    let hi = c.args.hi.now in
    let e : c.loop-j.j ≡ c.loop-j.j + 1 - 1 = omega arith in
    even_step _ _ (c.loop-j.j + 1) c.even-y.ensures (back w32 (p.0.all _) tt) (back w32 (p.1.all c.loop-j.j) tt ∙ ap (at hi) e)
    (back w32 (p.1.all _) tt)

y_near : (c : After-even-y) → Near 536870913 c.even-y.result
y_near c =
    let p = c.requires.all_near in
    subst (Near 536870913) (sym (y_is c)) (even_near _ _ _ (p.0.all _) (p.1.all _) (p.1.all _))

pub even-x-requires : goal.even-x-requires
even-x-requires c = let p = c.requires.all_near in (back_near w32 (p.0.all _) tt, back_near w32 (p.1.all _) tt, back_near w32 (p.1.all _) tt)

pub loop-j-init : goal.loop-j-init
loop-j-init c = (
  back_ok w32 c.even-x.result c.even-x.type_inv
      ∙ even_step _ _ 0 c.even-x.ensures (back w32 (c.requires.all_near.0.all 0) tt)
      (back w32 (c.requires.all_near.1.all 0) tt) (back w32 (c.requires.all_near.1.all 0) tt),
  record { evens = λ n h. absurd (not-suc-le-zero h); odds = λ n h. absurd (not-suc-le-zero h) },
)

pub even-y-requires : goal.even-y-requires
even-y-requires c = let p = c.requires.all_near in (back_near w32 (p.0.all _) tt, back_near w32 (p.1.all _) tt, back_near w32 (p.1.all _) tt)

pub odd_along-z-requires : goal.odd_along-z-requires
odd_along-z-requires c = (
  back_near w32 (c.requires.all_near.1.all _) tt,
  x_near (goal.at.odd_along-z-requires c).At-loop-j,
  back_near w32 (y_near (goal.at.odd_along-z-requires c).After-even-y) tt,
)

pub bounds-out-j-in-loop-j : goal.bounds-out-j-in-loop-j
bounds-out-j-in-loop-j c = simp length-set (omega arith)

pub loop-j-preserved : goal.loop-j-preserved
loop-j-preserved c =
    let lo = c.args.lo.now in
    let hi = c.args.hi.now in
    let j = c.loop-j.j in
    let e : j + 1 ≡ min (j + 1) (length lo - 1) = omega arith in (
      back_ok w32 c.even-y.result c.even-y.type_inv ∙ y_is (goal.at.loop-j-preserved c).After-even-y,
      pair_put _ _ c.loop-j.out j _ _ (omega arith)
          c.loop-j.invariant.0
          (back_ok w32 c.odd_along-z.result c.odd_along-z.type_inv
          ∙ odd_step row_avg (length lo) (at hi) (even_at (at lo) (at hi)) j c.odd_along-z.ensures
          (back w32 (c.requires.all_near.1.all j) tt)
          c.loop-j.invariant.0
          (back_ok w32 c.even-y.result c.even-y.type_inv ∙ y_is (goal.at.loop-j-preserved c).After-even-y ∙ ap (even_at (at lo) (at hi)) e))
          c.loop-j.invariant.1,
    )

pub odd_along-z-requires-2 : goal.odd_along-z-requires-2
odd_along-z-requires-2 c = (
  back_near w32 (c.requires.all_near.1.all _) tt,
  x_near (goal.at.odd_along-z-requires-2 c).At-loop-j,
  x_near (goal.at.odd_along-z-requires-2 c).At-loop-j,
)

pub shape_of-out : goal.shape_of-out
shape_of-out c = simp length-set (omega arith)

pub returns : goal.returns
returns c =
    let lo = c.args.lo.now in
    let hi = c.args.hi.now in
    let j = length lo - 1 in
    let n : c.loop-j.j ≡ length lo - 1 = omega arith in
    let x = rw n at c.loop-j.invariant.0 in
    let e : j ≡ min (j + 1) (length lo - 1) = omega arith in
    let w =
    pair_put _ _ c.loop-j.out j _ _ (omega arith) x
    (back_ok w32 c.odd_along-z-2.result c.odd_along-z-2.type_inv
    ∙ odd_step row_avg (length lo) (at hi) (even_at (at lo) (at hi)) j c.odd_along-z-2.ensures
    (back w32 (c.requires.all_near.1.all _) tt) x (x ∙ ap (even_at (at lo) (at hi)) e))
    (rw n at c.loop-j.invariant.1) in
    line_is row_avg (length lo) (at lo) (at hi) _ (simp length-set (omega arith)) (λ n h. w.evens n (omega arith)) (λ n h. w.odds n (omega arith))
