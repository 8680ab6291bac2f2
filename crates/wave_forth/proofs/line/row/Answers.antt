-- Each turn keeps it, and at the end it is what is promised.
use Prim.Native.Nat.{◌*◌, ◌-◌, ◌+◌, min}
use mathlib.Core.Path.{◌≡◌, ◌∙◌, ap, sym, subst}
use native.Mathlib.Omega.{arith}
use lib.ListN.{length-set}
use mir.Syntax.{w32}
use mir.Val.{to_z}
use Rattle.whole.specs.laws.Near.{Near, back, back_near, back_ok}
use Rattle.whole.specs.Tab.{at}
use Rattle.wave_forth.specs.Halves.{line_high}
use Rattle.wave_forth.specs.laws.Halves.{high_step, low_step, high_near}
use Rattle.wave_forth.specs.laws.Row.{from, split_start, split_put, split_whole}
use Rattle.wave_forth.proofs.line.row.Goals as goal
use Rattle.wave_forth.proofs.line.row.Goals.{After-high-v, After-high-v-2, At-loop-j}

g_near : (s : At-loop-j) → Near 268435456 (to_z w32 s.loop-j.g-bits)
g_near s = let p = s.requires.apart.1 in subst (Near 268435456) (sym s.loop-j.invariant.0) (high_near _ _ (λ k. p.all _) _)

v_is :
    (c : After-high-v) →
    c.high-v.result ≡ line_high c.args.n
    (from c.args.src.now
    c.args.s) c.loop-j.j
v_is c =
    let j = c.loop-j.j in
    let p = c.requires.apart.1 in
    let x = from c.args.src.now c.args.s in
    let t : 2 * j + 2 ≡ 2 * min (j + 1) (c.args.n - 1) = omega arith in
    high_step c.args.n x j c.high-v.ensures (back w32 (p.all _) tt) (back w32 (p.all _) tt) (back w32 (p.all _) tt ∙ ap x t)

v_near : (c : After-high-v) → Near 268435456 c.high-v.result
v_near c =
    let p = c.requires.apart.1 in subst (Near 268435456) (sym (v_is c)) (high_near _ _ (λ k. p.all _) _)

w_is :
    (c : After-high-v-2) →
    c.high-v-2.result ≡ line_high c.args.n
    (from c.args.src.now
    c.args.s) (c.args.n - 1)
w_is c =
    let j = c.args.n - 1 in
    let p = c.requires.apart.1 in
    let x = from c.args.src.now c.args.s in
    let t : 2 * j ≡ 2 * min (j + 1) (c.args.n - 1) = omega arith in
    high_step c.args.n x j c.high-v-2.ensures (back w32 (p.all _) tt) (back w32 (p.all _) tt) (back w32 (p.all _) tt ∙ ap x t)

w_near : (c : After-high-v-2) → Near 268435456 c.high-v-2.result
w_near c =
    let p = c.requires.apart.1 in subst (Near 268435456) (sym (w_is c)) (high_near _ _ (λ k. p.all _) _)

pub high-g-requires : goal.high-g-requires
high-g-requires c = let p = c.requires.apart.1 in (back_near w32 (p.all _) tt, back_near w32 (p.all _) tt, back_near w32 (p.all _) tt)

pub loop-j-init : goal.loop-j-init
loop-j-init c =
    let p = c.requires.apart.1 in
    let x = from c.args.src.now c.args.s in
    let z : c.args.s ≡ c.args.s + 0 = omega arith in
    let t : 2 ≡ 2 * min (0 + 1) (c.args.n - 1) = omega arith in (
      back_ok w32 c.high-g.result c.high-g.type_inv
          ∙ high_step c.args.n x 0 c.high-g.ensures (back w32 (p.all _) tt) (back w32 (p.all _) tt ∙ ap (at c.args.src.now) z)
          (back w32 (p.all _) tt ∙ ap x t),
      split_start _ _ _ _ _,
    )

pub high-v-requires : goal.high-v-requires
high-v-requires c = let p = c.requires.apart.1 in (back_near w32 (p.all _) tt, back_near w32 (p.all _) tt, back_near w32 (p.all _) tt)

pub low-u-requires : goal.low-u-requires
low-u-requires c = (
  back_near w32 (c.requires.apart.1.all _) tt,
  g_near (goal.at.low-u-requires c).At-loop-j,
  back_near w32 (v_near (goal.at.low-u-requires c).After-high-v) tt,
)

pub bounds-dst-l : goal.bounds-dst-l
bounds-dst-l c = simp length-set (omega arith)

pub loop-j-preserved : goal.loop-j-preserved
loop-j-preserved c =
    let j = c.loop-j.j in
    let x = from c.args.src.now c.args.s in
    let v = back_ok w32 c.high-v.result c.high-v.type_inv ∙ v_is (goal.at.loop-j-preserved c).After-high-v in
    let e : j ≡ j + 1 - 1 = omega arith in (
      v ∙ ap (line_high c.args.n x) e,
      split_put c.args.n x c.args.l c.args.h j _ c.loop-j.dst _ _ c.requires.apart.0
          (omega arith) (omega arith) (omega arith)
          (back_ok w32 c.low-u.result c.low-u.type_inv
          ∙ low_step c.args.n x j c.low-u.ensures (back w32 (c.requires.apart.1.all _) tt)
          c.loop-j.invariant.0 v) v
          c.loop-j.invariant.1,
    )

pub high-v-requires-2 : goal.high-v-requires-2
high-v-requires-2 c = let p = c.requires.apart.1 in (back_near w32 (p.all _) tt, back_near w32 (p.all _) tt, back_near w32 (p.all _) tt)

pub low-u-requires-2 : goal.low-u-requires-2
low-u-requires-2 c = (
  back_near w32 (c.requires.apart.1.all _) tt,
  g_near (goal.at.low-u-requires-2 c).At-loop-j,
  back_near w32 (w_near (goal.at.low-u-requires-2 c).After-high-v-2) tt,
)

pub bounds-dst-l-2 : goal.bounds-dst-l-2
bounds-dst-l-2 c = simp length-set (omega arith)

pub shape_of-dst : goal.shape_of-dst
shape_of-dst c = simp length-set (omega arith)

pub returns : goal.returns
returns c =
    let j = c.args.n - 1 in
    let e : c.loop-j.j ≡ c.args.n - 1 = omega arith in
    let x = from c.args.src.now c.args.s in
    let v = back_ok w32 c.high-v-2.result c.high-v-2.type_inv ∙ w_is (goal.at.returns c).After-high-v-2 in
    split_whole (omega arith)
    (split_put c.args.n x c.args.l c.args.h j _ c.loop-j.dst _ _ c.requires.apart.0
    (omega arith) (omega arith) (omega arith)
    (back_ok w32 c.low-u-2.result c.low-u-2.type_inv ∙ low_step c.args.n x j c.low-u-2.ensures (back w32 (c.requires.apart.1.all _) tt)
    (rw e at c.loop-j.invariant.0) v) v
    (rw e at c.loop-j.invariant.1))
