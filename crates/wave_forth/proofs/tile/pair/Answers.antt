-- Each turn keeps it, and at the end it is what is promised.
use Prim.Native.Nat.{ℕ, ◌*◌}
use mathlib.Core.Path.{◌≡◌, ◌∙◌, ap, sym, subst}
use native.Mathlib.Omega.{arith}
use lib.ListN.{length-set}
use mir.Syntax.{w32}
use Rattle.whole.specs.laws.Near.{Near, back, back_near, back_ok}
use Rattle.wave_forth.specs.Halves.{line_high}
use Rattle.wave_forth.specs.laws.Halves.{high_step, low_step, high_near}
use Rattle.wave_back.specs.laws.Pass.{two_start, two_put, two_whole}
use Rattle.wave_forth.specs.laws.Column.{col_of, High, Room, room}
use Rattle.wave_forth.proofs.tile.pair.Goals as goal
use Rattle.wave_forth.proofs.tile.pair.Goals.{After-high-g, After-high-t, Start}

space : (s : Start) → Room s.args.n s.args.w s.args.r s.args.a s.args.b s.args.z
space s = room _ _ _ _ _ _ s.requires.r_lt_n.0 s.requires.r_lt_n.1 s.requires.r_lt_n.2 s.requires.r_lt_n.3

g_is :
    (c : After-high-g) →
    c.high-g.result ≡ High c.args.n c.args.w
    c.args.src.now c.args.a
    c.loop-c.c
g_is c =
    let k = c.loop-c.c in
    let x = col_of c.args.w c.args.src.now k in
    let p = c.requires.n_bound.4 in
    high_step c.args.n x c.args.a c.high-g.ensures (back w32 (p.all _) tt) (back w32 (p.all _) tt)
    (back w32 (p.all _) tt ∙ ap (λ (j : ℕ). x (2 * j)) c.requires.r_lt_n.2)

g_near : (c : After-high-g) → Near 268435456 c.high-g.result
g_near c = let p = c.requires.n_bound.4 in subst (Near 268435456) (sym (g_is c)) (high_near _ _ (λ k. p.all _) _)

t_is :
    (c : After-high-t) →
    c.high-t.result ≡ High c.args.n
    c.args.w
    c.args.src.now
    c.args.r
    c.loop-c.c
t_is c =
    let k = c.loop-c.c in
    let x = col_of c.args.w c.args.src.now k in
    let p = c.requires.n_bound.4 in
    high_step c.args.n x c.args.r c.high-t.ensures (back w32 (p.all _) tt) (back w32 (p.all _) tt)
    (back w32 (p.all _) tt ∙ ap (λ (j : ℕ). x (2 * j)) c.requires.r_lt_n.3)

t_near : (c : After-high-t) → Near 268435456 c.high-t.result
t_near c =
    let p = c.requires.n_bound.4 in subst (Near 268435456) (sym (t_is c)) (high_near _ _ (λ k. p.all _) _)

pub overflow_mul-e : goal.overflow_mul-e
overflow_mul-e c = omega (arith, space (goal.at.overflow_mul-e c).Start)

pub overflow_mul-e-2 : goal.overflow_mul-e-2
overflow_mul-e-2 c = omega (arith, space (goal.at.overflow_mul-e-2 c).Start)

pub overflow_mul-o : goal.overflow_mul-o
overflow_mul-o c = omega (arith, space (goal.at.overflow_mul-o c).Start)

pub overflow_add-o : goal.overflow_add-o
overflow_add-o c = omega (arith, space (goal.at.overflow_add-o c).Start)

pub overflow_mul-o-2 : goal.overflow_mul-o-2
overflow_mul-o-2 c = omega (arith, space (goal.at.overflow_mul-o-2 c).Start)

pub overflow_mul-f : goal.overflow_mul-f
overflow_mul-f c = omega (arith, space (goal.at.overflow_mul-f c).Start)

pub overflow_mul-f-2 : goal.overflow_mul-f-2
overflow_mul-f-2 c = omega (arith, space (goal.at.overflow_mul-f-2 c).Start)

pub overflow_mul-i : goal.overflow_mul-i
overflow_mul-i c = omega (arith, space (goal.at.overflow_mul-i c).Start)

pub overflow_mul-i-2 : goal.overflow_mul-i-2
overflow_mul-i-2 c = omega (arith, space (goal.at.overflow_mul-i-2 c).Start)

pub overflow_mul-k : goal.overflow_mul-k
overflow_mul-k c = omega (arith, space (goal.at.overflow_mul-k c).Start)

pub overflow_add-k : goal.overflow_add-k
overflow_add-k c = omega (arith, space (goal.at.overflow_add-k c).Start)

pub overflow_mul-k-2 : goal.overflow_mul-k-2
overflow_mul-k-2 c = omega (arith, space (goal.at.overflow_mul-k-2 c).Start)

pub overflow_mul-m : goal.overflow_mul-m
overflow_mul-m c = omega (arith, space (goal.at.overflow_mul-m c).Start)

pub overflow_mul-m-2 : goal.overflow_mul-m-2
overflow_mul-m-2 c = omega (arith, space (goal.at.overflow_mul-m-2 c).Start)

pub overflow_mul-l : goal.overflow_mul-l
overflow_mul-l c = omega (arith, space (goal.at.overflow_mul-l c).Start)

pub overflow_add-h : goal.overflow_add-h
overflow_add-h c = omega (arith, space (goal.at.overflow_add-h c).Start)

pub overflow_mul-h : goal.overflow_mul-h
overflow_mul-h c = omega (arith, space (goal.at.overflow_mul-h c).Start)

pub loop-c-init : goal.loop-c-init
loop-c-init c = two_start _ _ _ _ _ _

pub overflow_add-k-in-loop-c : goal.overflow_add-k-in-loop-c
overflow_add-k-in-loop-c c = omega (arith, space (goal.at.overflow_add-k-in-loop-c c).Start)

pub offset_bounds-src-k : goal.offset_bounds-src-k
offset_bounds-src-k c = omega (arith, space (goal.at.offset_bounds-src-k c).Start)

pub bounds-src-k : goal.bounds-src-k
bounds-src-k c = omega (arith, space (goal.at.bounds-src-k c).Start)

pub overflow_add-i : goal.overflow_add-i
overflow_add-i c = omega (arith, space (goal.at.overflow_add-i c).Start)

pub offset_bounds-src-i : goal.offset_bounds-src-i
offset_bounds-src-i c = omega (arith, space (goal.at.offset_bounds-src-i c).Start)

pub bounds-src-i : goal.bounds-src-i
bounds-src-i c = omega (arith, space (goal.at.bounds-src-i c).Start)

pub overflow_add-m : goal.overflow_add-m
overflow_add-m c = omega (arith, space (goal.at.overflow_add-m c).Start)

pub offset_bounds-src-m : goal.offset_bounds-src-m
offset_bounds-src-m c = omega (arith, space (goal.at.offset_bounds-src-m c).Start)

pub bounds-src-m : goal.bounds-src-m
bounds-src-m c = omega (arith, space (goal.at.bounds-src-m c).Start)

pub high-g-requires : goal.high-g-requires
high-g-requires c = let p = c.requires.n_bound.4 in (back_near w32 (p.all _) tt, back_near w32 (p.all _) tt, back_near w32 (p.all _) tt)

pub overflow_add-o-in-loop-c : goal.overflow_add-o-in-loop-c
overflow_add-o-in-loop-c c = omega (arith, space (goal.at.overflow_add-o-in-loop-c c).Start)

pub offset_bounds-src-o : goal.offset_bounds-src-o
offset_bounds-src-o c = omega (arith, space (goal.at.offset_bounds-src-o c).Start)

pub bounds-src-o : goal.bounds-src-o
bounds-src-o c = omega (arith, space (goal.at.bounds-src-o c).Start)

pub overflow_add-e : goal.overflow_add-e
overflow_add-e c = omega (arith, space (goal.at.overflow_add-e c).Start)

pub offset_bounds-src-e : goal.offset_bounds-src-e
offset_bounds-src-e c = omega (arith, space (goal.at.offset_bounds-src-e c).Start)

pub bounds-src-e : goal.bounds-src-e
bounds-src-e c = omega (arith, space (goal.at.bounds-src-e c).Start)

pub overflow_add-f : goal.overflow_add-f
overflow_add-f c = omega (arith, space (goal.at.overflow_add-f c).Start)

pub offset_bounds-src-f : goal.offset_bounds-src-f
offset_bounds-src-f c = omega (arith, space (goal.at.offset_bounds-src-f c).Start)

pub bounds-src-f : goal.bounds-src-f
bounds-src-f c = omega (arith, space (goal.at.bounds-src-f c).Start)

pub high-t-requires : goal.high-t-requires
high-t-requires c = let p = c.requires.n_bound.4 in (back_near w32 (p.all _) tt, back_near w32 (p.all _) tt, back_near w32 (p.all _) tt)

pub overflow_add-e-in-loop-c : goal.overflow_add-e-in-loop-c
overflow_add-e-in-loop-c c = omega (arith, space (goal.at.overflow_add-e-in-loop-c c).Start)

pub offset_bounds-src-e-in-loop-c : goal.offset_bounds-src-e-in-loop-c
offset_bounds-src-e-in-loop-c c = omega (arith, space (goal.at.offset_bounds-src-e-in-loop-c c).Start)

pub bounds-src-e-in-loop-c : goal.bounds-src-e-in-loop-c
bounds-src-e-in-loop-c c = omega (arith, space (goal.at.bounds-src-e-in-loop-c c).Start)

pub low-v-requires : goal.low-v-requires
low-v-requires c = (
  back_near w32 (c.requires.n_bound.4.all _) tt,
  back_near w32 (g_near (goal.at.low-v-requires c).After-high-g) tt,
  back_near w32 (t_near (goal.at.low-v-requires c).After-high-t) tt,
)

pub overflow_add-v : goal.overflow_add-v
overflow_add-v c = omega (arith, space (goal.at.overflow_add-v c).Start)

pub offset_bounds-dst-l : goal.offset_bounds-dst-l
offset_bounds-dst-l c = omega (arith, space (goal.at.offset_bounds-dst-l c).Start)

pub bounds-dst-l : goal.bounds-dst-l
bounds-dst-l c = omega (arith, space (goal.at.bounds-dst-l c).Start)

pub overflow_add-t : goal.overflow_add-t
overflow_add-t c = omega (arith, space (goal.at.overflow_add-t c).Start)

pub offset_bounds-dst-h : goal.offset_bounds-dst-h
offset_bounds-dst-h c = omega (arith, space (goal.at.offset_bounds-dst-h c).Start)

pub bounds-dst-h : goal.bounds-dst-h
bounds-dst-h c = simp length-set (omega (arith, space (goal.at.bounds-dst-h c).Start))

pub loop-c-preserved : goal.loop-c-preserved
loop-c-preserved c =
    let k = c.loop-c.c in
    let n = c.args.n in
    let w = c.args.w in
    let src = c.args.src.now in
    let x = col_of w src k in
    let u =
    back_ok w32 c.high-g.result c.high-g.type_inv
    ∙ g_is (goal.at.loop-c-preserved c).After-high-g ∙ ap (line_high n x) c.requires.r_lt_n.1 in
    let v = back_ok w32 c.high-t.result c.high-t.type_inv ∙ t_is (goal.at.loop-c-preserved c).After-high-t in
    two_put w _ _ _ _ k _ c.loop-c.dst _ _ (λ d. omega arith)
    (omega arith)
    (omega (arith, space (goal.at.loop-c-preserved c).Start)) (omega (arith, space (goal.at.loop-c-preserved c).Start))
    (back_ok w32 c.low-v.result c.low-v.type_inv ∙ low_step n x c.args.r c.low-v.ensures (back w32 (c.requires.n_bound.4.all _) tt) u v) v
    c.loop-c.invariant

pub returns : goal.returns
returns c = two_whole (omega arith) c.loop-c.invariant
