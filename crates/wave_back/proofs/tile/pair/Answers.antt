-- Each turn keeps it, and at the end it is what is promised.
use mathlib.Core.Path.{◌≡◌, ◌∙◌, ap, sym, subst}
use native.Mathlib.Omega.{arith}
use lib.ListN.{length-set}
use mir.Syntax.{w32}
use Rattle.whole.specs.laws.Near.{Near, back, back_near, back_ok}
use Rattle.whole.specs.Tab.{at}
use Rattle.wave_back.specs.Line.{col_avg, even_at}
use Rattle.wave_back.specs.laws.Line.{odd_step, even_step, even_near}
use Rattle.wave_back.specs.laws.Column.{low_col, high_col, Even, Room, room}
use Rattle.wave_back.specs.laws.Pass.{two_start, two_put, two_whole}
use Rattle.wave_back.proofs.tile.pair.Goals as goal
use Rattle.wave_back.proofs.tile.pair.Goals.{After-even-s, After-even-t, Start}

space : (s : Start) → Room s.args.n s.args.w s.args.r s.args.a s.args.z s.args.y
space s = room _ _ _ _ _ _ s.requires.r_lt_n.0 s.requires.r_lt_n.1 s.requires.r_lt_n.2 s.requires.r_lt_n.3

s_is :
    (c : After-even-s) →
    c.even-s.result ≡ Even c.args.n c.args.w
    c.args.src.now c.args.r
    c.loop-c.c
s_is c =
    let k = c.loop-c.c in
    let n = c.args.n in
    let w = c.args.w in
    let src = c.args.src.now in
    even_step (low_col w (at src) k) (high_col n w (at src) k) c.args.r c.even-s.ensures (back w32 (c.requires.n_bound.4.all _) tt)
    (back w32 (c.requires.n_bound.4.all _) tt ∙ ap (high_col n w (at src) k) c.requires.r_lt_n.1) (back w32 (c.requires.n_bound.4.all _) tt)

s_near : (c : After-even-s) → Near 536870913 c.even-s.result
s_near c =
    let p = c.requires.n_bound.4 in subst (Near 536870913) (sym (s_is c)) (even_near _ _ _ (p.all _) (p.all _) (p.all _))

t_is :
    (c : After-even-t) →
    c.even-t.result ≡ Even c.args.n
    c.args.w
    c.args.src.now
    c.args.z
    c.loop-c.c
t_is c =
    let k = c.loop-c.c in
    let n = c.args.n in
    let w = c.args.w in
    let src = c.args.src.now in
    even_step (low_col w (at src) k) (high_col n w (at src) k) c.args.z c.even-t.ensures (back w32 (c.requires.n_bound.4.all _) tt)
    (back w32 (c.requires.n_bound.4.all _) tt ∙ ap (high_col n w (at src) k) c.requires.r_lt_n.3) (back w32 (c.requires.n_bound.4.all _) tt)

t_near : (c : After-even-t) → Near 536870913 c.even-t.result
t_near c =
    let p = c.requires.n_bound.4 in subst (Near 536870913) (sym (t_is c)) (even_near _ _ _ (p.all _) (p.all _) (p.all _))

pub overflow_mul-l : goal.overflow_mul-l
overflow_mul-l c = omega (arith, space (goal.at.overflow_mul-l c).Start)

pub overflow_add-g : goal.overflow_add-g
overflow_add-g c = omega (arith, space (goal.at.overflow_add-g c).Start)

pub overflow_mul-g : goal.overflow_mul-g
overflow_mul-g c = omega (arith, space (goal.at.overflow_mul-g c).Start)

pub overflow_add-h : goal.overflow_add-h
overflow_add-h c = omega (arith, space (goal.at.overflow_add-h c).Start)

pub overflow_mul-h : goal.overflow_mul-h
overflow_mul-h c = omega (arith, space (goal.at.overflow_mul-h c).Start)

pub overflow_mul-m : goal.overflow_mul-m
overflow_mul-m c = omega (arith, space (goal.at.overflow_mul-m c).Start)

pub overflow_add-p : goal.overflow_add-p
overflow_add-p c = omega (arith, space (goal.at.overflow_add-p c).Start)

pub overflow_mul-p : goal.overflow_mul-p
overflow_mul-p c = omega (arith, space (goal.at.overflow_mul-p c).Start)

pub overflow_add-q : goal.overflow_add-q
overflow_add-q c = omega (arith, space (goal.at.overflow_add-q c).Start)

pub overflow_mul-q : goal.overflow_mul-q
overflow_mul-q c = omega (arith, space (goal.at.overflow_mul-q c).Start)

pub overflow_mul-e : goal.overflow_mul-e
overflow_mul-e c = omega (arith, space (goal.at.overflow_mul-e c).Start)

pub overflow_mul-e-2 : goal.overflow_mul-e-2
overflow_mul-e-2 c = omega (arith, space (goal.at.overflow_mul-e-2 c).Start)

pub overflow_mul-o : goal.overflow_mul-o
overflow_mul-o c = omega (arith, space (goal.at.overflow_mul-o c).Start)

pub overflow_add-o : goal.overflow_add-o
overflow_add-o c = omega (arith, space (goal.at.overflow_add-o c).Start)

pub overflow_mul-o-2 : goal.overflow_mul-o-2
overflow_mul-o-2 c = omega (arith, space (goal.at.overflow_mul-o-2 c).Start)

pub loop-c-init : goal.loop-c-init
loop-c-init c = two_start _ _ _ _ _ _

pub overflow_add-l : goal.overflow_add-l
overflow_add-l c = omega (arith, space (goal.at.overflow_add-l c).Start)

pub offset_bounds-src-l : goal.offset_bounds-src-l
offset_bounds-src-l c = omega (arith, space (goal.at.offset_bounds-src-l c).Start)

pub bounds-src-l : goal.bounds-src-l
bounds-src-l c = omega (arith, space (goal.at.bounds-src-l c).Start)

pub overflow_add-g-in-loop-c : goal.overflow_add-g-in-loop-c
overflow_add-g-in-loop-c c = omega (arith, space (goal.at.overflow_add-g-in-loop-c c).Start)

pub offset_bounds-src-g : goal.offset_bounds-src-g
offset_bounds-src-g c = omega (arith, space (goal.at.offset_bounds-src-g c).Start)

pub bounds-src-g : goal.bounds-src-g
bounds-src-g c = omega (arith, space (goal.at.bounds-src-g c).Start)

pub overflow_add-h-in-loop-c : goal.overflow_add-h-in-loop-c
overflow_add-h-in-loop-c c = omega (arith, space (goal.at.overflow_add-h-in-loop-c c).Start)

pub offset_bounds-src-h : goal.offset_bounds-src-h
offset_bounds-src-h c = omega (arith, space (goal.at.offset_bounds-src-h c).Start)

pub bounds-src-h : goal.bounds-src-h
bounds-src-h c = omega (arith, space (goal.at.bounds-src-h c).Start)

pub even-s-requires : goal.even-s-requires
even-s-requires c = let p = c.requires.n_bound.4 in (back_near w32 (p.all _) tt, back_near w32 (p.all _) tt, back_near w32 (p.all _) tt)

pub overflow_add-m : goal.overflow_add-m
overflow_add-m c = omega (arith, space (goal.at.overflow_add-m c).Start)

pub offset_bounds-src-m : goal.offset_bounds-src-m
offset_bounds-src-m c = omega (arith, space (goal.at.offset_bounds-src-m c).Start)

pub bounds-src-m : goal.bounds-src-m
bounds-src-m c = omega (arith, space (goal.at.bounds-src-m c).Start)

pub overflow_add-p-in-loop-c : goal.overflow_add-p-in-loop-c
overflow_add-p-in-loop-c c = omega (arith, space (goal.at.overflow_add-p-in-loop-c c).Start)

pub offset_bounds-src-p : goal.offset_bounds-src-p
offset_bounds-src-p c = omega (arith, space (goal.at.offset_bounds-src-p c).Start)

pub bounds-src-p : goal.bounds-src-p
bounds-src-p c = omega (arith, space (goal.at.bounds-src-p c).Start)

pub overflow_add-q-in-loop-c : goal.overflow_add-q-in-loop-c
overflow_add-q-in-loop-c c = omega (arith, space (goal.at.overflow_add-q-in-loop-c c).Start)

pub offset_bounds-src-q : goal.offset_bounds-src-q
offset_bounds-src-q c = omega (arith, space (goal.at.offset_bounds-src-q c).Start)

pub bounds-src-q : goal.bounds-src-q
bounds-src-q c = omega (arith, space (goal.at.bounds-src-q c).Start)

pub even-t-requires : goal.even-t-requires
even-t-requires c = let p = c.requires.n_bound.4 in (back_near w32 (p.all _) tt, back_near w32 (p.all _) tt, back_near w32 (p.all _) tt)

pub overflow_add-h-in-loop-c-2 : goal.overflow_add-h-in-loop-c-2
overflow_add-h-in-loop-c-2 c = omega (arith, space (goal.at.overflow_add-h-in-loop-c-2 c).Start)

pub offset_bounds-src-h-in-loop-c : goal.offset_bounds-src-h-in-loop-c
offset_bounds-src-h-in-loop-c c = omega (arith, space (goal.at.offset_bounds-src-h-in-loop-c c).Start)

pub bounds-src-h-in-loop-c : goal.bounds-src-h-in-loop-c
bounds-src-h-in-loop-c c = omega (arith, space (goal.at.bounds-src-h-in-loop-c c).Start)

pub odd_down-v-requires : goal.odd_down-v-requires
odd_down-v-requires c = (
  back_near w32 (c.requires.n_bound.4.all _) tt,
  back_near w32 (s_near (goal.at.odd_down-v-requires c).After-even-s) tt,
  back_near w32 (t_near (goal.at.odd_down-v-requires c).After-even-t) tt,
)

pub overflow_add-s : goal.overflow_add-s
overflow_add-s c = omega (arith, space (goal.at.overflow_add-s c).Start)

pub offset_bounds-dst-e : goal.offset_bounds-dst-e
offset_bounds-dst-e c = omega (arith, space (goal.at.offset_bounds-dst-e c).Start)

pub bounds-dst-e : goal.bounds-dst-e
bounds-dst-e c = omega (arith, space (goal.at.bounds-dst-e c).Start)

pub overflow_add-v : goal.overflow_add-v
overflow_add-v c = omega (arith, space (goal.at.overflow_add-v c).Start)

pub offset_bounds-dst-o : goal.offset_bounds-dst-o
offset_bounds-dst-o c = omega (arith, space (goal.at.offset_bounds-dst-o c).Start)

pub bounds-dst-o : goal.bounds-dst-o
bounds-dst-o c = simp length-set (omega (arith, space (goal.at.bounds-dst-o c).Start))

pub loop-c-preserved : goal.loop-c-preserved
loop-c-preserved c =
    let k = c.loop-c.c in
    let n = c.args.n in
    let w = c.args.w in
    let src = c.args.src.now in
    let u =
    back_ok w32 c.even-s.result c.even-s.type_inv
    ∙ s_is (goal.at.loop-c-preserved c).After-even-s in
    let v = back_ok w32 c.even-t.result c.even-t.type_inv ∙ t_is (goal.at.loop-c-preserved c).After-even-t ∙ ap
    (even_at (low_col w (at src) k) (high_col n w (at src) k)) c.requires.r_lt_n.2 in
    two_put w _ _ _ _ k _ c.loop-c.dst _ _ (λ d. omega arith)
    (omega arith)
    (omega (arith, space (goal.at.loop-c-preserved c).Start)) (omega (arith, space (goal.at.loop-c-preserved c).Start)) u
    (back_ok w32 c.odd_down-v.result c.odd_down-v.type_inv
    ∙ odd_step col_avg n (high_col n w (at src) k) _ c.args.r c.odd_down-v.ensures (back w32 (c.requires.n_bound.4.all _) tt) u v)
    c.loop-c.invariant

pub returns : goal.returns
returns c = two_whole (omega arith) c.loop-c.invariant
