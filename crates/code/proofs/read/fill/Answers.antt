-- Each turn keeps it, and at the end it is what is promised.
use mathlib.Core.Path.{◌≡◌, refl}
use native.Mathlib.Omega.{arith}
use lib.ListN.{length}
use Rattle.std.proofs.lemmas.Result.{err_from_is_err_and}
use Rattle.bits.specs.Bits.{bits_of}
use Rattle.code.specs.laws.Filling.{filling_start, filling_end, elem_fine, turn_next, turn_bad}
use Rattle.code.specs.laws.Quick.{filling_long, rush_on, rush_full}
use Rattle.code.proofs.read.fill.Goals as goal

pub loop-i-init : goal.loop-i-init
loop-i-init c =
    filling_start c.args.rlgr3 (length c.args.list.now) (bits_of c.args.s.now) c.args.list.now refl c.requires.2

pub rush-j-requires : goal.rush-j-requires
rush-j-requires c =
    let l = c.loop-i in
    let a = c.args in
    let n : length l.list ≡ length a.list.now = l.invariant.clear.len in (
      c.requires.0,
      omega (arith, n, c.requires.1),
      omega (arith, n, c.loop-i-test.true),
      filling_long a.rlgr3 (length a.list.now) (bits_of a.s.now) l.list l.c l.i l.invariant,
    )

pub returns-then-n-j : goal.returns-then-n-j
returns-then-n-j c =
    let l = c.loop-i in
    let a = c.args in
    rush_full a.rlgr3 (bits_of a.s.now) (length a.list.now) l.i l.list _ _ l.invariant.clear.len c.rush-j.ensures c.if-n-j.true

pub read_element-requires : goal.read_element-requires
read_element-requires c =
    let l = c.loop-i in
    let a = c.args in
    let n = length a.list.now in
    let u = c.rush-j in
    let g = rush_on a.rlgr3 (bits_of a.s.now) n l.i l.list _ _ l.invariant.clear.len u.ensures in
    (c.requires.0, g.0.kps, g.0.krs)

pub returns-in_err-e : goal.returns-in_err-e
returns-in_err-e c =
    let l = c.loop-i in
    let a = c.args in
    let n = length a.list.now in
    let u = c.rush-j in
    let g = rush_on a.rlgr3 (bits_of a.s.now) n l.i l.list _ _ l.invariant.clear.len u.ensures in
    let p = err_from_is_err_and c.from_residual.result c.from_residual.ensures.1 in
    rw (p.1, p.2)
    (turn_bad a.rlgr3 n (bits_of a.s.now) u.new.list u.new.list u.result.1 u.result.0 g.0 c.if-n-j.false _ c.in_err-e.ensures)

pub place-l-requires : goal.place-l-requires
place-l-requires c =
    let l = c.loop-i in
    let a = c.args in
    let n = length a.list.now in
    let u = c.rush-j in
    let g = rush_on a.rlgr3 (bits_of a.s.now) n l.i l.list _ _ l.invariant.clear.len u.ensures in
    let t = u.result.1 in
    let e : length u.new.list ≡ n = g.0.clear.len in
    let f = elem_fine a.rlgr3 t.kp t.krp n u.result.0 t.at (bits_of a.s.now) c.if-n-j.false c.in_ok-e.e c.in_ok-e.ensures in
    (omega (arith, e, c.requires.1), omega (arith, e, c.if-n-j.false), rw e f)

pub loop-i-smaller : goal.loop-i-smaller
loop-i-smaller c =
    let l = c.loop-i in
    let a = c.args in
    let n = length a.list.now in
    let u = c.rush-j in
    let g = rush_on a.rlgr3 (bits_of a.s.now) n l.i l.list _ _ l.invariant.clear.len u.ensures in
    let r = turn_next a.rlgr3 n (bits_of a.s.now) u.new.list c.place-l.new.list u.result.1 u.result.0 g.0 c.if-n-j.false c.in_ok-e.e
    c.place-l.result c.in_ok-e.ensures c.place-l.ensures.0 c.place-l.ensures.1 in
    omega (arith, r.1, g.1, c.if-n-j.false)

pub loop-i-preserved : goal.loop-i-preserved
loop-i-preserved c =
    let l = c.loop-i in
    let a = c.args in
    let n = length a.list.now in
    let u = c.rush-j in
    let g = rush_on a.rlgr3 (bits_of a.s.now) n l.i l.list _ _ l.invariant.clear.len u.ensures in
    let r = turn_next a.rlgr3 n (bits_of a.s.now) u.new.list c.place-l.new.list u.result.1 u.result.0 g.0 c.if-n-j.false c.in_ok-e.e
    c.place-l.result c.in_ok-e.ensures c.place-l.ensures.0 c.place-l.ensures.1 in
    r.0

pub returns : goal.returns
returns c =
    let l = c.loop-i in
    let a = c.args in
    filling_end a.rlgr3 (length a.list.now) (bits_of a.s.now) l.list l.c l.i c.loop-i-test.false l.invariant
