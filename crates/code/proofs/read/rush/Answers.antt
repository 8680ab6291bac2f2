-- Each turn keeps it, and at the end it is what is promised.
use mathlib.Core.Path.{◌≡◌, ◌∙◌}
use native.Mathlib.Omega.{arith}
use lib.ListN.{length}
use Rattle.bits.specs.Bits.{bits_of}
use Rattle.code.specs.laws.Quick.{filling_long, quick_next, quick_same}
use Rattle.code.proofs.read.rush.Goals as goal

pub loop-i-init : goal.loop-i-init
loop-i-init c = (c.requires.3, omega arith)

pub quick_turn-requires : goal.quick_turn-requires
quick_turn-requires c =
    let l = c.loop-i in
    let a = c.args in
    let n : length l.list ≡ length a.list.now = l.invariant.0.clear.len in (
      c.requires.0,
      omega (arith, n, c.requires.1),
      omega (arith, n, c.loop-i-test.true),
      filling_long a.rlgr3 (length a.list.now) (bits_of a.s.now) l.list l.c l.i l.invariant.0,
    )

pub shape_of-list-in-None : goal.shape_of-list-in-None
shape_of-list-in-None c =
    c.quick_turn.auto.list ∙ c.loop-i.invariant.0.clear.len

pub returns-in-None : goal.returns-in-None
returns-in-None c =
    let l = c.loop-i in
    let a = c.args in
    let t = c.quick_turn in
    let same =
    quick_same a.rlgr3 (bits_of a.s.now) l.list l.c l.i (length a.list.now) t.new.list t.result l.invariant.0 t.ensures in
    (same c.in-None.is, l.invariant.1)

pub loop-i-smaller : goal.loop-i-smaller
loop-i-smaller c =
    let l = c.loop-i in
    let a = c.args in
    let t = c.quick_turn in
    let r =
    quick_next a.rlgr3 (bits_of a.s.now) l.list l.c l.i (length a.list.now) t.new.list t.result l.invariant.0
    t.ensures in
    omega (arith, (r _ _ c.in-Some.is).1, c.loop-i-test.true)

pub loop-i-preserved : goal.loop-i-preserved
loop-i-preserved c =
    let l = c.loop-i in
    let a = c.args in
    let t = c.quick_turn in
    let r =
    quick_next a.rlgr3 (bits_of a.s.now) l.list l.c l.i (length a.list.now) t.new.list t.result l.invariant.0
    t.ensures _ _ c.in-Some.is in
    (r.0, omega (arith, r.1, l.invariant.1))

pub shape_of-list : goal.shape_of-list
shape_of-list c = c.loop-i.invariant.0.clear.len

pub returns : goal.returns
returns c = c.loop-i.invariant
