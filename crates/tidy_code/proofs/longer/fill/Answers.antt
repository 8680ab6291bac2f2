-- Each turn keeps it, and at the end it is what is promised.
use mathlib.Core.Path.{◌≡◌, ◌∙◌, sym}
use native.Mathlib.Omega.{arith}
use lib.ListN.{length}
use Rattle.std.proofs.lemmas.Result.{err_from_is_err_and}
use Rattle.bits.specs.Bits.{bits_of}
use Rattle.code.specs.laws.Filling.{elem_fine}
use Rattle.tidy_code.specs.laws.Longer.{longer_start, longer_length, longer_end, longer_next, longer_bad}
use Rattle.tidy_code.proofs.longer.fill.Goals as goal
use Rattle.tidy_code.proofs.longer.fill.Goals.{At-loop-i}

-- the list has kept its length
kept : (l : At-loop-i) → let a = l.args in length l.loop-i.list ≡ 4096
kept l =
    let a = l.args in
    longer_length a.rlgr3 (bits_of a.s.now) l.loop-i.list l.loop-i.last l.loop-i.c l.loop-i.i l.loop-i.invariant

pub loop-i-init : goal.loop-i-init
loop-i-init c =
    longer_start c.args.rlgr3 (bits_of c.args.s.now) c.args.list.now c.requires.1 c.requires.2

pub read_element-requires : goal.read_element-requires
read_element-requires c =
    let l = c.loop-i in
    (c.requires.0, l.invariant.kps, l.invariant.krs)

pub place-j-requires : goal.place-j-requires
place-j-requires c =
    let a = c.args in
    let o = c.loop-i in
    let f = elem_fine a.rlgr3 o.c.kp o.c.krp 4097 o.i o.c.at (bits_of a.s.now) c.loop-i-test.true c.in_ok-e.e c.in_ok-e.ensures in
    (kept (goal.at.place-j-requires c).At-loop-i, c.loop-i-test.true, f)

pub returns-in_err-e : goal.returns-in_err-e
returns-in_err-e c =
    let a = c.args in
    let o = c.loop-i in
    let p = err_from_is_err_and c.from_residual.result c.from_residual.ensures.1 in
    rw (p.1, p.2) (longer_bad a.rlgr3 (bits_of a.s.now) o.list o.last o.c o.i o.invariant c.loop-i-test.true _ c.in_err-e.ensures)

pub loop-i-smaller : goal.loop-i-smaller
loop-i-smaller c =
    let a = c.args in
    let o = c.loop-i in
    let p = c.place-j in
    let n = longer_next a.rlgr3 (bits_of a.s.now) o.list o.last o.c o.i o.invariant c.loop-i-test.true c.in_ok-e.e c.in_ok-e.ensures in
    omega (arith, (n p.new.list p.result p.ensures).1, c.loop-i-test.true)

pub loop-i-preserved : goal.loop-i-preserved
loop-i-preserved c =
    let a = c.args in
    let o = c.loop-i in
    let p = c.place-j in
    (longer_next a.rlgr3 (bits_of a.s.now) o.list o.last o.c o.i o.invariant c.loop-i-test.true c.in_ok-e.e c.in_ok-e.ensures p.new.list p.result p.ensures).0

pub shape_of-list : goal.shape_of-list
shape_of-list c = kept (goal.at.shape_of-list c).At-loop-i ∙ sym c.requires.1

pub returns : goal.returns
returns c =
    let a = c.args in
    let o = c.loop-i in
    longer_end a.rlgr3 (bits_of a.s.now) o.list o.last o.c o.i o.invariant c.loop-i-test.false
