-- Each turn keeps it, and at the end it is what is promised.
use mathlib.Core.Path.{◌∙◌}
use native.Mathlib.Omega.{arith}
use Rattle.code_write.specs.laws.Writing.{writing_start, writing_stands, writing_onward, writing_further, writing_end, writing_room}
use Rattle.code_write.proofs.put.put_list.Goals as goal

pub loop-s-init : goal.loop-s-init
loop-s-init c =
    writing_start c.args.rlgr3 c.args.xs.now c.requires.1 c.requires.2 c.args.out.now c.args.p c.requires.0

pub put_turn-s-requires : goal.put_turn-s-requires
put_turn-s-requires c =
    let l = c.loop-s in
    writing_stands c.args.rlgr3 c.args.xs.now c.requires.1 c.requires.2 c.args.out.now c.args.p c.requires.0 l.out l.s l.invariant
    c.loop-s-test.true

pub loop-s-smaller : goal.loop-s-smaller
loop-s-smaller c =
    let l = c.loop-s in
    let t = c.put_turn-s in
    omega (
      arith,
      c.loop-s-test.true,
      writing_further c.args.rlgr3 c.args.xs.now c.requires.1 c.requires.2 c.args.out.now c.args.p c.requires.0 l.out l.s l.invariant
          c.loop-s-test.true t.new.out t.result t.ensures,
    )

pub loop-s-preserved : goal.loop-s-preserved
loop-s-preserved c =
    let l = c.loop-s in
    let t = c.put_turn-s in
    writing_onward c.args.rlgr3 c.args.xs.now c.requires.1 c.requires.2 c.args.out.now c.args.p c.requires.0 l.out l.s l.invariant
    c.loop-s-test.true t.new.out t.result t.ensures

pub close-requires : goal.close-requires
close-requires c =
    let l = c.loop-s in
    writing_room c.args.rlgr3 c.args.xs.now c.requires.1 c.requires.2 c.args.out.now c.args.p c.requires.0 l.out l.s.pen l.s.i
    l.s.kp l.s.krp c.loop-s-test.false l.invariant

pub shape_of-out : goal.shape_of-out
shape_of-out c = c.close.ensures.long ∙ c.loop-s.invariant.put.long

pub returns : goal.returns
returns c =
    let l = c.loop-s in
    writing_end c.args.rlgr3 c.args.xs.now c.requires.1 c.requires.2 c.args.out.now c.args.p c.requires.0 l.out l.s.pen l.s.i
    l.s.kp l.s.krp c.loop-s-test.false l.invariant c.close.new.out c.close.result c.close.ensures
