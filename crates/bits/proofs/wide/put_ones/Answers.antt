-- Each turn puts 32 ones (`ones_more_turn`), and behind the last the rest is put (`ones_end_turn`).
use Prim.Native.Nat.{◌*◌, ◌%◌}
use mathlib.Core.Bool.{true}
use native.Mathlib.Omega.{arith}
use lib.ListN.{replicate, length-replicate}
use Rattle.bits.specs.laws.Pen.{put_none, put_more, ready_after}
use Rattle.bits.specs.laws.Wide.{ones_more_turn, ones_fit, ones_end_turn}
use Rattle.bits.proofs.wide.put_ones.Goals as goal

pub loop-i-init : goal.loop-i-init
loop-i-init c = put_none c.args.out.now c.args.p c.requires.few c.requires.small

pub put-q-requires : goal.put-q-requires
put-q-requires c =
    let l = c.loop-i in
    let a = c.args in
    let r = replicate (32 * l.i) true in (
      ready_after a.out.now l.out a.p l.q a.v 32 r c.requires.room l.invariant (omega (arith, length-replicate (32 * l.i) true)),
      omega arith,
      omega arith,
    )

pub loop-i-preserved : goal.loop-i-preserved
loop-i-preserved c =
    let l = c.loop-i in
    let p = c.put-q in
    rw (← ones_more_turn l.i) (put_more c.args.out.now l.out p.new.out c.args.p l.q p.result _ _ l.invariant p.ensures)

pub put-requires : goal.put-requires
put-requires c =
    let l = c.loop-i in
    let a = c.args in
    let r = replicate (32 * l.i) true in (
      ready_after a.out.now l.out a.p l.q a.v (a.v % 32) r c.requires.room l.invariant (omega (arith, length-replicate (32 * l.i) true)),
      omega arith,
      (ones_fit (a.v % 32) (omega arith)).1,
    )

pub returns : goal.returns
returns c =
    let l = c.loop-i in
    let a = c.args in
    let p = c.put in
    rw (← ones_end_turn a.v l.i (omega arith)) (put_more a.out.now l.out p.new.out a.p l.q p.result _ _ l.invariant p.ensures)
