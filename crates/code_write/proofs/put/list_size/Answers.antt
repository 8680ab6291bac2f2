-- Each turn keeps it, and at the end it is what is promised.
use native.Mathlib.Omega.{arith}
use Rattle.code_write.specs.laws.Writing.{sizing_start, sizing_turn, sizing_few, sizing_next, sizing_end}
use Rattle.code_write.proofs.put.list_size.Goals as goal

pub loop-i-init : goal.loop-i-init
loop-i-init c = sizing_start c.args.rlgr3 c.args.xs.now c.requires.0 c.requires.1

pub choose-it-requires : goal.choose-it-requires
choose-it-requires c = (c.requires.0, c.requires.1, c.loop-i-test.true, c.loop-i.invariant.going.kps)

pub item_size-n-requires : goal.item_size-n-requires
item_size-n-requires c = (
  c.loop-i.invariant.going.kps,
  c.loop-i.invariant.going.krs,
  (sizing_turn c.args.rlgr3 c.args.xs.now c.requires.0 c.requires.1 c.loop-i.n c.loop-i.i c.loop-i.kp c.loop-i.krp c.loop-i.invariant
      c.loop-i-test.true c.choose-it.result c.choose-it.ensures).small,
)

pub overflow_add-n : goal.overflow_add-n
overflow_add-n c =
    omega (
      arith,
      sizing_few c.args.rlgr3 c.args.xs.now c.requires.0 c.requires.1 c.loop-i.n c.loop-i.i c.loop-i.kp c.loop-i.krp c.loop-i.invariant
          c.loop-i-test.true c.choose-it.result c.choose-it.ensures _ c.item_size-n.ensures,
    )

pub item_used-i-requires : goal.item_used-i-requires
item_used-i-requires c = (
  c.loop-i.invariant.going.kps,
  (sizing_turn c.args.rlgr3 c.args.xs.now c.requires.0 c.requires.1 c.loop-i.n c.loop-i.i c.loop-i.kp c.loop-i.krp c.loop-i.invariant
      c.loop-i-test.true c.choose-it.result c.choose-it.ensures).few,
)

pub overflow_add-i : goal.overflow_add-i
overflow_add-i c =
    omega (
      arith,
      (sizing_turn c.args.rlgr3 c.args.xs.now c.requires.0 c.requires.1 c.loop-i.n c.loop-i.i c.loop-i.kp c.loop-i.krp
          c.loop-i.invariant c.loop-i-test.true c.choose-it.result c.choose-it.ensures).used _ c.item_used-i.ensures,
      c.loop-i-test.true,
      c.requires.0,
    )

pub item_kp-kp-requires : goal.item_kp-kp-requires
item_kp-kp-requires c = c.loop-i.invariant.going.kps

pub item_krp-krp-requires : goal.item_krp-krp-requires
item_krp-krp-requires c = (
  c.loop-i.invariant.going.krs,
  (sizing_turn c.args.rlgr3 c.args.xs.now c.requires.0 c.requires.1 c.loop-i.n c.loop-i.i c.loop-i.kp c.loop-i.krp c.loop-i.invariant
      c.loop-i-test.true c.choose-it.result c.choose-it.ensures).small,
)

pub loop-i-smaller : goal.loop-i-smaller
loop-i-smaller c =
    omega (
      arith,
      (sizing_turn c.args.rlgr3 c.args.xs.now c.requires.0 c.requires.1 c.loop-i.n c.loop-i.i c.loop-i.kp c.loop-i.krp
          c.loop-i.invariant c.loop-i-test.true c.choose-it.result c.choose-it.ensures).used _ c.item_used-i.ensures,
      c.loop-i-test.true,
    )

pub loop-i-preserved : goal.loop-i-preserved
loop-i-preserved c =
    sizing_next c.args.rlgr3 c.args.xs.now c.requires.0 c.requires.1 c.loop-i.n c.loop-i.i c.loop-i.kp c.loop-i.krp c.loop-i.invariant
    c.loop-i-test.true c.choose-it.result c.choose-it.ensures _ _ _ _ c.item_size-n.ensures c.item_used-i.ensures
    c.item_kp-kp.ensures c.item_krp-krp.ensures

pub returns : goal.returns
returns c =
    sizing_end c.args.rlgr3 c.args.xs.now c.requires.0 c.requires.1 c.loop-i.n c.loop-i.i c.loop-i.kp
    c.loop-i.krp c.loop-i-test.false c.loop-i.invariant
