-- One law for each kind of item: `used_full` to `used_run`; the zeros of a run are few.
use Prim.Native.Nat.{◌/◌}
use mathlib.Core.Path.{sym, ◌∙◌}
use native.Mathlib.Omega.{arith}
use Rattle.code_write.specs.laws.Item.{used_full, used_single, used_twin, used_run, few_run}
use Rattle.bits.specs.laws.Gr.{shift_one}
use Rattle.code_write.proofs.put.item_used.Goals as goal

pub overflow_add-result : goal.overflow_add-result
overflow_add-result c = omega (arith, few_run c.args.it _ _ c.in-Run.is c.requires.1)

pub returns-in-Full : goal.returns-in-Full
returns-in-Full c =
    shift_one (c.args.kp / 8) (omega (arith, c.requires.0)) ∙ sym (used_full c.args.kp c.args.it c.in-Full.is)

pub returns-in-Single : goal.returns-in-Single
returns-in-Single c = sym (used_single c.args.kp c.args.it _ c.in-Single.is)

pub returns-in-Twin : goal.returns-in-Twin
returns-in-Twin c = sym (used_twin c.args.kp c.args.it _ _ c.in-Twin.is)

pub returns-in-Run : goal.returns-in-Run
returns-in-Run c = omega (arith, used_run c.args.kp c.args.it _ _ c.in-Run.is)
