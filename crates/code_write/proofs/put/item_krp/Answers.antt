-- One law for each kind of item: `kr_full`, `kr_single`, `kr_twin`, `kr_run`; the numbers of an item are small.
use mathlib.Core.Path.{sym, ◌∙◌}
use native.Mathlib.Omega.{arith}
use Rattle.code_write.specs.laws.Item.{kr_full, kr_single, kr_twin, kr_run, small_twin, small_run}
use Rattle.code_write.proofs.put.item_krp.Goals as goal

pub overflow_add-a : goal.overflow_add-a
overflow_add-a c =
    let w = small_twin c.args.it _ _ c.in-Twin.is c.requires.1 in omega (arith, w.0, w.1)

pub overflow_sub-v : goal.overflow_sub-v
overflow_sub-v c = (small_run c.args.it _ _ c.in-Run.is c.requires.1).0

pub returns-in-Full : goal.returns-in-Full
returns-in-Full c = sym (kr_full c.args.krp c.args.it c.in-Full.is)

pub returns-in-Single : goal.returns-in-Single
returns-in-Single c =
    c.kr_after.ensures ∙ sym (kr_single c.args.krp c.args.it _ c.in-Single.is)

pub returns-in-Twin : goal.returns-in-Twin
returns-in-Twin c =
    c.kr_after-in-Twin.ensures ∙ sym (kr_twin c.args.krp c.args.it _ _ c.in-Twin.is)

pub returns-in-Run : goal.returns-in-Run
returns-in-Run c =
    c.kr_after-in-Run.ensures ∙ sym (kr_run c.args.krp c.args.it _ _ c.in-Run.is)
