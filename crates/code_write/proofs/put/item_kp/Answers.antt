-- One law for each kind of item: `kp_full`, `kp_single`, `kp_twin`, `kp_run`.
use mathlib.Core.Path.{sym, ◌∙◌}
use Rattle.code_write.specs.laws.Item.{kp_full, kp_single, kp_twin, kp_run}
use Rattle.code_write.proofs.put.item_kp.Goals as goal

pub returns-in-Full : goal.returns-in-Full
returns-in-Full c = c.more.ensures ∙ sym (kp_full c.args.kp c.args.it c.in-Full.is)

pub returns-in-Single : goal.returns-in-Single
returns-in-Single c = c.kp_one.ensures ∙ sym (kp_single c.args.kp c.args.it _ c.in-Single.is)

pub returns-in-Twin : goal.returns-in-Twin
returns-in-Twin c = c.kp_two.ensures ∙ sym (kp_twin c.args.kp c.args.it _ _ c.in-Twin.is)

pub returns-in-Run : goal.returns-in-Run
returns-in-Run c = c.less.ensures ∙ sym (kp_run c.args.kp c.args.it _ _ c.in-Run.is)
