-- `panel::cabinet::xurbalenz_write_frame_sets` meets its contract: the number, the length and what is lent are those of the panel's own call.
use Rattle.panel.specs.laws.Cabinet.{over_call}
use Rattle.panel.proofs.cabinet.xurbalenz_write_frame_sets.Goals as goal

pub returns : goal.returns
returns c =
    over_call _ _ _ _ _ _ _ _ _ _ _ _ _ _ _ c.write_frame_sets-w.ensures c.count_of.ensures c.number_of.ensures
