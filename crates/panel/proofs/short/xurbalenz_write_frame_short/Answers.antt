-- `xurbalenz_write_frame_short` meets its contract: the number and the length are those of the writer's answer.
use Rattle.panel.specs.laws.Short.{short_write_call}
use Rattle.panel.proofs.short.xurbalenz_write_frame_short.Goals as goal

pub returns : goal.returns
returns c =
    short_write_call _ _ _ _ _ _ _ _ _ _ _ _ _ _ _ _ _ _ c.write_frame_short-w.ensures c.count_of.ensures c.number_of.ensures
