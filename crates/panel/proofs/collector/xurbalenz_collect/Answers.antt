-- What C is told are three readings of one answer: the law `collect-call` puts them together.
use Rattle.panel.specs.laws.Collector.{collect-call}
use Rattle.panel.proofs.collector.xurbalenz_collect.Goals as goal

pub returns : goal.returns
returns c = collect-call _ _ _ _ _ _ _ _ c.collect-t.ensures
    c.collected_call.ensures c.collected_size.ensures c.collected_number.ensures
