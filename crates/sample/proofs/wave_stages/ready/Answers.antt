-- Each return is one row of `is_ready`.
use Rattle.whole.specs.laws.Row.{rows}
use Rattle.sample.specs.Waves.{is_ready}
use Rattle.sample.proofs.wave_stages.ready.Goals as goal

pub returns-then-n-lt2 : goal.returns-then-n-lt2
unfolding is_ready
returns-then-n-lt2 c = search rows

pub returns-then-n-gt32 : goal.returns-then-n-gt32
unfolding is_ready
returns-then-n-gt32 c = search rows

pub returns-then-work-ne4096 : goal.returns-then-work-ne4096
unfolding is_ready
returns-then-work-ne4096 c = search rows

pub returns-then-tmp-ne4096 : goal.returns-then-tmp-ne4096
unfolding is_ready
returns-then-tmp-ne4096 c = search rows depth 14 fits 20000

pub returns : goal.returns
unfolding is_ready
returns c = search (rows, c.in_range.ensures) depth 14 fits 20000
