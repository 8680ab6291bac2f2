-- Each return is one row of `context_judge`.
use Rattle.whole.specs.laws.Row.{rows}
use Rattle.session.specs.Header.{context_judge}
use Rattle.session.proofs.context_judge.Goals as goal

pub returns-then-codec-ne1 : goal.returns-then-codec-ne1
unfolding context_judge
returns-then-codec-ne1 c = search rows depth 14 fits 20000

pub returns-then-channel-ne255 : goal.returns-then-channel-ne255
unfolding context_judge
returns-then-channel-ne255 c = search rows depth 14 fits 20000

pub returns-then-context-ne0 : goal.returns-then-context-ne0
unfolding context_judge
returns-then-context-ne0 c = search rows depth 14 fits 20000

pub returns-then-side-ne64 : goal.returns-then-side-ne64
unfolding context_judge
returns-then-side-ne64 c = search rows depth 14 fits 20000

pub returns-then-properties_good : goal.returns-then-properties_good
unfolding context_judge
returns-then-properties_good c = search rows depth 14 fits 20000

pub returns : goal.returns
unfolding context_judge
returns c = search rows depth 14 fits 20000
