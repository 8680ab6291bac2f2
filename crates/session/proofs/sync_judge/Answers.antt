-- Each return is one row of `sync_judge`.
use Rattle.whole.specs.laws.Row.{rows}
use Rattle.session.specs.Header.{sync_judge}
use Rattle.session.proofs.sync_judge.Goals as goal

pub returns-then-magic-ne3402411210 : goal.returns-then-magic-ne3402411210
unfolding sync_judge
returns-then-magic-ne3402411210 c = search rows

pub returns-then-version-ne256 : goal.returns-then-version-ne256
unfolding sync_judge
returns-then-version-ne256 c = search rows

pub returns : goal.returns
unfolding sync_judge
returns c = search rows
