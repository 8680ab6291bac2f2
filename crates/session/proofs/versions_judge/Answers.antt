-- Each return is one row of `versions_judge`.
use Rattle.whole.specs.laws.Row.{rows}
use Rattle.session.specs.Header.{versions_judge}
use Rattle.session.proofs.versions_judge.Goals as goal

pub returns-then-count-ne1 : goal.returns-then-count-ne1
unfolding versions_judge
returns-then-count-ne1 c = search rows

pub returns-then-codec-ne1 : goal.returns-then-codec-ne1
unfolding versions_judge
returns-then-codec-ne1 c = search rows

pub returns-then-version-ne256 : goal.returns-then-version-ne256
unfolding versions_judge
returns-then-version-ne256 c = search rows

pub returns : goal.returns
unfolding versions_judge
returns c = search rows
