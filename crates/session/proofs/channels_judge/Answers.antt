-- Each return is one row of `channels_judge`.
use Rattle.whole.specs.laws.Row.{rows}
use Rattle.session.specs.Header.{channels_judge}
use Rattle.session.proofs.channels_judge.Goals as goal

pub returns-then-count-ne1 : goal.returns-then-count-ne1
unfolding channels_judge
returns-then-count-ne1 c = search rows

pub returns-then-id-ne0 : goal.returns-then-id-ne0
unfolding channels_judge
returns-then-id-ne0 c = search rows

pub returns-then-is_size : goal.returns-then-is_size
unfolding channels_judge
returns-then-is_size c = search rows

pub returns : goal.returns
unfolding channels_judge
returns c = search rows
