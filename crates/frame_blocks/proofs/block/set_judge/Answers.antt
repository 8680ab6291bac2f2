-- Each return is one row of `set_judge`; sets and data are small enough for their sum.
use Rattle.whole.specs.laws.Row.{rows}
use Rattle.frame_layout.specs.Reader.{set_judge}
use Rattle.frame_blocks.proofs.block.set_judge.Goals as goal

pub returns-then-subtype-ne51906 : goal.returns-then-subtype-ne51906
unfolding set_judge
returns-then-subtype-ne51906 c = search rows depth 14 fits 20000

pub returns-then-idx-ne0 : goal.returns-then-idx-ne0
unfolding set_judge
returns-then-idx-ne0 c = search rows depth 14 fits 20000

pub returns-then-side-ne64 : goal.returns-then-side-ne64
unfolding set_judge
returns-then-side-ne64 c = search rows depth 14 fits 20000

pub returns-then-n-gt2048 : goal.returns-then-n-gt2048
unfolding set_judge
returns-then-n-gt2048 c = search rows depth 14 fits 20000

pub returns-then-size-q : goal.returns-then-size-q
unfolding set_judge
returns-then-size-q c = search rows depth 14 fits 20000

pub returns-then-not-is_props : goal.returns-then-not-is_props
unfolding set_judge
returns-then-not-is_props c = search rows depth 14 fits 20000

pub returns : goal.returns
unfolding set_judge
returns c = search rows depth 14 fits 20000
