-- Each return is one row of `codec_judge`.
use Rattle.whole.specs.laws.Row.{rows}
use Rattle.frame_layout.specs.Reader.{codec_judge}
use Rattle.frame_blocks.proofs.block.codec_judge.Goals as goal

pub returns-then-codec-ne1 : goal.returns-then-codec-ne1
unfolding codec_judge
returns-then-codec-ne1 c = search rows depth 14 fits 20000

pub returns-then-channel-ne0 : goal.returns-then-channel-ne0
unfolding codec_judge
returns-then-channel-ne0 c = search rows depth 14 fits 20000

pub returns : goal.returns
unfolding codec_judge
returns c = search rows depth 14 fits 20000
