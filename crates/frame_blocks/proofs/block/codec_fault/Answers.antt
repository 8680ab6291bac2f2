-- The two bytes are read where the definition reads them.
use Rattle.frame_layout.specs.Reader.{codec_fault}
use Rattle.frame_blocks.proofs.block.codec_fault.Goals as goal

pub returns : goal.returns
unfolding codec_fault
returns c = cc
