-- `set_fields` meets its contract: the eight numbers that it reads are those of the definition. Assumes nothing.
use Rattle.frame_layout.specs.Reader.{size_at, quant_count, tile_count, data_size}
use Rattle.frame_blocks.specs.Blocks.{set_fields}
use Rattle.frame_blocks.proofs.block.set_fields.Goals as goal

pub returns : goal.returns
unfolding set_fields size_at quant_count tile_count data_size
returns c = cc
