-- A good tileset holds its data, so the part of the message is there; its place and length are the definition's.
use native.Mathlib.Omega.{arith}
use native.Mathlib.Nat.{add-sub_cancel_left}
use Rattle.frame_layout.specs.Reader.{quant_count, data_size, data_of}
use Rattle.frame_blocks.proofs.block.tile_data.Goals as goal

pub slice_bounds-result-end : goal.slice_bounds-result-end
unfolding quant_count data_size
slice_bounds-result-end c =
    omega (arith, c.requires.there, c.requires.size, c.byte_at-q.ensures.0, c.le32_at-size.ensures.0)

pub returns : goal.returns
unfolding data_of quant_count data_size
returns c = simp (add-sub_cancel_left, c.byte_at-q.ensures.0, c.le32_at-size.ensures.0)
