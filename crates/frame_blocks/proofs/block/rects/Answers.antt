-- A good region holds its rectangles, so the part of the message is there; its place and length are the definition's.
use native.Mathlib.Omega.{arith}
use native.Mathlib.Nat.{add-sub_cancel_left}
use Rattle.frame_layout.specs.Reader.{rect_count}
use Rattle.frame_blocks.specs.Blocks.{rects_of}
use Rattle.frame_blocks.proofs.block.rects.Goals as goal

pub slice_bounds-result-end : goal.slice_bounds-result-end
unfolding rect_count
slice_bounds-result-end c = omega (arith, c.requires.there, c.requires.size, c.le16_at-n.ensures.0)

pub returns : goal.returns
unfolding rects_of rect_count
returns c = simp (add-sub_cancel_left, c.le16_at-n.ensures.0)
