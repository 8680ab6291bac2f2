-- `place_judge` meets its contract: columns and rows are those of width and height.
use mathlib.Core.Path.{refl}
use Rattle.whole.specs.laws.Row.{passes, fails}
use Rattle.frame_blocks.specs.Tiles.{place_judge}
use Rattle.frame_blocks.specs.laws.Tiles.{place_in, place_out}
use Rattle.frame_blocks.proofs.tile.place_judge.Goals as goal

pub returns-then-s-x : goal.returns-then-s-x
unfolding place_judge
returns-then-s-x c = fails _ _ _ _ (place_out _ _ _ c.requires.columns c.if-s-x.true) refl

pub returns-then-s-y : goal.returns-then-s-y
unfolding place_judge
returns-then-s-y c =
    let r = c.requires in
    passes _ _ _ _ (place_in _ _ _ r.columns c.if-s-x.false) (fails _ _ _ _ (place_out _ _ _ r.rows c.if-s-y.true) refl)

pub returns : goal.returns
unfolding place_judge
returns c =
    let r = c.requires in
    passes _ _ _ _ (place_in _ _ _ r.columns c.if-s-x.false) (passes _ _ _ _ (place_in _ _ _ r.rows c.if-s-y.false) refl)
