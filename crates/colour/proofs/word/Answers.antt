-- `colour::word` meets its contract, on a glass of either size: the packing of the bytes that `rgb_of` gives.
-- Assumes nothing.
use mir.Facts.{to_z-of_z}
use Rattle.colour.specs.laws.Colour.{word_is}
use Rattle.colour.proofs.word.Goals as goal

pub returns : goal.returns
returns g c =
    let e = simp (to_z-of_z c.ranges.y, to_z-of_z c.ranges.cb, to_z-of_z c.ranges.cr) at c.rgb_of.ensures in
    word_is _ _ _ _ _ _ e c.pack.ensures
