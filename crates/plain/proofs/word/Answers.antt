-- `word` meets its contract. Assumes nothing.
use Rattle.colour.specs.Colour.{word_of}
use mir.Facts.{to_z-of_z}
use Rattle.plain.proofs.word.Goals as goal

pub returns : goal.returns
unfolding word_of
returns g c =
    let fits = c.ranges in
    cc (c.of.ensures, c.red.ensures, c.green.ensures, c.blue.ensures, to_z-of_z fits.y, to_z-of_z fits.cb, to_z-of_z fits.cr)
