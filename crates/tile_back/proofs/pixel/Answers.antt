-- `pixel` meets its contract: three samples of planes are near enough for the colour step, and the word is theirs. Assumes nothing.
use mathlib.Core.Path.{◌∙◌}
use Rattle.tile_back.specs.laws.Word.{plane_near, word_there}
use Rattle.tile_back.proofs.pixel.Goals as goal

pub word-requires : goal.word-requires
word-requires g c =
    let i = c.args.i in
    (plane_near _ i c.requires.1, plane_near _ i c.requires.2, plane_near _ i c.requires.3)

pub returns : goal.returns
returns g c =
    c.word.ensures ∙ word_there _ _ _ _ c.args.i c.requires.1 c.requires.2 c.requires.3
