-- `pixel` meets its contract: three samples of planes are near enough for the colour step (`plane_near`), and the word is theirs (`word_there`). Assumes
-- nothing.
use mathlib.Core.Path.{◌∙◌}
use Rattle.tile_back.specs.laws.Word.{plane_near, word_there}
use Rattle.plain.proofs.pixel.Goals as goal

pub word-requires : goal.word-requires
word-requires g c =
    (plane_near _ c.args.i c.requires.1, plane_near _ c.args.i c.requires.2, plane_near _ c.args.i c.requires.3)

pub returns : goal.returns
returns g c =
    c.word.ensures ∙ word_there _ _ _ _ c.args.i c.requires.1 c.requires.2 c.requires.3
