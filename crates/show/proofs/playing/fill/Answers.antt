-- The piece that is there, or the next one (`fill_next`).
use Rattle.std.proofs.Common.{refl}
use Rattle.show.specs.Play.{same}
use Rattle.show.specs.laws.Play.{fill_next}
use Rattle.show.proofs.playing.fill.Goals as goal

pub returns-then-d-end : goal.returns-then-d-end
returns-then-d-end c = same

pub returns : goal.returns
returns c =
    fill_next _ _ _ _ _ _ c.first-end.ensures refl c.if-d-end.false c.at_place.ensures
