-- `settings::write::put_front` meets its contract: three patches, each right behind the one before. Assumes nothing.
use Rattle.settings.specs.laws.Write.{front_put}
use Rattle.settings.proofs.write.put_front.Goals as goal

pub returns : goal.returns
returns c =
    front_put _ _ _ _ _ _ c.requires c.put8_at.ensures c.put16_at.ensures c.put8_at-2.ensures
