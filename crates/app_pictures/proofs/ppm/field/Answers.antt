-- The three callees, by the law `field_is`.
use Rattle.app_pictures.specs.laws.Ppm.{field_is}
use Rattle.app_pictures.proofs.ppm.field.Goals as goal

pub returns : goal.returns
returns c = field_is _ _ _ _ _ c.skip-start.ensures c.number.ensures c.field_of.ensures
