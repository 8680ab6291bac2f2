-- A value in range and a factor of a good quantiser (`power_near`), as the machine reads them.
use Rattle.std.proofs.Common.{sym, subst, ◌∙◌, w32}
use Rattle.whole.specs.laws.Near.{Near, back_near, back_ok}
use Rattle.bands.specs.laws.Band.{power_near}
use Rattle.bands.proofs.fn.scale_up.each_band.Goals as goal

pub times-requires : goal.times-requires
times-requires c = (
  back_near w32 c.requires.2 tt,
  subst (Near 16384) (sym (back_ok w32 c.power.result c.power.type_inv ∙ c.power.ensures)) (power_near c.args.n c.requires.1),
)
