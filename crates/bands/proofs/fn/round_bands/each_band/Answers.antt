-- The half of a good quantiser's divisor (`half_near`), as the machine reads it.
use Rattle.std.proofs.Common.{sym, subst, ◌∙◌, arith, w32}
use Rattle.whole.specs.laws.Near.{Near, back_near, back_ok}
use Rattle.bands.specs.laws.Rounding.{half_near}
use Rattle.bands.proofs.fn.round_bands.each_band.Goals as goal

pub rounded-requires : goal.rounded-requires
rounded-requires c = (
  back_near w32 c.requires.2 tt,
  subst (Near 8192) (sym (back_ok w32 c.power.result c.power.type_inv ∙ c.power.ensures)) (half_near c.args.n c.requires.1),
  omega arith,
)
