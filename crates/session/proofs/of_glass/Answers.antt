-- `of_glass` meets its contract: two numbers of two bytes have a product of four.
use native.Mathlib.Omega.{arith}
use Rattle.session.specs.Header.{of_glass}
use Rattle.session.specs.laws.Header.{area_fits}
use Rattle.session.proofs.of_glass.Goals as goal

pub overflow_mul-result : goal.overflow_mul-result
overflow_mul-result c = let a = c.args in omega (arith, area_fits a.width a.height (omega arith) (omega arith))

pub returns : goal.returns
unfolding of_glass
returns c = cc
