-- The product of two bounded numbers (`rows_bound`).
use Rattle.std.proofs.Common.{refl, arith}
use Rattle.app_pictures.specs.laws.Bmp.{rows_bound}
use Rattle.app_pictures.proofs.bmp.rows_size.Goals as goal

pub overflow_mul-result : goal.overflow_mul-result
overflow_mul-result c = let b = rows_bound c.args.row c.args.height (omega arith) (omega arith) in omega arith

pub returns : goal.returns
returns c = (refl, rows_bound _ _ (omega arith) (omega arith))
