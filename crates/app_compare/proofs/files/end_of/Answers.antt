-- A place in a picture is a small number (`area`).
use mathlib.Core.Path.{refl}
use Rattle.app_compare.specs.laws.Files.{area}
use native.Mathlib.Omega.{arith}
use Rattle.app_compare.proofs.files.end_of.Goals as goal

pub overflow_mul-result : goal.overflow_mul-result
overflow_mul-result c =
    omega (arith, area c.args.p.width c.args.p.height (omega arith) (omega arith))

pub overflow_mul-result-2 : goal.overflow_mul-result-2
overflow_mul-result-2 c =
    omega (arith, area c.args.p.width c.args.p.height (omega arith) (omega arith))

pub overflow_add-result : goal.overflow_add-result
overflow_add-result c =
    omega (arith, area c.args.p.width c.args.p.height (omega arith) (omega arith))

pub returns : goal.returns
returns c =
    (refl, omega (arith, area c.args.p.width c.args.p.height (omega arith) (omega arith)))
