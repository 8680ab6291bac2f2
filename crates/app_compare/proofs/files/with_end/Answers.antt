-- How many of two bytes come at the end (`end_known`).
use Rattle.app_compare.specs.laws.Files.{end_known}
use native.Mathlib.Omega.{arith}
use Rattle.app_compare.proofs.files.with_end.Goals as goal

pub read_into-n-requires : goal.read_into-n-requires
read_into-n-requires c = omega (arith, c.end_of-end.ensures.1)

pub overflow_add-result : goal.overflow_add-result
overflow_add-result c =
    omega (arith, c.end_of-end.ensures.1, c.read_into-n.ensures.0, c.read_into-n.auto.part)

pub returns : goal.returns
returns c =
    let r = c.read_into-n in
    end_known _ c.args.p c.end_of-end.result r.result r.new.part c.end_of-end.ensures.0 r.ensures.0 r.auto.part
    r.ensures.1
