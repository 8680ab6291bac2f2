-- Two pieces (`put_two`).
use Rattle.app_compare.specs.laws.Text.{put_two}
use native.Mathlib.Omega.{arith}
use Rattle.app_compare.proofs.text.put_field.Goals as goal

pub put-requires : goal.put-requires
put-requires c =
    omega (arith, c.put_number-end.ensures.1, c.put_number-end.ensures.0.len, c.requires)

pub returns : goal.returns
returns c =
    let a = c.put_number-end.ensures in
    let b = c.put.ensures in
    (put_two _ _ _ _ _ _ _ _ a.0 b, omega (arith, a.1, b.end))
