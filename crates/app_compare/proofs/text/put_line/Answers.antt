-- Three pieces (`put_two`), which are the line (`line-text`).
use Rattle.app_compare.specs.laws.Text.{put_two, put_is, line-text}
use native.Mathlib.Omega.{arith}
use Rattle.app_compare.proofs.text.put_line.Goals as goal

pub put_field-y-requires : goal.put_field-y-requires
put_field-y-requires c =
    omega (arith, c.put_field-x.ensures.1, c.put_field-x.ensures.0.len, c.requires)

pub put_field-requires : goal.put_field-requires
put_field-requires c =
    omega (arith, c.put_field-y.ensures.1, c.put_field-y.ensures.0.len, c.put_field-x.ensures.1, c.put_field-x.ensures.0.len, c.requires)

pub returns : goal.returns
returns c =
    let a = c.put_field-x.ensures in
    let b = c.put_field-y.ensures in
    let d = c.put_field.ensures in (
      put_is _ _ _ _ _ _ (line-text c.args.l) (put_two _ _ _ _ _ _ _ _ a.0 (put_two _ _ _ _ _ _ _ _ b.0 d.0)),
      omega (arith, a.1, b.1, d.1),
    )
