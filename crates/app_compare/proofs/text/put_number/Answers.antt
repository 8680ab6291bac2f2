-- The kit's digits are the definition's (`number_text`), and at most 20.
use Rattle.app_compare.specs.laws.Text.{put_is, number_text, few_digits}
use native.Mathlib.Omega.{arith}
use Rattle.app_compare.proofs.text.put_number.Goals as goal

pub put-requires : goal.put-requires
put-requires c =
    let d = c.decimal-k.ensures in
    omega (arith, few_digits c.args.n c.decimal-k.result (omega arith) d.len, d.in_bounds.1, c.requires)

pub returns : goal.returns
returns c =
    let d = c.decimal-k.ensures in
    let p = c.put.ensures in
    let k = few_digits c.args.n c.decimal-k.result (omega arith) d.len in
    (put_is _ _ _ _ _ _ (number_text _ c.decimal-k.result _ d.len k d.digits) p, omega (arith, p.end, d.in_bounds.1, k))
