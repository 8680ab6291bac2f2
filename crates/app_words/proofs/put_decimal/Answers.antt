-- What the kit makes of a number is its text (`number_put`).
use mathlib.Core.Path.{refl}
use native.Mathlib.Omega.{arith}
use Rattle.app_words.specs.laws.Words.{few_digits, number_put}
use Rattle.app_words.proofs.put_decimal.Goals as goal

pub put_text-requires : goal.put_text-requires
put_text-requires c =
    let h = c.decimal-k.ensures in
    let f = few_digits 10 1 _ c.decimal-k.result (omega arith) h.len 20 (omega arith) (omega arith) in
    omega (arith, h.in_bounds.1, f)

pub returns : goal.returns
returns c =
    let h = c.decimal-k.ensures in
    let k = c.decimal-k.result in
    let f = few_digits 10 1 _ k (omega arith) h.len 20 (omega arith) (omega arith) in
    number_put _ _ _ c.decimal-k.new.out 10 1 _ _ _ k 20 (omega arith) h.len (omega arith) h.digits refl (omega (arith, h.in_bounds.1, f))
    c.put_text.ensures
