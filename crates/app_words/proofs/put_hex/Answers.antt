-- What the kit makes of a number is its text (`number_put`).
use mathlib.Core.Path.{refl}
use native.Mathlib.Omega.{arith}
use Rattle.app_words.specs.laws.Words.{few_digits, number_put, least_is}
use Rattle.app_words.proofs.put_hex.Goals as goal

pub put_text-requires : goal.put_text-requires
put_text-requires c =
    let h = c.hex-k.ensures in
    let q = c.requires in
    let g = least_is 16 _ _ c.hex-k.result q.1.0 q.1.1 h.len in
    let f = few_digits 16 _ _ c.hex-k.result (omega arith) g 16 q.1.1 (omega arith) in
    omega (arith, h.in_bounds.1, f)

pub returns : goal.returns
returns c =
    let h = c.hex-k.ensures in
    let k = c.hex-k.result in
    let q = c.requires in
    let g = least_is 16 _ _ k q.1.0 q.1.1 h.len in
    let f = few_digits 16 _ _ k (omega arith) g 16 q.1.1 (omega arith) in
    number_put _ _ _ c.hex-k.new.out 16 _ _ _ _ k 16 (omega arith) g (omega arith) h.digits refl (omega (arith, h.in_bounds.1, f))
    c.put_text.ensures
