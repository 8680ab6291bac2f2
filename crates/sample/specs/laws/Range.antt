-- What a list that was found in range gives its readers.
-- Assumes nothing.
use Rattle.std.specs.Prelude.{◌≡◌, Bool, true, List, ℤ}
use Rattle.std.proofs.Common.{sym, ◌∙◌}
use Rattle.whole.specs.laws.Tab.{AllNear}
use Rattle.code_write.specs.Write.{all_in_range}
use Rattle.code_write.specs.laws.Write.{range_is}

pub near_of : (zs : List ℤ) (r : Bool) → r ≡ all_in_range zs → r ≡ true → AllNear 32767 zs
near_of zs r e t = record { all = λ i. record { near = range_is zs (sym e ∙ t) i } }
