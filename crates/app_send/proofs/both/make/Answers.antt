-- The stream refused (`both_none`), or the change behind it (`both_is`).
use borrow.Author.Rules.{rules}
use native.Mathlib.Omega.{arith}
use Rattle.std.proofs.lemmas.Result.{err_from_is_err_and}
use Rattle.app_send.specs.laws.Both.{both_none, both_is}
use Rattle.app_send.proofs.both.make.Goals as goal

pub returns-in_err-size : goal.returns-in_err-size
returns-in_err-size c =
    let p = err_from_is_err_and c.from_residual.result c.from_residual.ensures.1 in
    rw (p.1, p.2) (both_none _ _ _ _ _ _ _ c.in_err-size.ensures)

pub change-requires : goal.change-requires
change-requires c = omega (arith, c.in_ok-size.ensures.fits)

pub returns : goal.returns
returns c = both_is _ _ _ _ _ _ _ _ _ _ c.in_ok-size.ensures (search rules) c.next.ensures c.change.ensures
