-- One law for each way out: the rest before a 00, no byte at all, and a last byte that is not 00.
use mathlib.Core.Path.{refl}
use native.Mathlib.Omega.{arith}
use Rattle.tidy_code.specs.laws.Read.{others_empty, others_not, others_ends}
use Rattle.tidy_code.proofs.read_others.Goals as goal
use Rattle.tidy_code.proofs.read_others.Goals.{then-s-lt1, else-s-lt1+in_default-1}

pub returns-in-0 : goal.returns-in-0
returns-in-0 c =
    let a = c.args in
    others_ends a.sender a.mode a.s.now _ _ _ (omega arith) (omega arith) refl c.read_surplus.ensures

pub returns : goal.returns
returns c =
    let a = c.args in
    elim c.if-s-lt1.branch [
      | then-s-lt1 w ↦ others_empty a.sender a.mode a.s.now _ _ (grind arith) c.refuse.ensures
      | else-s-lt1+in_default-1 w ↦ others_not a.sender a.mode a.s.now _ _ (grind arith) (λ e. grind arith) c.refuse.ensures
    ]
