-- An even number is its half (`unfold_even`), an odd one lies below zero (`unfold_odd`); both fit 32 bits.
use mathlib.Core.Path.{sym, ◌∙◌}
use Prim.Native.Nat.{◌/◌}
use native.Mathlib.Omega.{arith}
use Rattle.code.specs.laws.Fold.{unfold_even, unfold_odd, small_to_z, less_fits, less_is}
use Rattle.code.proofs.element.unfolded.Goals as goal

pub overflow_sub-result : goal.overflow_sub-result
overflow_sub-result c = less_fits (c.args.v / 2) (omega arith)

pub returns-then-v-eq0 : goal.returns-then-v-eq0
returns-then-v-eq0 c = small_to_z (c.args.v / 2) (omega arith) ∙ sym (unfold_even c.args.v c.if-v-eq0.true)

pub returns-else-v-eq0 : goal.returns-else-v-eq0
returns-else-v-eq0 c = less_is (c.args.v / 2) (omega arith) ∙ sym (unfold_odd c.args.v c.if-v-eq0.false)
