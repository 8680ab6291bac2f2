-- By the sign: `negative` and `positive` name the whole number behind the machine's, and every step of it fits.
use Prim.Native.Nat.{◌≤◌}
use mathlib.Core.Path.{◌≡◌, sym, ap}
use native.Mathlib.Omega.{arith}
use Rattle.code.specs.Fold.{fold_z}
use Rattle.code.specs.laws.Fold.{negative, positive}
use Rattle.code.proofs.element.folded.Goals as goal

pub overflow_sub-result : goal.overflow_sub-result
overflow_sub-result c = (negative c.args.x c.ranges.x c.if-x-lt0.true).fits

pub overflow_cast-result : goal.overflow_cast-result
overflow_cast-result c =
    let w = negative c.args.x c.ranges.x c.if-x-lt0.true in
    let e : c.args.x ≡ lib.IntN.negsuc w.n = w.is in let m : w.n ≤ 32767 = (rw e at c.requires) in rw w.less (tt, omega arith)

pub overflow_mul-result : goal.overflow_mul-result
overflow_mul-result c =
    let w = negative c.args.x c.ranges.x c.if-x-lt0.true in
    let e : c.args.x ≡ lib.IntN.negsuc w.n = w.is in let m : w.n ≤ 32767 = (rw e at c.requires) in rw w.less (omega arith)

pub overflow_add-result : goal.overflow_add-result
overflow_add-result c =
    let w = negative c.args.x c.ranges.x c.if-x-lt0.true in
    let e : c.args.x ≡ lib.IntN.negsuc w.n = w.is in let m : w.n ≤ 32767 = (rw e at c.requires) in rw w.less (omega arith)

pub overflow_cast-result-else-x-lt0 : goal.overflow_cast-result-else-x-lt0
overflow_cast-result-else-x-lt0 c =
    let w = positive c.args.x c.ranges.x c.if-x-lt0.false in
    let m : w.0 ≤ 32767 = (rw w.1 at c.requires) in rw w.2 (tt, omega arith)

pub overflow_mul-result-else-x-lt0 : goal.overflow_mul-result-else-x-lt0
overflow_mul-result-else-x-lt0 c =
    let w = positive c.args.x c.ranges.x c.if-x-lt0.false in
    let m : w.0 ≤ 32767 = (rw w.1 at c.requires) in rw w.2 (omega arith)

pub returns-then-x-lt0 : goal.returns-then-x-lt0
unfolding fold_z
returns-then-x-lt0 c = let w = negative c.args.x c.ranges.x c.if-x-lt0.true in rw w.less (sym (ap fold_z w.is))

pub returns-else-x-lt0 : goal.returns-else-x-lt0
unfolding fold_z
returns-else-x-lt0 c = let w = positive c.args.x c.ranges.x c.if-x-lt0.false in rw w.2 (sym (ap fold_z w.1))
