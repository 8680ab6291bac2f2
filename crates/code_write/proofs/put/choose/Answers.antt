-- A run where k is above 0; else a pair, with 0 for the second past the end, or a single value.
use Prim.Native.Nat.{◌+◌}
use mathlib.Core.Path.{refl, sym, ◌∙◌}
use mathlib.Core.List.{map}
use native.Mathlib.Omega.{arith}
use lib.ListN.{drop}
use Rattle.code.specs.Fold.{fold_z}
use Rattle.code.specs.laws.Code.{item_twin, item_single}
use Rattle.code_write.specs.laws.Item.{at_drop}
use Rattle.code_write.proofs.put.choose.Goals as goal

pub returns-then-rlgr3 : goal.returns-then-rlgr3
returns-then-rlgr3 c =
    let a = c.args in
    let l = map fold_z a.xs.now in
    let e = at_drop l a.i 0 a.i (omega arith) ∙ sym c.folded_at-a.ensures in
    let f = at_drop l a.i 1 (a.i + 1) refl ∙ sym c.folded_or-b.ensures in
    rw c.if-rlgr3.true (sym (item_twin a.kp (drop a.i l) _ _ (omega (arith, c.if-kp-ge8.false)) e f))

pub returns : goal.returns
returns c =
    let a = c.args in
    let l = map fold_z a.xs.now in
    let e = at_drop l a.i 0 a.i (omega arith) ∙ sym c.folded_at-a.ensures in
    rw c.if-rlgr3.false (sym (item_single a.kp (drop a.i l) _ (omega (arith, c.if-kp-ge8.false)) e))
