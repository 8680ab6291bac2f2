-- `code_write::put::choose_run` meets its contract: as many zeros as a full run has, zeros up to the end, or fewer and the value behind them. Assumes nothing.
use Prim.Native.Nat.{◌+◌, ◌/◌}
use mathlib.Core.Path.{◌≡◌, refl, sym, ◌∙◌}
use mathlib.Core.List.{map}
use native.Mathlib.Omega.{arith}
use lib.ListN.{drop, length-map, length-drop}
use Rattle.bits.specs.laws.Gr.{shift_one}
use Rattle.code.specs.Code.{zeros_of}
use Rattle.code.specs.Fold.{fold_z}
use Rattle.code.specs.laws.Code.{item_full, item_run}
use Rattle.code_write.specs.laws.Item.{at_drop}
use Rattle.code_write.proofs.put.choose_run.Goals as goal

pub returns-then-full-z : goal.returns-then-full-z
returns-then-full-z c =
    let a = c.args in
    let w = shift_one (a.kp / 8) (omega (arith, c.requires.4)) in
    sym (item_full a.rlgr3 a.kp (drop a.i (map fold_z a.xs.now)) (omega (arith, c.requires.3))
    (omega (arith, w, c.zeros_from-z.ensures, c.if-full-z.true)))

pub returns-then-left-z : goal.returns-then-left-z
returns-then-left-z c =
    let a = c.args in
    let l = map fold_z a.xs.now in
    let n = length-drop a.i l in
    sym (item_full a.rlgr3 a.kp (drop a.i l) (omega (arith, c.requires.3))
    (omega (arith, n, length-map a.xs.now fold_z, c.zeros_from-z.ensures, c.if-left-z.true)))

pub returns : goal.returns
returns c =
    let a = c.args in
    let l = map fold_z a.xs.now in
    let z = c.zeros_from-z.result in
    let w = shift_one (a.kp / 8) (omega (arith, c.requires.4)) in
    let e : zeros_of (drop a.i l) ≡ z = omega (arith, c.zeros_from-z.ensures, c.if-full-z.false) in
    let v = at_drop l a.i z (a.i + z) refl ∙ sym c.folded_at-v.ensures in
    sym (item_run a.rlgr3 a.kp (drop a.i l) (omega (arith, c.requires.3)) z _ (sym e) v (omega (arith, w, c.if-full-z.false))
    (omega (arith, length-drop a.i l, length-map a.xs.now fold_z, c.if-left-z.false)))
