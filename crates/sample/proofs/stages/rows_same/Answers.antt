-- The loop counts the rows that are passed (`rows_same`); each lies within the file.
use Rattle.std.proofs.Common.{◌≡◌, ◌+◌, ◌/◌, length, ap, ◌∙◌, arith}
use native.Mathlib.Nat.{div-le_self}
use Rattle.sample.specs.Compare.{one_if, rows_same}
use Rattle.sample.specs.laws.Compare.{one_most, row_within, rows_turn, rows_none}
use Rattle.sample.proofs.stages.rows_same.Goals as goal

pub loop-i-init : goal.loop-i-init
loop-i-init c = (omega arith, rows_none _ _ _)

pub overflow_mul-i : goal.overflow_mul-i
overflow_mul-i c = let a = c.args in let h = row_within (length a.rows.now) (a.w + 1) c.loop-i.i (omega arith) in omega (arith, h)

pub overflow_add-same : goal.overflow_add-same
overflow_add-same c =
    let a = c.args in
    let n = div-le_self (length a.rows.now) (a.w + 1) in
    let m = one_most _ _ c.one-same.ensures in
    omega (arith, m, n)

pub loop-i-preserved : goal.loop-i-preserved
loop-i-preserved c =
    let l = c.loop-i in
    let m = one_most _ _ c.one-same.ensures in
    (omega (arith, m), rows_turn _ _ _ l.i _ _ l.invariant.1 (c.one-same.ensures ∙ ap one_if c.row_same.ensures))

pub returns : goal.returns
returns c =
    let l = c.loop-i in
    let a = c.args in
    let e : l.i ≡ length a.rows.now / (a.w + 1) = omega arith in l.invariant.1 ∙ ap (rows_same _ _ _) e
