-- One law for each way out: the call's own fault, a slight list, the component's fault, no room, none.
use mathlib.Core.Path.{sym, ◌∙◌}
use native.Mathlib.Omega.{arith}
use lib.ListN.{length}
use Rattle.std.proofs.lemmas.Result.{err_from_is_err_and}
use Rattle.code_write.specs.laws.Write.{called, judge_call, judge_fine, judge_component, judge_room, judge_done}
use Rattle.code_write.specs.laws.Span.{slight_is}
use Rattle.code_write.specs.laws.Length.{slight_few, slight_fine}
use Rattle.code_write.proofs.call.judge.Goals as goal

pub returns-in_err-call_judge : goal.returns-in_err-call_judge
returns-in_err-call_judge c =
    let a = c.args in
    let p = err_from_is_err_and c.from_residual.result c.from_residual.ensures.1 in
    rw (p.1, p.2) (judge_call a.mode a.list.now a.room _ c.in_err-call_judge.ensures)

pub is_slight-requires : goal.is_slight-requires
is_slight-requires c =
    let a = c.args in
    (called a.mode (length a.list.now) c.in_ok-call_judge.ensures).long

pub returns-then-is_slight : goal.returns-then-is_slight
returns-then-is_slight c =
    let a = c.args in
    let zs = c.args.list.now in
    let j = c.in_ok-call_judge.ensures in
    let s = slight_is zs (called a.mode (length zs) j).long (sym c.is_slight.ensures ∙ c.if-is_slight.true) in
    judge_fine a.mode zs a.room j (slight_fine zs s a.mode) (omega (arith, slight_few zs s a.mode))

pub measure_component-requires : goal.measure_component-requires
measure_component-requires c =
    let a = c.args in
    omega (arith, (called a.mode (length a.list.now) c.in_ok-call_judge.ensures).long)

pub returns-in_err-size : goal.returns-in_err-size
returns-in_err-size c =
    let a = c.args in
    let r = c.from_residual-in_err-size in
    let p = err_from_is_err_and r.result r.ensures.1 in
    rw (p.1, p.2) (judge_component a.mode a.list.now a.room c.in_ok-call_judge.ensures _ c.in_err-size.ensures)

pub returns-then-room-size : goal.returns-then-room-size
returns-then-room-size c =
    let a = c.args in
    judge_room a.mode a.list.now a.room c.in_ok-call_judge.ensures c.in_ok-size.size c.in_ok-size.ensures c.if-room-size.true

pub returns : goal.returns
returns c =
    let a = c.args in
    judge_done a.mode a.list.now a.room c.in_ok-call_judge.ensures c.in_ok-size.size c.in_ok-size.ensures c.if-room-size.false
