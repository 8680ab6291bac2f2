-- 5, 2, 13, or the frame is passed on (`call_refused`, `call_done`); the work list, still as long, is cleared.
use mathlib.Core.Path.{sym, ap, ◌∙◌}
use native.Mathlib.Omega.{arith}
use lib.IntN.{pos}
use lib.ListN.{replicate}
use Rattle.wire.specs.declared.Refusal.TheVariants.{Field, Buffer, Room}
use Rattle.tidy.specs.laws.Pass.{fault_5, fault_2, fault_13, fault_none, call_refused, call_done}
use Rattle.tidy.proofs.frames.tidy_frame.Goals as goal

pub returns-then-not-is_sender : goal.returns-then-not-is_sender
returns-then-not-is_sender c =
    let k = c.is_sender in
    let a = c.args in
    call_refused a.sender a.s a.message.now a.out.now a.list.now Field
    (fault_5 _ _ _ _ (sym k.ensures ∙ c.if-not-is_sender.true))

pub returns-then-list-ne4096 : goal.returns-then-list-ne4096
returns-then-list-ne4096 c =
    let k = c.is_sender in
    let a = c.args in
    call_refused a.sender a.s a.message.now a.out.now a.list.now Buffer
    (fault_2 _ _ _ _ (sym k.ensures ∙ c.if-not-is_sender.false) c.if-list-ne4096.true)

pub returns-then-out-message : goal.returns-then-out-message
returns-then-out-message c =
    let k = c.is_sender in
    let a = c.args in
    call_refused a.sender a.s a.message.now a.out.now a.list.now Room
    (fault_13 _ _ _ _ (sym k.ensures ∙ c.if-not-is_sender.false) c.if-list-ne4096.false c.if-out-message.true)

pub pass_frame-p-requires : goal.pass_frame-p-requires
pass_frame-p-requires c =
    (c.if-list-ne4096.false, omega (arith, c.if-out-message.false))

pub shape_of-list : goal.shape_of-list
shape_of-list c =
    c.clear.auto.list ∙ c.pass_frame-p.auto.list

pub shape_of-out : goal.shape_of-out
shape_of-out c =
    c.pass_frame-p.auto.out

pub returns : goal.returns
returns c =
    let k = c.is_sender in
    let a = c.args in
    call_done a.sender a.s a.message.now a.out.now a.list.now c.pass_frame-p.result _ _
    (fault_none _ _ _ _ (sym k.ensures ∙ c.if-not-is_sender.false) c.if-list-ne4096.false (omega (arith, c.if-out-message.false)))
    c.pass_frame-p.ensures (c.clear.ensures ∙ ap (λ k. replicate k (pos 0)) (c.pass_frame-p.auto.list ∙ c.if-list-ne4096.false))
