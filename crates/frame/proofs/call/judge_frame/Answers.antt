-- `call::judge_frame` meets its contract: a refused record or list by `judged_early`. The ways out behind it have no answer here: by the laws that the
-- function names the number is the message's, and each list is cleared.
use mathlib.Core.Path.{refl}
use Rattle.wire.specs.laws.Refusal.{number_pos, handed_on}
use Rattle.session.specs.laws.Header.{ready_good}
use Rattle.frame_draw.specs.laws.Show.{lists_kept}
use Rattle.frame.specs.laws.Frame.{CallGood, call_good, judged_early}
use Rattle.frame.proofs.call.judge_frame.Goals as goal
use Rattle.frame.proofs.call.judge_frame.Goals.{In_ok-call_judge}

-- the record and the lists, once they are judged
good :
    (c : In_ok-call_judge) →
    let a = c.args in
    CallGood a.word a.s a.p a.ys.now a.cbs.now a.crs.now a.tmp.now
good c = call_good _ _ _ _ _ _ _ c.in_ok-call_judge.ensures

pub returns-in_err-call_judge : goal.returns-in_err-call_judge
returns-in_err-call_judge c =
    rw (handed_on _ _ c.from_residual.ensures.1) (judged_early _ _ _ _ _ _ _ _ _ c.in_err-call_judge.ensures (number_pos _))

pub message_fault-requires : goal.message_fault-requires
message_fault-requires c =
    let g = good (goal.at.message_fault-requires c).In_ok-call_judge in ((ready_good c.args.s g.is-ready).right, g.lists.tmp_len)

pub clear_all-requires : goal.clear_all-requires
clear_all-requires c =
    lists_kept _ _ _ _ _ _ _ _ (good (goal.at.clear_all-requires c).In_ok-call_judge).lists refl refl refl c.message_fault.auto.work
