-- `tile::component_fault` meets its contract: the code's number, or what the list as read is judged (`read_refused`, `list_judged`). Assumes nothing.
use Rattle.std.specs.Prelude.{refl}
use Rattle.std.proofs.Common.{sym, ap, arith}
use Rattle.wire.specs.laws.Refusal.{number_pos}
use Rattle.code.specs.Read.{reading_number}
use Rattle.tile_back.specs.laws.Component.{read_refused, list_judged}
use Rattle.tile_back.proofs.component_fault.Goals as goal

pub returns-in-Done : goal.returns-in-Done
unfolding reading_number
returns-in-Done c =
    let d = c.read_component in
    list_judged c.args.mode c.args.q.v c.args.code.now c.args.work.now d.new.list d.result c.requires.0 d.ensures
    0 (sym (ap reading_number c.in-Done.is)) refl _ c.judge.ensures

pub returns-in-Tail : goal.returns-in-Tail
unfolding reading_number
returns-in-Tail c =
    let d = c.read_component in
    read_refused c.args.mode c.args.q.v c.args.code.now c.args.work.now d.new.list d.result c.requires.0 d.ensures
    11 (sym (ap reading_number c.in-Tail.is)) (λ e. omega arith)

pub returns-in-Refused : goal.returns-in-Refused
unfolding reading_number
returns-in-Refused c =
    let d = c.read_component in
    read_refused c.args.mode c.args.q.v c.args.code.now c.args.work.now d.new.list d.result c.requires.0 d.ensures
    _ (sym (ap reading_number c.in-Refused.is)) (number_pos _)
