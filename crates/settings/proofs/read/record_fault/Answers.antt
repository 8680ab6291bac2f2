-- What is in front of the bytes decides first.
use Rattle.std.proofs.Common.{◌∙◌, sym}
use Rattle.std.proofs.lemmas.Result.{err_from_is_err_and}
use Rattle.whole.specs.laws.Row.{stops, goes_on}
use Rattle.wire.specs.laws.Refusal.{number_pos}
use Rattle.settings.specs.Settings.{record_fault}
use Rattle.settings.specs.laws.Read.{front_at, front_fits}
use Rattle.settings.proofs.read.record_fault.Goals as goal

pub returns-in_err-front_fault : goal.returns-in_err-front_fault
unfolding record_fault
returns-in_err-front_fault c =
    let a = c.args in
    let e = front_at _ a.version a.kind a.at a.m.now c.in_err-front_fault.ensures in
    let p = err_from_is_err_and c.from_residual.result c.from_residual.ensures.1 in
    rw (p.1, p.2) (stops _ _ _ (λ z. number_pos _ (e ∙ z)) e)

pub bytes_fault-requires : goal.bytes_fault-requires
bytes_fault-requires c =
    let a = c.args in
    front_fits a.version a.kind a.at a.m.now c.requires (front_at _ a.version a.kind a.at a.m.now c.in_ok-front_fault.ensures)

pub returns : goal.returns
unfolding record_fault
returns c =
    let a = c.args in
    goes_on _ _ _ (sym (front_at _ a.version a.kind a.at a.m.now c.in_ok-front_fault.ensures)) c.bytes_fault.ensures
