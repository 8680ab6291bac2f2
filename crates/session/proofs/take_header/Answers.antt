-- `take_header` meets its contract: the first fault's refusal where there is one, else the record after, which a message without a fault allows to be read.
use mathlib.Core.Path.{sym, ap, ◌∙◌}
use Rattle.std.specs.Prelude.{Ok, Err}
use Rattle.wire.specs.Refusal.{refusal_of}
use Rattle.wire.specs.laws.Refusal.{number_pos, handed_on, refusal_back}
use Rattle.session.specs.laws.Header.{good, header_taken, header_refused}
use Rattle.session.proofs.take_header.Goals as goal

pub returns-in_err-header_fault : goal.returns-in_err-header_fault
returns-in_err-header_fault c =
    let e = c.in_err-header_fault.ensures in
    handed_on _ _ c.from_residual.ensures.1 ∙ ap Err (sym (refusal_back _) ∙ ap refusal_of e) ∙
    sym (header_refused c.args.s c.args.m.now (λ z. number_pos _ (e ∙ z)))

pub record_after-requires : goal.record_after-requires
record_after-requires c = good _ _ c.in_ok-header_fault.ensures

pub returns : goal.returns
returns c = ap Ok c.record_after.ensures ∙ sym (header_taken c.args.s c.args.m.now (sym c.in_ok-header_fault.ensures))
