-- `caps::read::read_ack_message` meets its contract: along the layout, step by step, to the one that is refused or to its end.
-- Assumes nothing.
use mathlib.Core.Path.{◌∙◌}
use Rattle.std.proofs.Common.{eq-eqb, ne_eqb, eqb, ◌%◌}
use Rattle.caps.specs.Ack.{ack}
use Rattle.caps.specs.laws.Walk.{row_back, gives_back}
use Rattle.caps.specs.laws.Step.{next_on, next_off, row_stops, fixed_on, fixed_off, passed_on}
use Rattle.caps.proofs.read.read_ack_message.Goals as goal

pub returns-in_err-fixed : goal.returns-in_err-fixed
unfolding ack
returns-in_err-fixed c = passed_on _ _ _ _ _ c.from_residual.ensures (fixed_off _ c.in_err-fixed.ensures)

pub returns-in_err-kind : goal.returns-in_err-kind
unfolding ack
returns-in_err-kind c = passed_on _ _ _ _ _ c.from_residual-in_err-kind.ensures (fixed_on 4 _ c.in_ok-fixed.ensures ∙ next_off _ c.in_err-kind.ensures)

pub returns-then-kind-ne7 : goal.returns-then-kind-ne7
unfolding ack
returns-then-kind-ne7 c =
    fixed_on 4 _ c.in_ok-fixed.ensures ∙ next_on _ c.in_ok-kind.ensures
    ∙ row_stops (eqb (c.in_ok-kind.kind % 16) 7) 5 _ _ (ne_eqb _ 7 c.if-kind-ne7.true)

pub returns-in_err-source : goal.returns-in_err-source
unfolding ack
returns-in_err-source c =
    passed_on _ _ _ _ _ c.from_residual-in_err-source.ensures (fixed_on 4 _ c.in_ok-fixed.ensures ∙ next_on _ c.in_ok-kind.ensures
    ∙ row_back (eqb (c.in_ok-kind.kind % 16) 7) 5 _ _ (eq-eqb _ 7 c.if-kind-ne7.false) ∙ next_off _ c.in_err-source.ensures)

pub returns-in_err-share : goal.returns-in_err-share
unfolding ack
returns-in_err-share c =
    passed_on _ _ _ _ _ c.from_residual-in_err-share.ensures (fixed_on 4 _ c.in_ok-fixed.ensures ∙ next_on _ c.in_ok-kind.ensures
    ∙ row_back (eqb (c.in_ok-kind.kind % 16) 7) 5 _ _ (eq-eqb _ 7 c.if-kind-ne7.false) ∙ next_on _ c.in_ok-source.ensures
    ∙ next_off _ c.in_err-share.ensures)

pub returns-in_err-pad : goal.returns-in_err-pad
unfolding ack
returns-in_err-pad c =
    passed_on _ _ _ _ _ c.from_residual-in_err-pad.ensures (fixed_on 4 _ c.in_ok-fixed.ensures ∙ next_on _ c.in_ok-kind.ensures
    ∙ row_back (eqb (c.in_ok-kind.kind % 16) 7) 5 _ _ (eq-eqb _ 7 c.if-kind-ne7.false) ∙ next_on _ c.in_ok-source.ensures
    ∙ next_on _ c.in_ok-share.ensures ∙ next_off _ c.in_err-pad.ensures)

pub returns-in_err-stream : goal.returns-in_err-stream
unfolding ack
returns-in_err-stream c =
    passed_on _ _ _ _ _ c.from_residual-in_err-stream.ensures (fixed_on 4 _ c.in_ok-fixed.ensures ∙ next_on _ c.in_ok-kind.ensures
    ∙ row_back (eqb (c.in_ok-kind.kind % 16) 7) 5 _ _ (eq-eqb _ 7 c.if-kind-ne7.false) ∙ next_on _ c.in_ok-source.ensures
    ∙ next_on _ c.in_ok-share.ensures ∙ next_on _ c.in_ok-pad.ensures ∙ next_off _ c.in_err-stream.ensures)

pub returns-in_err-uncompressed : goal.returns-in_err-uncompressed
unfolding ack
returns-in_err-uncompressed c =
    passed_on _ _ _ _ _ c.from_residual-in_err-uncompressed.ensures (fixed_on 4 _ c.in_ok-fixed.ensures ∙ next_on _ c.in_ok-kind.ensures
    ∙ row_back (eqb (c.in_ok-kind.kind % 16) 7) 5 _ _ (eq-eqb _ 7 c.if-kind-ne7.false) ∙ next_on _ c.in_ok-source.ensures
    ∙ next_on _ c.in_ok-share.ensures ∙ next_on _ c.in_ok-pad.ensures ∙ next_on _ c.in_ok-stream.ensures ∙ next_off _ c.in_err-uncompressed.ensures)

pub returns-in_err-fixed-2 : goal.returns-in_err-fixed-2
unfolding ack
returns-in_err-fixed-2 c =
    passed_on _ _ _ _ _ c.from_residual-in_err-fixed-2.ensures (fixed_on 4 _ c.in_ok-fixed.ensures ∙ next_on _ c.in_ok-kind.ensures
    ∙ row_back (eqb (c.in_ok-kind.kind % 16) 7) 5 _ _ (eq-eqb _ 7 c.if-kind-ne7.false) ∙ next_on _ c.in_ok-source.ensures
    ∙ next_on _ c.in_ok-share.ensures ∙ next_on _ c.in_ok-pad.ensures ∙ next_on _ c.in_ok-stream.ensures ∙ next_on _ c.in_ok-uncompressed.ensures
    ∙ fixed_off _ c.in_err-fixed-2.ensures)

pub returns-in_err-compression : goal.returns-in_err-compression
unfolding ack
returns-in_err-compression c =
    passed_on _ _ _ _ _ c.from_residual-in_err-compression.ensures (fixed_on 4 _ c.in_ok-fixed.ensures ∙ next_on _ c.in_ok-kind.ensures
    ∙ row_back (eqb (c.in_ok-kind.kind % 16) 7) 5 _ _ (eq-eqb _ 7 c.if-kind-ne7.false) ∙ next_on _ c.in_ok-source.ensures
    ∙ next_on _ c.in_ok-share.ensures ∙ next_on _ c.in_ok-pad.ensures ∙ next_on _ c.in_ok-stream.ensures ∙ next_on _ c.in_ok-uncompressed.ensures
    ∙ fixed_on 5 _ c.in_ok-fixed-2.ensures ∙ next_off _ c.in_err-compression.ensures)

pub returns-in_err-compressed : goal.returns-in_err-compressed
unfolding ack
returns-in_err-compressed c =
    passed_on _ _ _ _ _ c.from_residual-in_err-compressed.ensures (fixed_on 4 _ c.in_ok-fixed.ensures ∙ next_on _ c.in_ok-kind.ensures
    ∙ row_back (eqb (c.in_ok-kind.kind % 16) 7) 5 _ _ (eq-eqb _ 7 c.if-kind-ne7.false) ∙ next_on _ c.in_ok-source.ensures
    ∙ next_on _ c.in_ok-share.ensures ∙ next_on _ c.in_ok-pad.ensures ∙ next_on _ c.in_ok-stream.ensures ∙ next_on _ c.in_ok-uncompressed.ensures
    ∙ fixed_on 5 _ c.in_ok-fixed-2.ensures ∙ next_on _ c.in_ok-compression.ensures ∙ next_off _ c.in_err-compressed.ensures)

pub returns-in_err-frame : goal.returns-in_err-frame
unfolding ack
returns-in_err-frame c =
    passed_on _ _ _ _ _ c.from_residual-in_err-frame.ensures (fixed_on 4 _ c.in_ok-fixed.ensures ∙ next_on _ c.in_ok-kind.ensures
    ∙ row_back (eqb (c.in_ok-kind.kind % 16) 7) 5 _ _ (eq-eqb _ 7 c.if-kind-ne7.false) ∙ next_on _ c.in_ok-source.ensures
    ∙ next_on _ c.in_ok-share.ensures ∙ next_on _ c.in_ok-pad.ensures ∙ next_on _ c.in_ok-stream.ensures ∙ next_on _ c.in_ok-uncompressed.ensures
    ∙ fixed_on 5 _ c.in_ok-fixed-2.ensures ∙ next_on _ c.in_ok-compression.ensures ∙ next_on _ c.in_ok-compressed.ensures
    ∙ next_off _ c.in_err-frame.ensures)

pub returns : goal.returns
unfolding ack
returns c =
    fixed_on 4 _ c.in_ok-fixed.ensures ∙ next_on _ c.in_ok-kind.ensures
    ∙ row_back (eqb (c.in_ok-kind.kind % 16) 7) 5 _ _ (eq-eqb _ 7 c.if-kind-ne7.false) ∙ next_on _ c.in_ok-source.ensures
    ∙ next_on _ c.in_ok-share.ensures ∙ next_on _ c.in_ok-pad.ensures ∙ next_on _ c.in_ok-stream.ensures ∙ next_on _ c.in_ok-uncompressed.ensures
    ∙ fixed_on 5 _ c.in_ok-fixed-2.ensures ∙ next_on _ c.in_ok-compression.ensures ∙ next_on _ c.in_ok-compressed.ensures
    ∙ next_on _ c.in_ok-frame.ensures ∙ gives_back _ _
