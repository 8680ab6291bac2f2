-- One law for each way out: the mode's refusal, the size's, 01's own bytes, and what else they are; the list is cleared first.
use mathlib.Core.Path.{sym, ◌∙◌}
use native.Mathlib.Omega.{arith}
use Rattle.tidy_code.specs.laws.Longer.{none_meant}
use Rattle.tidy_code.specs.laws.Read.{meant_mode, meant_size, meant_good, meant_others}
use Rattle.tidy_code.proofs.read_meant.Goals as goal

pub returns-then-not-is_mode : goal.returns-then-not-is_mode
returns-then-not-is_mode c =
    let m = c.is_mode in
    let a = c.args in
    meant_mode a.sender a.mode a.s.now _ _ (sym m.ensures ∙ c.if-not-is_mode.true) (none_meant _ _ c.requires c.clear.ensures)

pub returns-then-s-gt65535 : goal.returns-then-s-gt65535
returns-then-s-gt65535 c =
    let m = c.is_mode in
    let a = c.args in
    meant_size a.sender a.mode a.s.now _ _ (sym m.ensures ∙ c.if-not-is_mode.false) c.if-s-gt65535.true
    (none_meant _ _ c.requires c.clear.ensures)

pub returns-then-reading_number-eq0 : goal.returns-then-reading_number-eq0
returns-then-reading_number-eq0 c =
    let n = c.reading_number in
    let m = c.is_mode in
    let a = c.args in
    let p = c.read_component in
    meant_good a.mode a.s.now c.clear.new.list _ p.result (c.clear.auto.list ∙ c.requires) p.ensures n.result n.ensures a.sender
    (sym m.ensures ∙ c.if-not-is_mode.false) (omega (arith, c.if-s-gt65535.false)) c.if-reading_number-eq0.true

pub returns : goal.returns
returns c =
    let n = c.reading_number in
    let m = c.is_mode in
    let a = c.args in
    let p = c.read_component in
    meant_others a.mode a.s.now c.clear.new.list _ p.result (c.clear.auto.list ∙ c.requires) p.ensures n.result n.ensures a.sender
    (sym m.ensures ∙ c.if-not-is_mode.false) (omega (arith, c.if-s-gt65535.false)) _ _ c.if-reading_number-eq0.false c.read_others.ensures
