-- One law for each way out: a code that is not 01's (`padded_no`), one with four bits or more free (`padded_few`), and the form itself (`padded_is`).
use native.Mathlib.Omega.{arith}
use Rattle.tidy_code.specs.laws.Read.{padded_no, padded_few, padded_is}
use Rattle.tidy_code.proofs.read_padded.Goals as goal

pub returns-then-reading_number-ne0 : goal.returns-then-reading_number-ne0
returns-then-reading_number-ne0 c =
    let a = c.args in
    let p = c.read_component-a in
    padded_no a.mode a.w.now a.list.now _ p.result c.requires p.ensures c.reading_number.result c.reading_number.ensures _ _
    c.if-reading_number-ne0.true c.refuse.ensures

pub returns-then-reading_bits-ge5 : goal.returns-then-reading_bits-ge5
returns-then-reading_bits-ge5 c =
    let a = c.args in
    let p = c.read_component-a in
    padded_is a.mode a.w.now a.list.now _ p.result c.requires p.ensures c.reading_number.result c.reading_number.ensures
    c.if-reading_number-ne0.false c.reading_bits.result c.reading_bits.ensures (omega arith)

pub returns : goal.returns
returns c =
    let a = c.args in
    let p = c.read_component-a in
    padded_few a.mode a.w.now a.list.now _ p.result c.requires p.ensures c.reading_number.result c.reading_number.ensures
    c.if-reading_number-ne0.false c.reading_bits.result c.reading_bits.ensures _ _ (omega arith) c.refuse-2.ensures
