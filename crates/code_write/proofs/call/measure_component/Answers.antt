-- One law for each way out: `measure_9`, `measure_6`, `measure_0`.
use mathlib.Core.Path.{sym, ◌∙◌}
use Rattle.code_write.specs.laws.Write.{measure_9, measure_6, measure_0}
use Rattle.code_write.proofs.call.measure_component.Goals as goal

pub returns-then-not-in_range : goal.returns-then-not-in_range
returns-then-not-in_range c =
    measure_9 c.args.mode c.args.list.now
    (sym c.in_range.ensures ∙ c.if-not-in_range.true)

pub byte_size-size-requires : goal.byte_size-size-requires
byte_size-size-requires c = (c.requires, sym c.in_range.ensures ∙ c.if-not-in_range.false)

pub returns-then-size-gt65535 : goal.returns-then-size-gt65535
returns-then-size-gt65535 c =
    measure_6 c.args.mode c.args.list.now c.byte_size-size.result
    (sym c.in_range.ensures ∙ c.if-not-in_range.false) c.byte_size-size.ensures c.if-size-gt65535.true

pub returns : goal.returns
returns c =
    measure_0 c.args.mode c.args.list.now c.byte_size-size.result
    (sym c.in_range.ensures ∙ c.if-not-in_range.false) c.byte_size-size.ensures c.if-size-gt65535.false
