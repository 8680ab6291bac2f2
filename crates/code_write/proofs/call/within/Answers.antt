-- The loop keeps that what it found and what is left of the list are the whole list.
use mathlib.Core.Path.{sym, ◌∙◌}
use native.Mathlib.Omega.{arith}
use lib.IntN.{pos}
use lib.ListN.{get_or}
use mir.Syntax.{w32}
use mir.Val.{of_z, to_z}
use Rattle.code_write.specs.laws.Span.{from_read, from_given, span_next, span_past}
use Rattle.code_write.proofs.call.within.Goals as goal

pub loop-x-preserved : goal.loop-x-preserved
loop-x-preserved c =
    let a = c.args in
    let l = c.loop-x in
    let zs = c.args.list.now in
    let least = to_z w32 (of_z w32 a.least) in
    let most = to_z w32 (of_z w32 a.most) in
    let e = from_read (get_or zs l.x-index (pos 0)) least most _ (omega arith) c.between-good.ensures in
    sym (span_next least most zs l.x-index l.good _ c.loop-x-test.true e) ∙ l.invariant

pub returns : goal.returns
returns c =
    let a = c.args in
    let l = c.loop-x in
    span_past (to_z w32 (of_z w32 a.least)) (to_z w32 (of_z w32 a.most)) a.list.now l.x-index l.good c.loop-x-test.false
    ∙ l.invariant ∙ from_given a.least a.most _ c.ranges.least c.ranges.most
