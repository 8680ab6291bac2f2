-- Refused, held, or passed on behind what waits: `gave_refused`, `gave_done`.
use mathlib.Core.Path.{ap, sym, ◌∙◌}
use native.Mathlib.Omega.{arith}
use lib.ListN.{length}
use Rattle.wire.specs.Le.{patch}
use Rattle.tidy.specs.laws.Headers.{header_good, gave_refused, gave_done, goes_held, goes_other, next_is}
use Rattle.tidy.proofs.headers.give_header.Goals as goal

pub returns-in-Err : goal.returns-in-Err
returns-in-Err c =
    let a = c.args in
    gave_refused _ _ a.w _ a.store.now a.out.now _ c.in-Err.refusal c.in-Err.ensures

pub hold-n-requires : goal.hold-n-requires
hold-n-requires c =
    let a = c.args in
    let g = header_good _ a.w _ _ c.in_default.ensures in
    (c.kind_of-k.ensures, sym c.is_waiting.ensures ∙ c.if-is_waiting.true, g.0, omega (arith, g.1))

pub shape_of-store-then-is_waiting : goal.shape_of-store-then-is_waiting
shape_of-store-then-is_waiting c =
    c.hold-n.auto.store

pub shape_of-out-then-is_waiting : goal.shape_of-out-then-is_waiting
shape_of-out-then-is_waiting c =
    c.hold-n.auto.out

pub returns-then-is_waiting : goal.returns-then-is_waiting
returns-then-is_waiting c =
    let a = c.args in
    let h = goes_held a.w a.store.now a.block.now c.kind_of-k.result c.kind_of-k.ensures (sym c.is_waiting.ensures ∙ c.if-is_waiting.true) in
    let n = next_is a.w a.store.now a.block.now c.kind_of-k.result c.kind_of-k.ensures _ _ c.is_sync.ensures
    c.waiting_by-next.ensures in
    gave_done _ _ a.w _ a.store.now a.out.now _ _ _ _ _ c.in_default.ensures
    (c.hold-n.ensures.2 ∙ ap length h.0) n
    (c.hold-n.ensures.0 ∙ h.1) (c.hold-n.ensures.1 ∙ ap (patch a.out.now 0) h.0)

pub put_other-n-requires : goal.put_other-n-requires
put_other-n-requires c =
    let a = c.args in
    let g = header_good _ a.w _ _ c.in_default.ensures in
    (g.0, g.1)

pub shape_of-out : goal.shape_of-out
shape_of-out c = c.put_other-n.auto.out

pub returns : goal.returns
returns c =
    let a = c.args in
    let h = goes_other a.w a.store.now a.block.now c.kind_of-k.result c.kind_of-k.ensures (sym c.is_waiting.ensures ∙ c.if-is_waiting.false) in
    let n = next_is a.w a.store.now a.block.now c.kind_of-k.result c.kind_of-k.ensures _ _ c.is_sync.ensures
    c.waiting_by-next.ensures in
    gave_done _ _ a.w _ a.store.now a.out.now _ _ _ _ _ c.in_default.ensures
    (c.put_other-n.ensures.1 ∙ ap length h.0) n
    h.1 (c.put_other-n.ensures.0 ∙ ap (patch a.out.now 0) h.0)
