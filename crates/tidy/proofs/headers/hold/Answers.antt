-- The block has its place (`waits_fits`); with the third all three go on (`held_three`), else nothing (`held_none`).
use mathlib.Core.Path.{◌∙◌}
use native.Mathlib.Omega.{arith}
use Rattle.tidy.specs.laws.Headers.{waits_fits, hold_none, hold_three}
use Rattle.tidy.proofs.headers.hold.Goals as goal

pub copy-requires : goal.copy-requires
copy-requires c =
    let a = c.args in
    (omega (arith, waits_fits a.w a.block.now a.k c.requires.0 c.requires.1, c.requires.2, c.place_of.ensures), omega arith)

pub returns-then-w-eq0 : goal.returns-then-w-eq0
returns-then-w-eq0 c =
    let a = c.args in
    hold_none a.w a.block.now a.store.now a.out.now _ a.k c.place_of.result c.place_of.ensures c.copy.ensures
    c.if-w-eq0.true

pub copy-requires-2 : goal.copy-requires-2
copy-requires-2 c =
    (omega (arith, c.requires.3), omega (arith, c.requires.2, c.copy.auto.store))

pub shape_of-store : goal.shape_of-store
shape_of-store c =
    c.copy.auto.store

pub shape_of-out : goal.shape_of-out
shape_of-out c = c.copy-2.auto.store

pub returns : goal.returns
returns c =
    let a = c.args in
    hold_three a.w a.block.now a.store.now a.out.now _ a.k c.place_of.result c.place_of.ensures c.copy.ensures _
    c.if-w-eq0.false
    (c.copy.auto.store ∙ c.requires.2) c.copy-2.ensures
