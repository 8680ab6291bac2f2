-- `settings::read::settings_at` meets its contract: the sets and the mode of either kind, at their places. Assumes nothing.
use native.Mathlib.Omega.{arith}
use Rattle.settings.specs.laws.Read.{body_1, body_2, body_least, one_at, two_at}
use Rattle.settings.proofs.read.settings_at.Goals as goal

pub quant_at-luma-requires : goal.quant_at-luma-requires
quant_at-luma-requires c = omega (arith, c.requires.1, body_least c.args.kind c.requires.0)

pub bounds-m-at : goal.bounds-m-at
bounds-m-at c = omega (arith, c.requires.1, body_1 c.args.kind c.if-kind-eq1.true)

pub returns-then-kind-eq1 : goal.returns-then-kind-eq1
returns-then-kind-eq1 c =
    one_at c.args.m.now c.quant_at-luma.result.v c.args.at _ c.if-kind-eq1.true c.quant_at-luma.ensures

pub quant_at-chroma-requires : goal.quant_at-chroma-requires
quant_at-chroma-requires c = omega (arith, c.requires.1, body_2 c.args.kind c.requires.0 c.if-kind-eq1.false)

pub bounds-m-at-2 : goal.bounds-m-at-2
bounds-m-at-2 c =
    omega (arith, c.requires.1, body_2 c.args.kind c.requires.0 c.if-kind-eq1.false)

pub returns : goal.returns
returns c =
    two_at c.args.m.now c.quant_at-luma.result.v c.quant_at-chroma.result.v c.args.at _
    c.if-kind-eq1.false c.quant_at-luma.ensures c.quant_at-chroma.ensures
