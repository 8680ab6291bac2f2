-- `settings::read::after` meets its contract: a version, or a setting that counts from now on. Assumes nothing.
use native.Mathlib.Omega.{arith}
use Rattle.settings.specs.laws.Read.{body_0, after_version, after_setting}
use Rattle.settings.proofs.read.after.Goals as goal

pub le16_at-requires : goal.le16_at-requires
le16_at-requires c = omega (arith, c.requires, body_0 c.args.kind c.if-kind-eq0.true)

pub returns-then-kind-eq0 : goal.returns-then-kind-eq0
returns-then-kind-eq0 c = after_version _ _ _ _ _ c.if-kind-eq0.true c.le16_at.ensures.0

pub settings_at-now-requires : goal.settings_at-now-requires
settings_at-now-requires c = (c.if-kind-eq0.false, c.requires)

pub returns : goal.returns
returns c =
    after_setting c.args.m.now c.args.at _ _ _ c.if-kind-eq0.false c.settings_at-now.ensures
