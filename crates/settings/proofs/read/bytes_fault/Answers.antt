-- `settings::read::bytes_fault` meets its contract: the version's bytes, or a setting's. Assumes nothing.
use native.Mathlib.Omega.{arith}
use Rattle.std.proofs.lemmas.Result.{err_from_is_err_and}
use Rattle.settings.specs.laws.Read.{body_0, bytes_version, bytes_other, bytes_setting}
use Rattle.settings.proofs.read.bytes_fault.Goals as goal

pub le16_at-requires : goal.le16_at-requires
le16_at-requires c = omega (arith, c.requires, body_0 c.args.kind c.if-kind-eq0.true)

pub returns-then-is_taken : goal.returns-then-is_taken
returns-then-is_taken c =
    bytes_version _ _ _ _ _ _ c.if-kind-eq0.true c.le16_at.ensures.0 c.is_taken.ensures c.if-is_taken.true

pub returns-then-kind-eq0 : goal.returns-then-kind-eq0
returns-then-kind-eq0 c =
    bytes_other _ _ _ _ _ _ c.if-kind-eq0.true c.le16_at.ensures.0 c.is_taken.ensures c.if-is_taken.false

pub settings_at-requires : goal.settings_at-requires
settings_at-requires c = (c.if-kind-eq0.false, c.requires)

pub returns-in_err-settings_fault : goal.returns-in_err-settings_fault
returns-in_err-settings_fault c =
    let p = err_from_is_err_and c.from_residual.result c.from_residual.ensures.1 in
    rw (p.1, p.2) (bytes_setting c.args.m.now c.args.at _ _ _ _ c.if-kind-eq0.false c.settings_at.ensures c.in_err-settings_fault.ensures)

pub returns : goal.returns
returns c = bytes_setting c.args.m.now c.args.at _ _ _ _ c.if-kind-eq0.false c.settings_at.ensures c.in_ok-settings_fault.ensures
