-- Each return is one row of `settings_in`; the first none of the bytes are no bytes.
use Rattle.whole.specs.laws.Row.{case_yes, case_no}
use Rattle.app_settings.specs.Text.{settings_in}
use Rattle.app_settings.proofs.settings_in.Goals as goal

pub returns-then-whole : goal.returns-then-whole
unfolding settings_in
returns-then-whole c = case_yes _ _ _ _ c.if-whole.true c.read_settings.ensures

pub returns : goal.returns
unfolding settings_in
returns c = case_no _ _ _ _ c.if-whole.false c.read_settings-2.ensures
