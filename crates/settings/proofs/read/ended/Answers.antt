-- Nothing read is 1; else what was said last counts, if anything was.
use Rattle.std.proofs.Common.{◌≡◌, refl, ◌∙◌, eq-eqb, ne_eqb, Option, Some, None}
use Rattle.std.specs.Option.{ok_or}
use Rattle.whole.specs.Row.{◌⇒◌∣◌}
use Rattle.whole.specs.laws.Row.{case_yes, case_no}
use Rattle.wire.specs.Refusal.{refusal_of}
use Rattle.settings.specs.declared.Settings.{Settings}
use Rattle.settings.specs.declared.StoreRefusal.TheVariants.{Alone}
use Rattle.settings.specs.Settings.{why_of, last_or, ended}
use Rattle.settings.proofs.read.ended.Goals as goal

said : (o : Option Settings) → ok_or o Alone ≡ last_or o
unfolding last_or why_of ◌⇒◌∣◌
said (Some t) = refl
said None = refl

pub returns-then-s-eq0 : goal.returns-then-s-eq0
unfolding ended why_of refusal_of ◌⇒◌∣◌
returns-then-s-eq0 c = case_yes _ _ _ _ (eq-eqb _ _ c.if-s-eq0.true) refl

pub returns : goal.returns
unfolding ended
returns c = case_no _ _ _ _ (ne_eqb _ _ c.if-s-eq0.false) (c.ok_or.ensures.value ∙ said c.args.s.last)
