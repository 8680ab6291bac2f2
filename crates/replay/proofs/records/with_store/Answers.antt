-- Each return is one case of `store_desk`.
use Rattle.std.proofs.Common.{refl, eq-eqb, ne_eqb}
use Rattle.whole.specs.laws.Row.{case_yes, case_no}
use Rattle.replay.specs.Desk.{store_desk}
use Rattle.replay.proofs.records.with_store.Goals as goal

pub returns-then-k-eq18446744073709551615 : goal.returns-then-k-eq18446744073709551615
unfolding store_desk
returns-then-k-eq18446744073709551615 c = case_yes _ _ _ _ (eq-eqb _ _ c.if-k-eq18446744073709551615.true) c.bad.ensures

pub returns : goal.returns
unfolding store_desk
returns c = case_no _ _ _ _ (ne_eqb _ _ c.if-k-eq18446744073709551615.false) refl
