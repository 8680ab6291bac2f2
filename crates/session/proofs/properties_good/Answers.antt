-- `properties_good` meets its contract: each return is read off the row of `properties_good`.
use mathlib.Core.Path.{refl}
use Rattle.whole.specs.laws.Row.{rows, passes, fails}
use Rattle.session.specs.Header.{properties_good}
use Rattle.session.proofs.properties_good.Goals as goal

pub returns-then-p-ne1 : goal.returns-then-p-ne1
unfolding properties_good
returns-then-p-ne1 c = search rows depth 14 fits 20000

pub returns-then-p-ne1-2 : goal.returns-then-p-ne1-2
unfolding properties_good
returns-then-p-ne1-2 c = search rows depth 14 fits 20000

pub returns-then-is_mode : goal.returns-then-is_mode
unfolding properties_good
returns-then-is_mode c = passes _ _ _ _ (search rows) (passes _ _ _ _ (search rows) (passes _ _ _ _ (cc) (search rows)))

pub returns : goal.returns
unfolding properties_good
returns c = passes _ _ _ _ (search rows) (passes _ _ _ _ (search rows) (fails _ _ _ _ (cc) refl))
