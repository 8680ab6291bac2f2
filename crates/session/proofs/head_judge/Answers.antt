-- Each return is one row of `head_judge`; the size that is due is that of the type.
use mathlib.Core.Path.{refl}
use Rattle.whole.specs.laws.Row.{rows, passes, fails, ne_is, eq_is}
use Rattle.session.specs.Header.{head_judge}
use Rattle.session.proofs.head_judge.Goals as goal

pub returns-then-t-lt52416 : goal.returns-then-t-lt52416
unfolding head_judge
returns-then-t-lt52416 c = search rows depth 14 fits 20000

pub returns-then-t-gt52419 : goal.returns-then-t-gt52419
unfolding head_judge
returns-then-t-gt52419 c = search rows depth 14 fits 20000

pub returns-then-size-size_of : goal.returns-then-size-size_of
unfolding head_judge
returns-then-size-size_of c =
    passes _ _ _ _ (search rows)
    (passes _ _ _ _ (search rows) (passes _ _ _ _ (search rows) (fails _ _ _ _ (ne_is refl c.size_of.ensures.0 c.if-size-size_of.true) refl)))

pub returns-then-len-size : goal.returns-then-len-size
unfolding head_judge
returns-then-len-size c =
    passes _ _ _ _ (search rows)
    (passes _ _ _ _ (search rows)
    (passes _ _ _ _ (search rows) (passes _ _ _ _ (eq_is refl c.size_of.ensures.0 c.if-size-size_of.false) (search rows))))

pub returns-then-is_due : goal.returns-then-is_due
unfolding head_judge
returns-then-is_due c =
    passes _ _ _ _ (search rows)
    (passes _ _ _ _ (search rows)
    (passes _ _ _ _ (search rows) (passes _ _ _ _ (eq_is refl c.size_of.ensures.0 c.if-size-size_of.false) (search rows))))

pub returns : goal.returns
unfolding head_judge
returns c = search rows depth 14 fits 20000
