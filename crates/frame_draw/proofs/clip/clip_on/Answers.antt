-- `clip::clip_on` meets its contract: a row of two checks.
use Prim.Native.Nat.{ℕ, ◌≤◌, ◌<◌}
use mathlib.Core.Path.{refl, ap, subst}
use lib.Dec.{ltb}
use borrow.Author.Tests.{le-leb, lt-leb}
use Rattle.whole.specs.laws.Row.{passes, fails}
use Rattle.frame_draw.specs.Clips.{on_row}
use Rattle.frame_draw.proofs.clip.clip_on.Goals as goal

pub returns-then-py-number_at : goal.returns-then-py-number_at
unfolding on_row
returns-then-py-number_at c = fails _ _ _ _ (lt-leb _ _ (subst (λ (z : ℕ). c.args.py < z) c.number_at.ensures c.if-py-number_at.true)) refl

pub returns : goal.returns
unfolding on_row
returns c =
    let top = subst (λ (z : ℕ). z ≤ c.args.py) c.number_at.ensures c.if-py-number_at.false in
    passes _ _ _ _ (le-leb _ _ top) (ap (ltb c.args.py) c.number_at-2.ensures)
