-- What the planner answers and leaves, for every input: the number of its first fault, or how many numbers it listed; refused, the list that it was lent is
-- untouched, and so are the numbers past the count.
use Rattle.std.specs.Prelude.{ℕ, ◌≡◌, List, length, Result}
use Rattle.wire.specs.Wrote.{length_said, out_left, Wrote}
use Rattle.wire.specs.declared.Refusal.{Refusal}
use Rattle.plan.specs.Plan.{changed, make_fault}

-- the answer, and the list at exit: the numbers in front and the rest untouched, or refused all of it untouched
abbrev pub PlanMade : ℕ → ℕ → List ℕ → List ℕ → List ℕ → List ℕ → Result ℕ Refusal → Type 0
PlanMade w h old new out out' r = Wrote (make_fault w h old new (length out)) (changed old new w h) out out' r

-- the same for C: the number is returned, the count is stored
pub record MakePlanCall (w h : ℕ) (old new out out' : List ℕ) (count number : ℕ) : Type 0 where
  pub said : number ≡ make_fault w h old new (length out)
  pub count_is : count ≡ length_said (make_fault w h old new (length out)) (changed old new w h)
  pub left : out' ≡ out_left (make_fault w h old new (length out)) (changed old new w h) out
