-- What the checker answers: that a list is accepted, or why it is not.
-- (01 is this project's scope document, 02 its change requests, 001 is MS-RDPRFX: README, "What 01 is".)
use Rattle.std.specs.Prelude.{ℕ, eqb, Result}
use Rattle.whole.specs.Row.{◌⇒◌∣◌}
use Rattle.wire.specs.Refusal.{refusal_number, refusal_of, number_by}
use Rattle.plan.specs.declared.check.PlanRefusal.{PlanRefusal}
use Rattle.plan.specs.declared.check.PlanRefusal.TheVariants.{Common, Unordered, Missing}

-- the number of a refusal: 01's, or one of those that request Eleven adds: "Out of order is 16, no such tile 8, a changed tile missing 17"
abbrev pub why_number : PlanRefusal → ℕ
why_number (Common refusal) = refusal_number refusal
why_number Unordered = 16
why_number Missing = 17

-- the refusal of a number
unfoldable pub why_of : ℕ → PlanRefusal
why_of n =
    eqb n 16 ⇒ Unordered ∣
    eqb n 17 ⇒ Missing ∣
    Common (refusal_of n)

-- the number of an answer, 0 where the list is accepted
abbrev pub plan_number : {A : Type 0} → Result A PlanRefusal → ℕ
plan_number answer = number_by why_number answer
