-- The planner's ways out: refused by the pictures, refused for want of room, done; and an answer is known by its number and its count.
use Rattle.std.specs.Prelude.{ℕ, ◌≡◌, refl, true, false, List, leb, length, Result, Ok, Err}
use Rattle.std.proofs.Common.{ap, sym, ◌∙◌}
use Rattle.whole.specs.Row.{◌!◌⨾◌}
use Rattle.whole.specs.laws.Row.{passes, fails, stops, goes_on}
use Rattle.wire.specs.Le.{written}
use Rattle.wire.specs.Refusal.{refusal_number, number_of, count_of}
use Rattle.wire.specs.laws.Refusal.{number_pos, number_one}
use Rattle.wire.specs.laws.Wrote.{refused, done}
use Rattle.wire.specs.declared.Refusal.{Refusal}
use Rattle.wire.specs.declared.Refusal.TheVariants.{Room}
use Rattle.plan.specs.Plan.{pictures_fault, changed, make_fault}
use Rattle.plan.specs.Made.{PlanMade}

module _ (w h : ℕ) (old new out : List ℕ) where
  pub pictures_refused : (r : Refusal) → refusal_number r ≡ pictures_fault w h (length old) (length new) → PlanMade w h old new out out (Err r)
  unfolding make_fault
  pictures_refused r e =
      refused _ r (changed old new w h) out
      (stops _ (leb (length (changed old new w h)) (length out) ! 13 ⨾ 0) (refusal_number r) (λ q. number_pos r (e ∙ q)) e)

  pub room_refused :
      pictures_fault w h (length old) (length new) ≡ 0 → leb (length (changed old new w h)) (length out) ≡ false → PlanMade w h old new out out (Err Room)
  unfolding make_fault
  room_refused e t = refused _ Room (changed old new w h) out (goes_on _ _ 13 e (fails _ 13 0 13 t refl))

  pub plan_done :
      (n : ℕ) (out' : List ℕ)
      → pictures_fault w h (length old) (length new) ≡ 0
      → leb (length (changed old new w h)) (length out) ≡ true
      → n ≡ length (changed old new w h)
      → out' ≡ written (changed old new w h) out
      → PlanMade w h old new out out' (Ok n)
  unfolding make_fault
  plan_done n out' e t l q = done _ n (changed old new w h) out out' (goes_on _ _ 0 e (passes _ 13 0 0 t refl)) l q

-- an answer is known by its number and its count
pub same_answer : (a b : Result ℕ Refusal) → number_of a ≡ number_of b → count_of a ≡ count_of b → a ≡ b
same_answer (Ok m) (Ok n) e f = ap Ok f
same_answer (Ok m) (Err r) e f = absurd (number_pos r (sym e))
same_answer (Err r) (Ok n) e f = absurd (number_pos r e)
same_answer (Err r) (Err q) e f = ap Err (number_one r q e)
