-- Laws of what the checker answers: no refusal is 0, and a refusal is known by its number.
use Rattle.std.specs.Prelude.{ℕ, ◌<◌, ◌≤◌, ◌≡◌, refl, eqb}
use Rattle.std.proofs.Common.{arith, sym, eq-eqb, ne_eqb}
use Rattle.std.proofs.Math.Decide.{ℕ_discrete}
use Rattle.whole.specs.Row.{◌⇒◌∣◌}
use Rattle.wire.specs.Refusal.{refusal_of}
use Rattle.wire.specs.laws.Refusal.{number_pos, number_back}
use Rattle.wire.specs.declared.Refusal.TheVariants.{Cut, Buffer, Kind, Length, Field, TooBig, Quant, Place, Range, Overrun, Tail, Order, Room}
use Rattle.plan.specs.Answer.{why_number, why_of}
use Rattle.plan.specs.declared.check.PlanRefusal.{PlanRefusal}
use Rattle.plan.specs.declared.check.PlanRefusal.TheVariants.{Common, Unordered, Missing}

pub why_back : (why : PlanRefusal) → why_of (why_number why) ≡ why
unfolding why_of refusal_of ◌⇒◌∣◌
why_back (Common Cut) = refl
why_back (Common Buffer) = refl
why_back (Common Kind) = refl
why_back (Common Length) = refl
why_back (Common Field) = refl
why_back (Common TooBig) = refl
why_back (Common Quant) = refl
why_back (Common Place) = refl
why_back (Common Range) = refl
why_back (Common Overrun) = refl
why_back (Common Tail) = refl
why_back (Common Order) = refl
why_back (Common Room) = refl
why_back Unordered = refl
why_back Missing = refl

pub why_pos : (why : PlanRefusal) → why_number why ≡ 0 → ⊥
why_pos (Common refusal) e = number_pos refusal e
why_pos Unordered e = absurd (omega (arith, e))
why_pos Missing e = absurd (omega (arith, e))

-- the numbers up to 17 are those of refusals, but for the two of a store
pub number_of_why : (n : ℕ) → 0 < n → n ≤ 17 → (n ≡ 14 → ⊥) → (n ≡ 15 → ⊥) → why_number (why_of n) ≡ n
unfolding why_of ◌⇒◌∣◌
number_of_why n l u p q = by (ℕ_discrete n 16) (ℕ_discrete n 17)
  where
    by : Dec (n ≡ 16) → Dec (n ≡ 17) → why_number (eqb n 16 ⇒ Unordered ∣ eqb n 17 ⇒ Missing ∣ Common (refusal_of n)) ≡ n
    by (yes a) b = rw (eq-eqb n 16 a) (sym a)
    by (no a) (yes b) = rw (ne_eqb n 16 a, eq-eqb n 17 b) (sym b)
    by (no a) (no b) = rw (ne_eqb n 16 a, ne_eqb n 17 b) (number_back n l (omega arith))
