-- Laws of what the short frame's writer answers: what the frame writer answers is handed on, and one answer alone meets the promise.
use Rattle.std.specs.Prelude.{ℕ, zero, suc, ◌≤◌, ◌≡◌, refl, List, length, take, drop, Result, Ok, Err}
use Rattle.std.proofs.Common.{arith, ap, sym, ◌∙◌}
use Rattle.std.proofs.Math.Seq.{take-append_seam}
use Rattle.whole.specs.Row.{◌⨟◌}
use Rattle.wire.specs.Le.{written}
use Rattle.wire.specs.Wrote.{length_said, out_left, Wrote}
use Rattle.wire.specs.declared.Refusal.{Refusal}
use Rattle.plan.specs.Answer.{why_number, why_of, plan_number}
use Rattle.plan.specs.laws.Answer.{why_back, why_pos, number_of_why}
use Rattle.short_write.specs.Answer.{short_count, handed, WroteShort, short_answer}
use Rattle.plan.specs.declared.check.PlanRefusal.{PlanRefusal}
use Rattle.plan.specs.declared.check.PlanRefusal.TheVariants.{Common, Unordered, Missing}

-- ---- the ways to an answer: refused, and handed on where the frame writer is asked

pub refused_short : (f : ℕ) (why : PlanRefusal) (bytes out : List ℕ) → why_number why ≡ f → WroteShort f bytes out out (Err why)
unfolding length_said out_left
refused_short zero why bytes out e = absurd (why_pos why e)
refused_short (suc f) why bytes out e = record { number = e; said = refl; left = refl }

pub onward_short : (f g : ℕ) (bytes out out' : List ℕ) (r : Result ℕ PlanRefusal) → 0 ≡ f → WroteShort g bytes out out' r →
    WroteShort (f ⨟ g) bytes out out' r
unfolding ◌⨟◌
onward_short zero g bytes out out' r e w = w
onward_short (suc f) g bytes out out' r e w = absurd (omega arith)

pub wrote_handed : (f : ℕ) (bytes out out' : List ℕ) (r : Result ℕ Refusal) → Wrote f bytes out out' r → WroteShort f bytes out out' (handed r)
wrote_handed f bytes out out' (Ok n) w = record { number = w.number; said = w.said; left = w.left }
wrote_handed f bytes out out' (Err refusal) w = record { number = w.number; said = w.said; left = w.left }

-- where the first fault is none of request Eleven's, what is answered was handed on
pub wrote_common : (f : ℕ) (bytes out out' : List ℕ) (r : Result ℕ PlanRefusal) → f ≤ 13 → WroteShort f bytes out out' r →
    (q : Result ℕ Refusal) × (r ≡ handed q) × Wrote f bytes out out' q
wrote_common f bytes out out' (Ok n) u w = (Ok n, refl, record { number = w.number; said = w.said; left = w.left })
wrote_common f bytes out out' (Err (Common refusal)) u w = (Err refusal, refl, record { number = w.number; said = w.said; left = w.left })
wrote_common f bytes out out' (Err Unordered) u w = absurd (omega (arith, w.number))
wrote_common f bytes out out' (Err Missing) u w = absurd (omega (arith, w.number))

-- what a writer that is done has written stands at the start of its output
pub wrote_short_bytes : (f : ℕ) (bytes out out' : List ℕ) (r : Result ℕ PlanRefusal) → WroteShort f bytes out out' r → plan_number r ≡ 0 →
    take (short_count r) out' ≡ bytes
unfolding length_said out_left written
wrote_short_bytes zero bytes out out' r w e = rw (w.said, w.left) (take-append_seam bytes (drop (length bytes) out))
wrote_short_bytes (suc f) bytes out out' r w e = absurd (omega (arith, w.number, e))

-- ---- the answer itself, by the first fault

pub answer_short : (f : ℕ) (bytes out out' : List ℕ) → f ≤ 17 → (f ≡ 14 → ⊥) → (f ≡ 15 → ⊥) → out' ≡ out_left f bytes out →
    WroteShort f bytes out out' (short_answer f bytes)
unfolding length_said
answer_short zero bytes out out' u p q e = record { number = refl; said = refl; left = e }
answer_short (suc f) bytes out out' u p q e = record { number = number_of_why (suc f) (omega arith) u p q; said = refl; left = e }

pub short_is : (f : ℕ) (bytes out out' : List ℕ) (r : Result ℕ PlanRefusal) → WroteShort f bytes out out' r → r ≡ short_answer f bytes
unfolding length_said
short_is zero bytes out out' (Ok k) w = ap Ok w.said
short_is zero bytes out out' (Err why) w = absurd (why_pos why w.number)
short_is (suc f) bytes out out' (Ok k) w = absurd (omega (arith, w.number))
short_is (suc f) bytes out out' (Err why) w = ap Err (sym (why_back why) ∙ ap why_of w.number)

pub wrote_short_once : (f : ℕ) (bytes out a b : List ℕ) (r q : Result ℕ PlanRefusal) → WroteShort f bytes out a r → WroteShort f bytes out b q →
    (r ≡ q) × (a ≡ b)
wrote_short_once f bytes out a b r q x y = (short_is f bytes out a r x ∙ sym (short_is f bytes out b q y), x.left ∙ sym y.left)
