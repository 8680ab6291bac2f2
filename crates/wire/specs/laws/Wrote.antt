-- Laws of a writer's promise, for any first fault and any bytes: the ways out, what a done one has written, and that one answer alone meets it.
use Rattle.std.specs.Prelude.{ℕ, zero, suc, ◌<◌, ◌≤◌, ◌≡◌, refl, List, length, take, drop, Result, Ok, Err}
use Rattle.std.proofs.Common.{sym, ap, ◌∙◌, arith}
use Rattle.std.proofs.Math.Seq.{take-append_seam}
use Rattle.whole.specs.Row.{◌⨟◌}
use Rattle.wire.specs.Le.{written}
use Rattle.wire.specs.Refusal.{refusal_number, refusal_of, number_of, count_of}
use Rattle.wire.specs.Wrote.{length_said, out_left, Wrote}
use Rattle.wire.specs.laws.Refusal.{refusal_back, number_pos, number_back}
use Rattle.wire.specs.declared.Refusal.{Refusal}

-- ---- the ways out

pub refused : (f : ℕ) (r : Refusal) (bytes out : List ℕ) → refusal_number r ≡ f → Wrote f bytes out out (Err r)
unfolding length_said out_left
refused zero r bytes out e = absurd (number_pos r e)
refused (suc f) r bytes out e = record { number = e; said = refl; left = refl }

pub done : (f k : ℕ) (bytes out out' : List ℕ) → 0 ≡ f → k ≡ length bytes → out' ≡ written bytes out → Wrote f bytes out out' (Ok k)
unfolding length_said out_left
done zero k bytes out out' e l w = record { number = refl; said = l; left = w }
done (suc f) k bytes out out' e l w = absurd (omega arith)

-- what was judged before has no fault
pub onward : (f g : ℕ) (bytes out out' : List ℕ) (r : Result ℕ Refusal) → 0 ≡ f → Wrote g bytes out out' r → Wrote (f ⨟ g) bytes out out' r
unfolding ◌⨟◌
onward zero g bytes out out' r e w = w
onward (suc f) g bytes out out' r e w = absurd (omega arith)

-- ---- what a writer that is done has written stands at the start of its output

pub wrote_bytes : (f : ℕ) (bytes out out' : List ℕ) (r : Result ℕ Refusal) → Wrote f bytes out out' r → number_of r ≡ 0 → take (count_of r) out' ≡ bytes
unfolding length_said out_left written
wrote_bytes zero bytes out out' r w e = rw (w.said, w.left) (take-append_seam bytes (drop (length bytes) out))
wrote_bytes (suc f) bytes out out' r w e = absurd (omega (arith, w.number, e))

-- ---- the answer itself, by the first fault

abbrev pub answer_of : ℕ → List ℕ → Result ℕ Refusal
answer_of zero bytes = Ok (length bytes)
answer_of (suc f) bytes = Err (refusal_of (suc f))

pub answer_number : (f : ℕ) (bytes : List ℕ) → f ≤ 13 → number_of (answer_of f bytes) ≡ f
answer_number zero bytes u = refl
answer_number (suc f) bytes u = number_back (suc f) (omega arith) u

pub answer_length : (f : ℕ) (bytes : List ℕ) → count_of (answer_of f bytes) ≡ length_said f bytes
unfolding length_said
answer_length zero bytes = refl
answer_length (suc f) bytes = refl

-- it meets the promise, and no other does where there is a byte to write: a done answer says a length that no refusal says
pub answer_wrote : (f : ℕ) (bytes out out' : List ℕ) → f ≤ 13 → out' ≡ out_left f bytes out → Wrote f bytes out out' (answer_of f bytes)
answer_wrote f bytes out out' u e = record { number = answer_number f bytes u; said = answer_length f bytes; left = e }

pub wrote_answer : (f : ℕ) (bytes out out' : List ℕ) (r : Result ℕ Refusal) → (f ≡ 0 → 0 < length bytes) → Wrote f bytes out out' r → r ≡ answer_of f bytes
unfolding length_said
wrote_answer zero bytes out out' (Ok k) s w = ap Ok w.said
wrote_answer zero bytes out out' (Err r) s w = absurd (number_pos r w.number)
wrote_answer (suc f) bytes out out' (Ok k) s w = absurd (omega (arith, w.number))
wrote_answer (suc f) bytes out out' (Err r) s w = ap Err (sym (refusal_back r) ∙ ap refusal_of w.number)

pub wrote_once :
    (f : ℕ) (bytes out a b : List ℕ) (r q : Result ℕ Refusal) → (f ≡ 0 → 0 < length bytes) → Wrote f bytes out a r → Wrote f bytes out b q → (r ≡ q) × (a ≡ b)
wrote_once f bytes out a b r q s x y = (wrote_answer f bytes out a r s x ∙ sym (wrote_answer f bytes out b q s y), x.left ∙ sym y.left)
