-- Laws of 01's numbers: no refusal is 0, no two have one number, and a refusal is known by its number.
use Rattle.std.specs.Prelude.{ℕ, zero, suc, ◌≡◌, ◌<◌, ◌≤◌, refl, Result, Ok, Err, IsErrAnd}
use Rattle.std.proofs.Common.{arith, ap, sym, ◌∙◌}
use Rattle.whole.specs.Row.{◌⇒◌∣◌}
use Rattle.wire.specs.Refusal.{refusal_number, refusal_of, number_of}
use Rattle.wire.specs.declared.Refusal.{Refusal}
use Rattle.wire.specs.declared.Refusal.TheVariants.{Cut, Buffer, Kind, Length, Field, TooBig, Quant, Place, Range, Overrun, Tail, Order, Room}

pub refusal_back : (r : Refusal) → refusal_of (refusal_number r) ≡ r
unfolding refusal_of ◌⇒◌∣◌
refusal_back Cut = refl
refusal_back Buffer = refl
refusal_back Kind = refl
refusal_back Length = refl
refusal_back Field = refl
refusal_back TooBig = refl
refusal_back Quant = refl
refusal_back Place = refl
refusal_back Range = refl
refusal_back Overrun = refl
refusal_back Tail = refl
refusal_back Order = refl
refusal_back Room = refl

pub number_pos : (r : Refusal) → refusal_number r ≡ 0 → ⊥
number_pos Cut e = absurd (omega (arith, e))
number_pos Buffer e = absurd (omega (arith, e))
number_pos Kind e = absurd (omega (arith, e))
number_pos Length e = absurd (omega (arith, e))
number_pos Field e = absurd (omega (arith, e))
number_pos TooBig e = absurd (omega (arith, e))
number_pos Quant e = absurd (omega (arith, e))
number_pos Place e = absurd (omega (arith, e))
number_pos Range e = absurd (omega (arith, e))
number_pos Overrun e = absurd (omega (arith, e))
number_pos Tail e = absurd (omega (arith, e))
number_pos Order e = absurd (omega (arith, e))
number_pos Room e = absurd (omega (arith, e))

-- the numbers 1 to 13 are those of refusals
pub number_back : (n : ℕ) → 0 < n → n ≤ 13 → refusal_number (refusal_of n) ≡ n
unfolding refusal_of ◌⇒◌∣◌
number_back zero l u = absurd (omega (arith, l))
number_back (suc zero) l u = refl
number_back (suc (suc zero)) l u = refl
number_back (suc (suc (suc zero))) l u = refl
number_back (suc (suc (suc (suc zero)))) l u = refl
number_back (suc (suc (suc (suc (suc zero))))) l u = refl
number_back (suc (suc (suc (suc (suc (suc zero)))))) l u = refl
number_back (suc (suc (suc (suc (suc (suc (suc zero))))))) l u = refl
number_back (suc (suc (suc (suc (suc (suc (suc (suc zero)))))))) l u = refl
number_back (suc (suc (suc (suc (suc (suc (suc (suc (suc zero))))))))) l u = refl
number_back (suc (suc (suc (suc (suc (suc (suc (suc (suc (suc zero)))))))))) l u = refl
number_back (suc (suc (suc (suc (suc (suc (suc (suc (suc (suc (suc zero))))))))))) l u = refl
number_back (suc (suc (suc (suc (suc (suc (suc (suc (suc (suc (suc (suc zero)))))))))))) l u = refl
number_back (suc (suc (suc (suc (suc (suc (suc (suc (suc (suc (suc (suc (suc zero))))))))))))) l u = refl
number_back (suc (suc (suc (suc (suc (suc (suc (suc (suc (suc (suc (suc (suc (suc n)))))))))))))) l u = absurd (omega (arith, u))

-- no two refusals have one number
pub number_one : (r q : Refusal) → refusal_number r ≡ refusal_number q → r ≡ q
number_one r q e = sym (refusal_back r) ∙ (ap refusal_of e ∙ refusal_back q)

-- an answer that is no refusal is the one that its value is of
pub ok_or_err : {A : Type 0} → (a b : Result A Refusal) → number_of a ≡ number_of b → (number_of a ≡ 0 → a ≡ b) → a ≡ b
ok_or_err (Ok x) b e h = h refl
ok_or_err (Err r) (Ok y) e h = absurd (number_pos r e)
ok_or_err (Err r) (Err q) e h = ap Err (number_one r q e)

-- ---- what a `?` hands on is the refusal that it found, with its number

pub handed_on : {A : Type 0} (answer : Result A Refusal) (refusal : Refusal) → IsErrAnd answer (λ (r : Refusal). r ≡ refusal) → answer ≡ Err refusal
handed_on (Ok a) refusal h = absurd h
handed_on (Err r) refusal h = ap Err h

pub number_on : {A : Type 0} (answer : Result A Refusal) (refusal : Refusal) → IsErrAnd answer (λ (r : Refusal). r ≡ refusal) →
    number_of answer ≡ refusal_number refusal
number_on answer refusal h = ap number_of (handed_on answer refusal h)
