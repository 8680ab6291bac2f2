-- Laws on one call: the header call's number and what it leaves, and a frame call that comes too early or is lent a picture of the other word size.
-- (01 is this project's scope document, 02 its change requests, 001 is MS-RDPRFX: README, "What 01 is".)
use Rattle.std.specs.Prelude.{ℕ, ◌≡◌, refl, Bool, true, false, List, ◌≢◌, eqb, Result, Ok}
use Rattle.wire.specs.Refusal.{number_of}
use Rattle.std.proofs.Common.{sym, ap, ◌∙◌, arith, ne_eqb}
use Rattle.whole.specs.Row.{◌!◌⨾◌}
use Rattle.whole.specs.laws.Row.{stops}
use Rattle.session.specs.declared.Session.{Session}
use Rattle.wire.specs.declared.Refusal.{Refusal}
use Rattle.session.specs.Header.{ready, header_fault, record_after, header_record, header_reading}
use Rattle.session.specs.laws.Header as HeaderLaws
use Rattle.frame.specs.Frame.{full, call_fault, frame_number}
use Rattle.frame.specs.laws.Frame.{call_unready}
use Rattle.frame.specs.laws.Glass.{number_is}
use Rattle.calls.specs.Calls.{ReadHeader, session_after, ReadFrame}

-- ---- the header call

pub header-number : (c : ReadHeader) → number_of c.answer ≡ header_fault c.session c.message
header-number c = ap number_of c.promise ∙ HeaderLaws.reading-number c.session c.message

-- a call whose answer is known leaves its record
left_by : (c : ReadHeader) (h : Result Session Refusal) → header_reading c.session c.message ≡ h → session_after c ≡ header_record h c.session
left_by c h e = ap (λ (x : Result Session Refusal). header_record x c.session) (c.promise ∙ e)

pub header_taken : (c : ReadHeader) → number_of c.answer ≡ 0 → session_after c ≡ record_after c.session c.message
header_taken c k = left_by c _ (HeaderLaws.header_taken c.session c.message (sym (header-number c) ∙ k))

-- "A refused header or frame changes neither record nor picture."
pub header_refused : (c : ReadHeader) → number_of c.answer ≢ 0 → session_after c ≡ c.session
header_refused c h = left_by c _ (HeaderLaws.header_refused c.session c.message (λ e. h (header-number c ∙ e)))

-- a header call on a message that is taken from its record: the number, and the record after it
pub taken_by :
    (c : ReadHeader) (s t : Session) (m : List ℕ) → c.session ≡ s → c.message ≡ m → header_reading s m ≡ Ok t →
    (number_of c.answer ≡ 0) × (session_after c ≡ t)
taken_by c s t m a b e =
    let k : header_reading c.session c.message ≡ Ok t = rw (a, b) e in
    (ap number_of (c.promise ∙ k), left_by c (Ok t) k)

-- ---- the frame call: "a frame before all four headers" is 12, whatever is lent

pub unready_frame : (c : ReadFrame) → ready c.session ≡ false → number_of c.answer ≡ 12
unfolding frame_number
unready_frame c u =
    let e = call_unready _ c.session _ _ _ _ _ u in
    number_is _ _ _ _ _ _ _ _ _ _ _ _ _ _ c.promise ∙ sym (stops _ _ _ (λ z. omega (arith, e, z)) e)

-- "a picture of the other word size is refused with 2": whatever else is lent, once all four headers are there

after_full : (f g : Bool) (rest : ℕ) → g ≡ false → (f ! 2 ⨾ g ! 2 ⨾ rest) ≡ 2
unfolding ◌!◌⨾◌
after_full true g rest e = rw e refl
after_full false g rest e = refl

other_word : (word : ℕ) (s : Session) (p a b c t : ℕ) → ready s ≡ true → (word ≡ s.glass → ⊥) → call_fault word s p a b c t ≡ 2
unfolding call_fault ◌!◌⨾◌
other_word word s p a b c t r n = rw r (after_full (full a b c t) (eqb word s.glass) _ (ne_eqb word s.glass n))

pub other_size : (c : ReadFrame) → ready c.session ≡ true → c.word ≢ c.session.glass → number_of c.answer ≡ 2
unfolding frame_number
other_size c r n =
    let e = other_word c.word c.session _ _ _ _ _ r n in
    number_is _ _ _ _ _ _ _ _ _ _ _ _ _ _ c.promise ∙ sym (stops _ _ _ (λ z. omega (arith, e, z)) (sym e))
