-- One call: a refused one leaves everything; and striking refused calls out of a day.
-- (01 is this project's scope document, 02 its change requests, 001 is MS-RDPRFX: README, "What 01 is".)
use Rattle.std.specs.Prelude.{ℕ, ◌≡◌, refl, Bool, true, false, List, [], ◌∷◌, ◌++◌, ◌≢◌, eqb}
use Rattle.wire.specs.Refusal.{number_of}
use Rattle.std.proofs.Common.{ap, ap₂, subst, ◌∙◌, eqb-true}
use Rattle.std.proofs.lemmas.Bool.{eqb-false}
use Rattle.whole.specs.Row.{◌⇒◌∣◌}
use Rattle.wire.specs.Le.{le16}
use Rattle.session.specs.declared.Session.{Session}
use Rattle.session.specs.Header.{record_of, kept_glass, record_after}
use Rattle.frame.specs.laws.Glass.{refused}
use Rattle.calls.specs.Calls.{ReadHeader, ReadFrame}
use Rattle.calls.specs.laws.Calls.{header_taken, header_refused}
use Rattle.day.specs.Day.{State, state, Call, header, frame, HeaderStep, FrameStep, Step, Day, no_call, call}
use Rattle.day.specs.Day.{number, struck, Strikes, done, keep, strike, NoneRefused}

-- ---- states

pub state_is : {s t : State} → s.session ≡ t.session → s.word ≡ t.word → s.picture ≡ t.picture → s ≡ t
state_is {s} {t} a w b = ap₂ (λ (x : Session) (p : List ℕ). state x s.word p) a b ∙ ap (λ (n : ℕ). state t.session n t.picture) w

-- ---- the header call

-- a taken sync
sync_record : (s : Session) (m : List ℕ) → le16 m 0 ≡ 0xCCC0 → record_after s m ≡ record_of (kept_glass s.glass) 1 0 0 0
unfolding record_after ◌⇒◌∣◌
sync_record s m e = rw e

pub sync_taken :
    {s t : State} (c : ReadHeader)
    → HeaderStep s c t
    → le16 c.message 0 ≡ 0xCCC0
    → number (header c) ≡ 0
    → (t.session ≡ record_of (kept_glass s.session.glass) 1 0 0 0) × (t.picture ≡ s.picture)
unfolding number
sync_taken c k e z = (k.left ∙ header_taken c z ∙ sync_record c.session c.message e ∙ rw k.given refl, k.picture_kept)

-- ---- "A refused header or frame changes neither record nor picture."

pub frame_refused : {s t : State} {c : ReadFrame} → FrameStep s c t → number_of c.answer ≢ 0 → t.picture ≡ s.picture
frame_refused {c = c} k r = k.left ∙ (refused _ _ _ _ _ _ _ _ _ _ _ _ _ _ c.promise r).0 ∙ k.lent

refused_same : (s t : State) (c : Call) → Step s c t → number c ≢ 0 → t ≡ s
unfolding number
refused_same s t (header c) k r = state_is (k.left ∙ header_refused c r ∙ k.given) k.word_kept k.picture_kept
refused_same s t (frame c) k r = state_is k.session_kept k.word_kept (frame_refused k r)

-- ---- one day after another

pub followed : {s t u : State} {cs ds : List Call} → Day s cs t → Day t ds u → Day s (cs ++ ds) u
followed no_call e = e
followed (call k d) e = call k (followed d e)

-- ---- striking them out

pub some_struck : {s t : State} {cs ds : List Call} → Day s cs t → Strikes cs ds → Day s ds t
some_struck no_call done = no_call
some_struck (call k d) (keep x) = call k (some_struck d x)
some_struck {s} {t} {cs} {ds} (call {c = c} k d) (strike r x) = subst (λ (y : State). Day y ds t) (refused_same _ _ c k r) (some_struck d x)

struck_one : (c : Call) (cs ds : List Call) (b : Bool) → eqb (number c) 0 ≡ b → Strikes cs ds → Strikes (c ∷ cs) (eqb (number c) 0 ⇒ c ∷ ds ∣ ds)
unfolding ◌⇒◌∣◌
struck_one c cs ds true e x = rw e (keep x)
struck_one c cs ds false e x = rw e (strike (eqb-false (number c) 0 e) x)

pub struck_strikes : (cs : List Call) → Strikes cs (struck cs)
unfolding struck
struck_strikes [] = done
struck_strikes (c ∷ cs) = struck_one c cs (struck cs) _ refl (struck_strikes cs)

none_one : (c : Call) (ds : List Call) (b : Bool) → eqb (number c) 0 ≡ b → NoneRefused ds → NoneRefused (eqb (number c) 0 ⇒ c ∷ ds ∣ ds)
unfolding ◌⇒◌∣◌
none_one c ds true e x = rw e (eqb-true (number c) 0 e, x)
none_one c ds false e x = rw e x

pub none_left : (cs : List Call) → NoneRefused (struck cs)
unfolding struck
none_left [] = tt
none_left (c ∷ cs) = none_one c (struck cs) _ refl (none_left cs)
