-- The picture at the end of a day is the first picture with the accepted frames drawn over it.
use Rattle.std.specs.Prelude.{ℕ, ◌≡◌, refl, Bool, List, [], ◌∷◌, eqb}
use Rattle.wire.specs.Refusal.{number_of}
use Rattle.std.proofs.Common.{ap, ◌∙◌, eqb-true}
use Rattle.std.proofs.Math.Bool.{true, false}
use Rattle.std.proofs.lemmas.Bool.{eqb-false}
use Rattle.whole.specs.Row.{◌⇒◌∣◌}
use Rattle.frame.specs.laws.Glass as Glass
use Rattle.calls.specs.Calls.{ReadFrame}
use Rattle.day.specs.Day.{State, Call, header, frame, FrameStep, Day, no_call, call, accepted, drawn_by, drawn_over}
use Rattle.day.specs.laws.Step.{frame_refused}

frame-drawn : {s t : State} {c : ReadFrame} → FrameStep s c t → number_of c.answer ≡ 0 → t.picture ≡ drawn_by c s.picture
frame-drawn {c = c} k e = k.left ∙ (Glass.accepted _ _ _ _ _ _ _ _ _ _ _ _ _ _ c.promise e).drawn ∙ ap (λ (p : List ℕ). drawn_by c p) k.lent

module _ (s t : State) (c : ReadFrame) (cs : List ReadFrame) (k : FrameStep s c t) where
  drawn_one :
      (b : Bool)
      → eqb (number_of c.answer) 0 ≡ b
      → drawn_over cs t.picture ≡ drawn_over (eqb (number_of c.answer) 0 ⇒ c ∷ cs ∣ cs) s.picture
  unfolding drawn_over ◌⇒◌∣◌
  drawn_one true e = rw e (ap (drawn_over cs) (frame-drawn k (eqb-true _ 0 e)))
  drawn_one false e = rw e (ap (drawn_over cs) (frame_refused k (eqb-false _ 0 e)))

pub drawn : (s t : State) (cs : List Call) → Day s cs t → t.picture ≡ drawn_over (accepted cs) s.picture
unfolding accepted drawn_over
drawn s t [] no_call = refl
drawn s t (header c ∷ cs) (call k d) = drawn _ t cs d ∙ ap (drawn_over (accepted cs)) k.picture_kept
drawn s t (frame c ∷ cs) (call k d) = drawn _ t cs d ∙ drawn_one s _ c (accepted cs) k _ refl
