-- What is shown is a day: one hand-over after the other, each adds what was asked.
-- Assumes nothing.
use Rattle.std.specs.Prelude.{◌≡◌, ℕ, Bool, true, false, List, [], ◌∷◌, ◌++◌, ◌==◌}
use Rattle.std.proofs.Math.Path.{refl, ap}
use Rattle.std.proofs.Common.{sym, ◌∙◌}
use Rattle.whole.specs.Row.{◌⇒◌∣◌}
use Rattle.session.specs.declared.Session.{Session}
use Rattle.collect.specs.declared.Collected.{Collected}
use Rattle.collect.specs.declared.Collected.TheVariants.{More, Header, Frame, Refused}
use Rattle.app_text.specs.First.{first_of}
use Rattle.app_calls.specs.declared.given.Desk.{Desk}
use Rattle.app_calls.specs.Given.{moved, header_desk, frame_desk, desk_part, Scene, scene}
use Rattle.day.specs.Day.{State, state, Asked, ask_header, ask_frame}
use Rattle.day.specs.laws.Once.{end_of, end_append, plays}
use Rattle.show.specs.Play.{placed, anew_desk, drawn, handed, Shown, none, read, more, anew, ShownTo}
use Rattle.show.specs.Day.{state_of, DayShown}

module _ (word : ℕ) where
  -- what was asked between two scenes
  record Between (s t : Scene) : Type 0 where
    asked : List Asked
    ends : state_of word t ≡ end_of (state_of word s) asked

  nothing : (s t : Scene) → state_of word t ≡ state_of word s → Between s t
  nothing s t e = record { asked = []; ends = e }

  then : {s t u : Scene} → Between s t → Between t u → Between s u
  then {s = s} p q =
      record {
        asked = p.asked ++ q.asked;
        ends = q.ends ∙ ap (λ (x : State). end_of x q.asked) p.ends ∙ sym (end_append (state_of word s) p.asked q.asked);
      }

  -- ---- one part

  record_of : (b : Bool) (d e : Desk) (s : Session) → d.s ≡ s → e.s ≡ s → (b ⇒ d ∣ e).s ≡ s
  unfolding ◌⇒◌∣◌
  record_of true d e s p q = p
  record_of false d e s p q = q

  header_kept : (d : Desk) (s : Session) → (header_desk d s).s ≡ s
  unfolding header_desk
  header_kept d s = record_of (s.width == 0) _ _ s refl refl

  one_part :
      (store : List ℕ) (d : Desk) (a : Collected) (pic : List ℕ) (t : Scene) → t.desk.s ≡ d.s → t.picture ≡ pic →
      Between t (scene (desk_part store d a) store (drawn word store (desk_part store d a).s a pic))
  unfolding desk_part drawn frame_desk
  one_part store d More pic t e f = nothing t _ (cc (e, f))
  one_part store d (Header n) pic t e f =
      record { asked = ask_header (first_of store n) ∷ []; ends = ap (λ (x : Session). state x word pic) (header_kept d _) ∙ cc (e, f) }
  one_part store d (Frame n) pic t e f = record { asked = ask_frame (first_of store n) 4096 4096 4096 4096 ∷ []; ends = cc (e, f) }
  one_part store d (Refused n) pic t e f = nothing t _ (cc (e, f))

  one_hand_over : (piece : List ℕ) (t : Scene) → Between t (handed word piece t)
  unfolding moved
  one_hand_over piece t = one_part _ _ _ t.picture t refl refl

  -- ---- the whole stream

  all_of_it : {s t : Scene} {piece : List ℕ} → Shown word s t piece → Between s t
  unfolding placed anew_desk
  all_of_it {s = s} none = nothing s s refl
  all_of_it (read t piece new p h) = then (all_of_it p) (nothing t _ refl)
  all_of_it (more t piece p) = then (all_of_it p) (one_hand_over piece t)
  all_of_it (anew t piece p h) = then (all_of_it p) (nothing t _ refl)

pub shown_day : {word : ℕ} {s t : Scene} → ShownTo word s t → DayShown word s t
shown_day {word = word} {s = s} {t = t} p =
    let b = all_of_it word p.shown in
    let m = plays (state_of word s) (state_of word t) b.asked b.ends in
    record { asked = b.asked; made = m.0; ends = m.1 }
