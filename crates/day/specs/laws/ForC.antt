-- A day of calls for C is a day of the panel's own calls, which return the same numbers.
use Rattle.std.specs.Prelude.{◌≡◌, List, [], ◌∷◌, map}
use Rattle.std.proofs.Common.{◌∙◌}
use Rattle.day.specs.Day.{State, Step, Day, no_call, call, number}
use Rattle.day.specs.ForC.{CallC, header_c, frame_c, StepC, DayC, no_call_c, call_c, number_c, as_call}

step_c : (s t : State) (c : CallC) → StepC s c t → Step s (as_call c) t
step_c s t (header_c c) k = record { given = k.given; left = k.left ∙ c.promise.session; word_kept = k.word_kept; picture_kept = k.picture_kept }
step_c s t (frame_c c) k =
    record {
      given = k.given;
      sized = k.sized;
      lent = k.lent;
      session_kept = k.session_left ∙ c.promise.session ∙ k.given;
      word_kept = k.word_kept;
      left = k.left;
    }

pub day_c : (s t : State) (cs : List CallC) → DayC s cs t → Day s (map as_call cs) t
day_c s t [] no_call_c = no_call
day_c s t (c ∷ cs) (call_c k d) = call {c = as_call c} (step_c s _ c k) (day_c _ t cs d)

pub number-c : (c : CallC) → number_c c ≡ number (as_call c)
unfolding number
number-c (header_c c) = c.promise.number
number-c (frame_c c) = c.promise.number
