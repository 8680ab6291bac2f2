-- The same day as a C program makes it (panel/src/edge.rt): one record behind a reference and one picture, handed on from call to call.
use Rattle.std.specs.Prelude.{ℕ, ◌≡◌, List, [], ◌∷◌}
use Rattle.calls.specs.Calls.{CReadHeader, as_header, CReadFrame, as_frame}
use Rattle.day.specs.Day.{State, Call, header, frame}

pub data CallC : Type 0 where
  header_c : CReadHeader → CallC
  frame_c : CReadFrame → CallC

pub record HeaderStepC (s : State) (c : CReadHeader) (t : State) : Type 0 where
  pub given : c.session ≡ s.session
  pub left : t.session ≡ c.session'
  pub word_kept : t.word ≡ s.word
  pub picture_kept : t.picture ≡ s.picture

pub record FrameStepC (s : State) (c : CReadFrame) (t : State) : Type 0 where
  pub given : c.session ≡ s.session
  pub sized : c.word ≡ s.word
  pub lent : c.picture ≡ s.picture
  pub word_kept : t.word ≡ s.word
  pub session_left : t.session ≡ c.session'
  pub left : t.picture ≡ c.picture'

abbrev pub StepC : State → CallC → State → Type 0
StepC s (header_c c) t = HeaderStepC s c t
StepC s (frame_c c) t = FrameStepC s c t

pub data DayC : State → List CallC → State → Type 0 where
  no_call_c : {s : State} → DayC s [] s
  call_c : {s t u : State} {c : CallC} {cs : List CallC} → StepC s c t → DayC t cs u → DayC s (c ∷ cs) u

-- what a call returns
abbrev pub number_c : CallC → ℕ
number_c (header_c c) = c.number
number_c (frame_c c) = c.number

-- the call of the panel that it is
abbrev pub as_call : CallC → Call
as_call (header_c c) = header (as_header c)
as_call (frame_c c) = frame (as_frame c)
