-- What the short frame's writer answers: how many bytes it has written, or why it refuses; and its promise by the first fault, as every writer's is (`Wrote`).
-- (01 is this project's scope document, 02 its change requests, 001 is MS-RDPRFX: README, "What 01 is".)
use Rattle.std.specs.Prelude.{ℕ, zero, suc, ◌≡◌, List, length, Result, Ok, Err}
use Rattle.wire.specs.Refusal.{count_of}
use Rattle.wire.specs.Wrote.{length_said, out_left}
use Rattle.wire.specs.declared.Refusal.{Refusal}
use Rattle.plan.specs.Answer.{why_of, plan_number}
use Rattle.plan.specs.declared.check.PlanRefusal.{PlanRefusal}
use Rattle.plan.specs.declared.check.PlanRefusal.TheVariants.{Common}

-- the length that an answer says, refused 0
abbrev pub short_count : Result ℕ PlanRefusal → ℕ
short_count answer = count_of answer

-- an answer of the frame writer, handed on
abbrev pub handed : Result ℕ Refusal → Result ℕ PlanRefusal
handed (Ok n) = Ok n
handed (Err refusal) = Err (Common refusal)

-- the promise: the number of the first fault, the bytes that are to be written, the output as it was and as it is, and the answer
pub record WroteShort (fault : ℕ) (bytes out out' : List ℕ) (r : Result ℕ PlanRefusal) : Type 0 where
  pub number : plan_number r ≡ fault
  pub said : short_count r ≡ length_said fault bytes
  pub left : out' ≡ out_left fault bytes out

-- the answer itself, by the first fault
abbrev pub short_answer : ℕ → List ℕ → Result ℕ PlanRefusal
short_answer zero bytes = Ok (length bytes)
short_answer (suc f) bytes = Err (why_of (suc f))
