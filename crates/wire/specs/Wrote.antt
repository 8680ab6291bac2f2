-- What a writer says and leaves, whatever its first fault is and whatever bytes it has to write. 01, "Numbers the fitter sees": "Writers leave their
-- output untouched on every refusal; when done they say the length in bytes, refused 0, and bytes past it are untouched."
-- (01 is this project's scope document, 02 its change requests, 001 is MS-RDPRFX: README, "What 01 is".)
use Rattle.std.specs.Prelude.{ℕ, zero, suc, ◌≡◌, List, length, Result}
use Rattle.wire.specs.Le.{written}
use Rattle.wire.specs.Refusal.{number_of, count_of}
use Rattle.wire.specs.declared.Refusal.{Refusal}

-- ---- by the number of the first fault: the length that is said, and the output

unfoldable pub length_said : ℕ → List ℕ → ℕ
length_said zero bytes = length bytes
length_said (suc f) bytes = 0

-- "Writers leave their output untouched on every refusal", "and bytes past it are untouched"
unfoldable pub out_left : ℕ → List ℕ → List ℕ → List ℕ
out_left zero bytes out = written bytes out
out_left (suc f) bytes out = out

-- a writer's promise: the number of its first fault, the bytes that are to be written, the output as it was and as it is, and its answer
pub record Wrote (fault : ℕ) (bytes out out' : List ℕ) (r : Result ℕ Refusal) : Type 0 where
  pub number : number_of r ≡ fault
  pub said : count_of r ≡ length_said fault bytes
  pub left : out' ≡ out_left fault bytes out
