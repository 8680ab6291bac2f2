-- What waits, held in 38 bytes that a caller lends: three numbers and the store.
-- (01 is this project's scope document, 02 its change requests, 001 is MS-RDPRFX: README, "What 01 is".)
use Rattle.std.specs.Prelude.{ℕ, ◌≡◌, List, ◌∷◌, eqb, length, drop, get_or, Result}
use Rattle.whole.specs.Row.{◌!◌⨾◌}
use Rattle.wire.specs.Refusal.{number_of, count_of}
use Rattle.wire.specs.declared.Refusal.{Refusal}
use Rattle.wire.specs.Wrote.{length_said, out_left}
use Rattle.tidy.specs.declared.headers.Waiting.{Waiting}
use Rattle.tidy.specs.Headers.{header_fault, store_left}

abbrev pub waiting_in : List ℕ → Waiting
waiting_in h = record { on = get_or h 0 0; first = get_or h 1 0; second = get_or h 2 0 }

abbrev pub store_in : List ℕ → List ℕ
store_in h = drop 3 h

abbrev pub held_of : Waiting → List ℕ → List ℕ
held_of w store = w.on ∷ w.first ∷ w.second ∷ store

-- refusals: 2 where there are not 38 bytes, or a number of what waits is none of the three; "13 if the output is under 35 bytes and the block's length (letting
-- go: 35), whatever goes on"
unfoldable pub held_fault : List ℕ → ℕ → ℕ → ℕ
held_fault h most room = eqb (length h) 38 ! 2 ⨾ header_fault 35 (waiting_in h) most room

-- by the number of the first fault, the bytes that go on and the 38 bytes then: the answer, those bytes and the output; "nothing changes" where it is refused
pub record HeldGave (fault : ℕ) (bytes after held held' out out' : List ℕ) (r : Result ℕ Refusal) : Type 0 where
  pub number : number_of r ≡ fault
  pub size : count_of r ≡ length_said fault bytes
  pub kept : held' ≡ store_left fault after held
  pub left : out' ≡ out_left fault bytes out
