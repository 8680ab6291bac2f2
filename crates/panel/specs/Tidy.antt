-- Frames and headers passed on, as a C program meets them: the number is returned, lengths and the count are stored behind references, lists are lent. A
-- frame's
-- session is the one that the four headers of this size and mode make; there is none of another size than 1 to 4,096 by 1 to 2,048, and its frames go on as
-- they came.
-- (01 is this project's scope document, 02 its change requests, 001 is MS-RDPRFX: README, "What 01 is".)
use Rattle.std.specs.Prelude.{ℕ, ◌+◌, ◌≡◌, List, [], ◌∷◌, leb, ℤ, length}
use Rattle.whole.specs.Row.{◌⇒◌∣◌}
use Rattle.wire.specs.Wrote.{length_said, out_left}
use Rattle.session.specs.Header.{of_numbers}
use Rattle.session.specs.declared.Session.{Session}
use Rattle.tidy.specs.Tidy.{tidy_frame, codes_cut, tidy_fault, cut_said, list_left}
use Rattle.tidy.specs.Headers.{none, waiting_bytes, passed_on, waiting_after, store_after, store_left}
use Rattle.tidy.specs.Held.{held_fault, waiting_in, store_in, held_of}

-- a side that 16 bits hold, else 0, which is no size either: nothing is cut down to 16 bits
unfoldable pub side_of : ℕ → ℕ
side_of n = leb n 65535 ⇒ n ∣ 0

abbrev pub filter_record : ℕ → ℕ → ℕ → Session
filter_record w h mode = of_numbers 4 (side_of w) (side_of h) mode

pub record TidyFrameCall (sender w h mode : ℕ) (m : List ℕ) (list list' : List ℤ) (out out' told : List ℕ) (n : ℕ) : Type 0 where
  pub number : n ≡ tidy_fault sender (length list) (length m) (length out)
  pub told_is :
      told ≡ length_said (tidy_fault sender (length list) (length m) (length out)) (tidy_frame sender (filter_record w h mode) m)
      ∷ cut_said (tidy_fault sender (length list) (length m) (length out)) (codes_cut sender (filter_record w h mode) m) ∷ []
  pub left : out' ≡ out_left (tidy_fault sender (length list) (length m) (length out)) (tidy_frame sender (filter_record w h mode) m) out
  pub work : list' ≡ list_left (tidy_fault sender (length list) (length m) (length out)) list

-- by the number of the first fault, the bytes that go on and what is held then
pub record HeldCall (fault : ℕ) (bytes after held held' out out' : List ℕ) (size n : ℕ) : Type 0 where
  pub number : n ≡ fault
  pub size_is : size ≡ length_said fault bytes
  pub kept : held' ≡ store_left fault after held
  pub left : out' ≡ out_left fault bytes out

abbrev pub TidyHeaderCall : List ℕ → List ℕ → List ℕ → List ℕ → List ℕ → ℕ → ℕ → Type 0
TidyHeaderCall held held' block out out' size n =
    HeldCall (held_fault held (35 + length block) (length out)) (passed_on (waiting_in held) (store_in held) block)
    (held_of (waiting_after (waiting_in held) block) (store_after (waiting_in held) (store_in held) block)) held held' out out' size n

abbrev pub TidyFlushCall : List ℕ → List ℕ → List ℕ → List ℕ → ℕ → ℕ → Type 0
TidyFlushCall held held' out out' size n =
    HeldCall (held_fault held 35 (length out)) (waiting_bytes (waiting_in held) (store_in held)) (held_of none (store_in held)) held held' out out' size n
