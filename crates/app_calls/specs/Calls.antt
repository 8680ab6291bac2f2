-- Header calls and frame calls that a program makes: what each answers and leaves, by the promise of the call inside. Lent lists hold 7 before a call.
use Rattle.std.specs.Prelude.{◌≡◌, ℕ, ◌-◌, Bool, false, leb, List, length, take, drop, nat_le}
use Rattle.whole.specs.Row.{◌!◌⨾◌, ◌⇒◌∣◌}
use Rattle.session.specs.Header.{header_record, header_reading}
use Rattle.wire.specs.Refusal.{number_of}
use Rattle.session.specs.declared.Session.{Session}
use Rattle.frame.specs.Frame.{call_fault, frame_number, frame_picture}
use Rattle.app_calls.specs.declared.calls.Heard.{Heard}
use Rattle.app_calls.specs.declared.calls.Fourfold.{Fourfold}

-- ---- header calls

abbrev pub header_left : Session → List ℕ → Session
header_left s m = header_record (header_reading s m) s

unfoldable pub heard : Session → List ℕ → Heard
heard s m = record { number = number_of (header_reading s m); session = header_left s m }

-- four headers as our writer lays them out, each to a header call; 1 (cut) where they are not all there
abbrev pub between : ℕ → ℕ → List ℕ → List ℕ
between a e m = take (e - a) (drop a m)

abbrev pub sync : Session → List ℕ → Heard
sync s out = heard s (between 0 12 out)

abbrev pub versions : Session → List ℕ → Heard
versions s out = heard (sync s out).session (between 12 22 out)

abbrev pub channels : Session → List ℕ → Heard
channels s out = heard (versions s out).session (between 22 34 out)

abbrev pub context : Session → List ℕ → Heard
context s out = heard (channels s out).session (between 34 47 out)

unfoldable pub four_back : Session → List ℕ → Fourfold
four_back s out =
    leb 47 (length out) ! record { one = 1; two = 1; three = 1; four = 1; session = s } ⨾
    record {
      one = (sync s out).number;
      two = (versions s out).number;
      three = (channels s out).number;
      four = (context s out).number;
      session = (context s out).session;
    }

-- ---- frame calls: with three lists of these lengths, and a fourth of 4,096

-- the picture has words of 16 bits (0) or of 32 (1)
unfoldable pub frame_made_on : ℕ → Session → List ℕ → ℕ → ℕ → ℕ → List ℕ → List ℕ
frame_made_on word s m one two three pic = frame_picture (frame_number (call_fault word s (length pic) one two three 4096) s m) s m pic

unfoldable pub frame_made : Session → List ℕ → ℕ → ℕ → ℕ → List ℕ → List ℕ
frame_made s m one two three pic = frame_picture (frame_number (call_fault 0 s (length pic) one two three 4096) s m) s m pic

-- there are lists of at most 8,192 numbers to be lent
unfoldable pub fits : ℕ → ℕ → ℕ → Bool
fits one two three =
    leb one 8192 ! false ⨾
    leb two 8192 ! false ⨾
    nat_le three 8192

-- whether the call was made, and the picture after it
pub record FrameMade (word : ℕ) (made : Bool) (s : Session) (m : List ℕ) (one two three : ℕ) (pic pic' : List ℕ) (r : Bool) : Type 0 where
  pub answer : r ≡ made
  pub picture : pic' ≡ (made ⇒ frame_made_on word s m one two three pic ∣ pic)
