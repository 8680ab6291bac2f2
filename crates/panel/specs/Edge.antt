-- The six calls as a C program meets them: 01's number is returned, 01's value is stored behind the last reference, lists are lent, the record is
-- changed in place. Each promise is of the number, the value and every list at exit, by the definitions that the panel's own calls cite.
-- (01 is this project's scope document, 02 its change requests, 001 is MS-RDPRFX: README, "What 01 is".)
use Rattle.std.specs.Prelude.{ℕ, ◌≡◌, List, ℤ, length, Result}
use Rattle.wire.specs.Refusal.{number_of, count_of}
use Rattle.whole.specs.Row.{◌⨟◌}
use Rattle.wire.specs.Refusal.{number_of}
use Rattle.wire.specs.Wrote.{length_said, out_left}
use Rattle.session.specs.declared.Session.{Session}
use Rattle.session.specs.Header.{header_record, header_reading}
use Rattle.code.specs.Read.{reading_number, reading_bits, reading, ComponentRead}
use Rattle.code_write.specs.Write.{bytes_of, write_fault}
use Rattle.headers.specs.Headers.{headers_of, headers_fault}
use Rattle.frame_write.specs.Encode.{picture_frame}
use Rattle.frame_write.specs.FrameWrite.{arg_fault, send_fault, work_left}
use Rattle.wire.specs.declared.Refusal.{Refusal}
use Rattle.frame.specs.Frame.{early, frame_number, frame_reading, FrameRead}

-- ---- the readers: the answer is the one that the call's own definition gives, and the number and the value are that answer's

-- s is the record before the call, s' after it; n is what is returned
pub record ReadHeaderCall (s s' : Session) (m : List ℕ) (n : ℕ) : Type 0 where
  pub number : n ≡ number_of (header_reading s m)
  pub session : s' ≡ header_record (header_reading s m) s

-- the answer to a frame, of what came in; word is 0 where the picture has words of 16 bits, 1 where it has words of 32
abbrev pub frame_answer : ℕ → Session → List ℕ → List ℕ → List ℤ → List ℤ → List ℤ → List ℤ → Result ℕ Refusal
frame_answer word s m pic y cb cr tmp = frame_reading (frame_number (early word s pic y cb cr tmp) s m) m

-- "A done frame reports numTiles, a refused one 0"; "a frame call leaves it equal", the record; picture and work lists as the panel's call leaves them
pub record ReadFrameCall (word : ℕ) (s s' : Session) (m pic : List ℕ) (y cb cr tmp : List ℤ) (pic' : List ℕ) (y' cb' cr' tmp' : List ℤ) (tiles n : ℕ) : Type 0
  where
    pub number : n ≡ number_of (frame_answer word s m pic y cb cr tmp)
    pub count : tiles ≡ count_of (frame_answer word s m pic y cb cr tmp)
    pub session : s' ≡ s
    pub lists : FrameRead word s m pic y cb cr tmp pic' y' cb' cr' tmp' (frame_answer word s m pic y cb cr tmp)

-- "The component reader reports the code's length in bits on 0 and 11, else 0."
pub record ReadComponentCall (mode : ℕ) (s : List ℕ) (before after : List ℤ) (bits n : ℕ) : Type 0 where
  pub number : n ≡ reading_number (reading mode (length before) s)
  pub long : bits ≡ reading_bits (reading mode (length before) s)
  pub list : ComponentRead mode s before after (reading mode (length before) s)

-- ---- the writers: the number of the first fault; "when done they say the length in bytes, refused 0"; the output

pub record WriterCall (fault : ℕ) (bytes out out' : List ℕ) (size n : ℕ) : Type 0 where
  pub number : n ≡ fault
  pub long : size ≡ length_said fault bytes
  pub left : out' ≡ out_left fault bytes out

abbrev pub WriteComponentCall : ℕ → List ℤ → List ℕ → List ℕ → ℕ → ℕ → Type 0
WriteComponentCall mode zs out out' size n = WriterCall (write_fault mode zs (length out)) (bytes_of mode zs) out out' size n

abbrev pub WriteHeadersCall : ℕ → ℕ → ℕ → List ℕ → List ℕ → ℕ → ℕ → Type 0
WriteHeadersCall width height mode out out' size n = WriterCall (headers_fault width height mode (length out)) (headers_of width height mode) out out' size n

-- and the frame writer's two work lists
pub record WriteFrameCall (w h mode : ℕ) (q : List ℕ) (index : ℕ) (p : List ℕ) (list list' scratch scratch' : List ℤ) (out out' : List ℕ) (size n : ℕ)
    : Type 0 where
  pub wrote :
      WriterCall (arg_fault w h mode q (length p) (length list) (length scratch) ⨟ send_fault index w h mode q p (length out))
      (picture_frame index w h mode q p) out out' size n
  pub first : list' ≡ work_left (arg_fault w h mode q (length p) (length list) (length scratch)) list
  pub second : scratch' ≡ work_left (arg_fault w h mode q (length p) (length list) (length scratch)) scratch
