-- What `send` writes, as a function of what it read: the headers and the frame of a picture.
-- (01 is this project's scope document, 02 its change requests: README, "What 01 is".)
use Rattle.std.specs.Prelude.{ℕ, zero, suc, ◌+◌, ◌-◌, ◌≤◌, ◌≡◌, List, [], ◌++◌, length, take, drop, Result, Ok, Err}
use Rattle.whole.specs.Row.{◌⨟◌}
use Rattle.wire.specs.Wrote.{length_said, out_left}
use Rattle.settings.specs.declared.Settings.{Settings}
use Rattle.headers.specs.Headers.{headers_of, headers_fault}
use Rattle.plan.specs.Answer.{why_number, plan_number}
use Rattle.short_write.specs.Answer.{short_count}
use Rattle.plan.specs.declared.check.PlanRefusal.{PlanRefusal}
use Rattle.frame_write.specs.Sets.{arg_fault_over, send_fault_over, frame_over}
use Rattle.app_text.specs.First.{first_of}
use Rattle.app_pictures.specs.Ppm.{unfit_number}
use Rattle.app_pictures.specs.declared.ppm.Head.{Head}
use Rattle.app_pictures.specs.declared.ppm.Unfit.{Unfit}
use Rattle.app_send.specs.declared.Task.{Task}
use Rattle.app_send.specs.declared.faults.Fault.{Fault}
use Rattle.app_send.specs.declared.faults.Fault.TheVariants.{Picture, Differ}
use Rattle.app_send.specs.declared.Unmade.{Unmade}
use Rattle.app_send.specs.declared.Unmade.TheVariants.{Faulty, Refused}

-- the frame of a picture's pixels, and the frame writer's first fault in so much room
abbrev pub frame_bytes : Task → List ℕ → List ℕ
frame_bytes t p = frame_over t.index t.width t.height t.settings.mode t.settings.quants p

abbrev pub frame_fault : Task → List ℕ → ℕ → ℕ
frame_fault t p room =
    arg_fault_over t.width t.height t.settings.mode t.settings.quants (length p) 4096 4096 ⨟
    send_fault_over t.index t.width t.height t.settings.mode t.settings.quants p room

-- the stream: the four header blocks, 47 bytes, then the frame
abbrev pub head_bytes : Task → List ℕ
head_bytes t = headers_of t.width t.height t.settings.mode

abbrev pub stream_of : Task → List ℕ → List ℕ
stream_of t p = head_bytes t ++ frame_bytes t p

-- its first fault: the header writer's, then the frame writer's in the room behind the headers
abbrev pub stream_fault : Task → List ℕ → ℕ → ℕ
stream_fault t p room = headers_fault t.width t.height t.settings.mode room ⨟ frame_fault t p (room - 47)

-- ---- what is answered, and what goes out: as many bytes of the output as are said

-- where the first fault is 0, the bytes; else nothing
unfoldable pub gone_out : ℕ → List ℕ → List ℕ
gone_out zero bytes = bytes
gone_out (suc f) bytes = []

-- the number of a fault: a picture's 1 to 7, and 8 for two of different sizes
abbrev pub fault_number : Fault → ℕ
fault_number (Picture unfit) = unfit_number unfit
fault_number Differ = 8

-- what making a stream came to: how many bytes of the output are the stream, or why there is none
abbrev pub Made : Type 0
Made = Result ℕ Unmade

-- the fault of what was to be sent, 0 for none; 01's number, 0 for none; the size, 0 where nothing goes out
abbrev pub made_fault : Made → ℕ
made_fault (Ok n) = 0
made_fault (Err (Faulty fault)) = fault_number fault
made_fault (Err (Refused why)) = 0

abbrev pub made_number : Made → ℕ
made_number (Ok n) = 0
made_number (Err (Faulty fault)) = 0
made_number (Err (Refused why)) = why_number why

abbrev pub made_size : Made → ℕ
made_size (Ok n) = n
made_size (Err why) = 0

-- by the fault of a picture, the number of the writers' first fault, and the bytes that are to go out
pub record Sent (fault number : ℕ) (bytes out' : List ℕ) (r : Made) : Type 0 where
  pub fault_is : made_fault r ≡ fault
  pub number_is : made_number r ≡ number
  pub fits : made_size r ≤ length out'
  pub gone : first_of out' (made_size r) ≡ gone_out (fault ⨟ number) bytes

-- a writer that was lent the output from a place on
pub record Behind (fault : ℕ) (bytes : List ℕ) (at : ℕ) (out out' : List ℕ) (r : Result ℕ PlanRefusal) : Type 0 where
  pub number : plan_number r ≡ fault
  pub said : short_count r ≡ length_said fault bytes
  pub left : out' ≡ take at out ++ out_left fault bytes (drop at out)
  pub room : at + short_count r ≤ length out

abbrev pub made_behind : ℕ → Result ℕ PlanRefusal → Made
made_behind at (Ok n) = Ok (at + n)
made_behind at (Err why) = Err (Refused why)

-- ---- a file: a picture is what its head says of its bytes (`picture_of`), its pixels stand from a place on

abbrev pub task : Settings → ℕ → ℕ → ℕ → Task
task s index w h = record { settings = s; index = index; width = w; height = h }

abbrev pub PictureSent : Settings → ℕ → List ℕ → ℕ → Result Head Unfit → List ℕ → Made → Type 0
PictureSent s index file room (Ok h) out' r =
    let t = task s index h.width h.height in
    Sent 0 (stream_fault t (drop h.at file) room) (stream_of t (drop h.at file)) out' r
PictureSent s index file room (Err unfit) out' r = Sent (unfit_number unfit) 0 [] out' r
