-- Two pictures of one size: the stream of the old one, and behind it the short frame of the new one. 02, request Eleven: "The short frame's writer makes this
-- check
-- itself, after its own 5, 7 and 2; then 9, 6 and 13 as before, over the listed tiles."
-- (01 is this project's scope document, 02 its change requests: README, "What 01 is".)
use Rattle.std.specs.Prelude.{ℕ, ◌+◌, ◌-◌, ◌≡◌, List, [], ◌++◌, length, take, drop, eqb, Result, Ok, Err, IfOk}
use Rattle.whole.specs.Row.{◌⇒◌∣◌, ◌⨟◌}
use Rattle.wire.specs.Wrote.{length_said}
use Rattle.settings.specs.declared.Settings.{Settings}
use Rattle.frame_write.specs.Picked.{frame_picked}
use Rattle.short_write.specs.Short.{short_fault}
use Rattle.app_send.specs.Stream.{frame_bytes, frame_fault, stream_of, stream_fault, fault_number, task, Made, Sent}
use Rattle.app_send.specs.declared.Task.{Task}
use Rattle.app_send.specs.declared.Unmade.{Unmade}
use Rattle.app_send.specs.declared.faults.Fault.{Fault}
use Rattle.app_send.specs.declared.both.Both.{Both}
use Rattle.app_send.specs.declared.pair.Pair.{Pair}

-- the index behind another, in 32 bits
unfoldable pub next_index : ℕ → ℕ
next_index i = eqb i 4294967295 ⇒ 0 ∣ i + 1

abbrev pub next_task : Task → Task
next_task t = record { settings = t.settings; index = next_index t.index; width = t.width; height = t.height }

-- the short frame of the listed tiles, and its writer's first fault
abbrev pub short_bytes : Task → List ℕ → List ℕ → List ℕ
short_bytes t new ks = frame_picked t.index t.width t.height t.settings.mode t.settings.quants new ks

abbrev pub short_fault_in : Task → List ℕ → List ℕ → List ℕ → ℕ → ℕ
short_fault_in t old new ks room = short_fault t.width t.height t.settings.mode t.settings.quants t.index old new ks 4096 4096 room

-- what goes out: the stream of the old picture, and the short frame of the new one, with the next index
abbrev pub both_of : Task → List ℕ → List ℕ → List ℕ → List ℕ
both_of t old new ks = stream_of t old ++ short_bytes (next_task t) new ks

abbrev pub both_fault : Task → List ℕ → List ℕ → List ℕ → ℕ → ℕ
both_fault t old new ks room = stream_fault t old room ⨟ short_fault_in (next_task t) old new ks (room - length (stream_of t old))

-- what making both came to, of its size alone
abbrev pub both_made : Result Both Unmade → Made
both_made (Ok b) = Ok b.size
both_made (Err why) = Err why

-- a change behind a stream that ends at a place of the output
pub record Changed (t : Task) (old new ks : List ℕ) (at : ℕ) (out out' : List ℕ) (r : Result Both Unmade) : Type 0 where
  pub sent : Sent 0 (short_fault_in t old new ks (length out - at)) (take at out ++ short_bytes t new ks) out' (both_made r)
  pub short_is : IfOk r (λ (b : Both). b.short ≡ length_said (short_fault_in t old new ks (length out - at)) (short_bytes t new ks))
  pub full_is : IfOk r (λ (b : Both). b.full ≡ length_said (frame_fault t new (length out - at)) (frame_bytes t new))
  pub tiles_is : IfOk r (λ (b : Both). b.tiles ≡ length ks)

-- the whole, and its figures where it goes out
pub record BothSent (t : Task) (old new ks : List ℕ) (room : ℕ) (out' : List ℕ) (r : Result Both Unmade) : Type 0 where
  pub sent : Sent 0 (both_fault t old new ks room) (both_of t old new ks) out' (both_made r)
  pub short_is :
      IfOk r
      (λ (b : Both). b.short ≡ length_said (short_fault_in (next_task t) old new ks (room - length (stream_of t old))) (short_bytes (next_task t) new ks))
  pub full_is :
      IfOk r (λ (b : Both). b.full ≡ length_said (frame_fault (next_task t) new (room - length (stream_of t old))) (frame_bytes (next_task t) new))
  pub tiles_is : IfOk r (λ (b : Both). b.tiles ≡ length ks)

-- files: their faults first
abbrev pub FilesSent : Settings → ℕ → List ℕ → List ℕ → List ℕ → ℕ → Result Pair Fault → List ℕ → Result Both Unmade → Type 0
FilesSent s index old new ks room (Ok p) out' r = BothSent (task s index p.width p.height) (drop p.old old) (drop p.new new) ks room out' r
FilesSent s index old new ks room (Err fault) out' r = Sent (fault_number fault) 0 [] out' (both_made r)
