-- The calls that only a recording makes: what each answers and leaves, by the promise of the call inside. Lent lists hold 7 before a call, lent output A5.
use Rattle.std.specs.Prelude.{ℕ, ◌≡◌, Bool, false, List, Result, leb, ℤ, pos, length, replicate}
use Rattle.whole.specs.Row.{◌!◌⨾◌, ◌⇒◌∣◌, ◌⨟◌}
use Rattle.wire.specs.Wrote.{length_said, out_left}
use Rattle.wire.specs.declared.Refusal.{Refusal}
use Rattle.code.specs.Read.{read_into}
use Rattle.quants.specs.Quants.{one_for}
use Rattle.quants.specs.declared.Quants.{Quants}
use Rattle.frame_write.specs.Sets.{frame_over, arg_fault_over, send_fault_over, FrameWrittenOver}
use Rattle.frame_write.specs.Picked.{frame_picked}
use Rattle.frame_write.specs.declared.size.Job.{Job}
use Rattle.plan.specs.Plan.{changed, make_fault}
use Rattle.short_write.specs.Short.{short_fault}
use Rattle.collect.specs.Collect.{state, collect_of}
use Rattle.collect.specs.declared.Collector.{Collector}
use Rattle.collect.specs.declared.Collected.{Collected}
use Rattle.collect.specs.declared.Collected.TheVariants.{More, Header, Frame, Refused}
use Rattle.app_answers.specs.declared.writers.Asked.{Asked}

-- ---- the component reader, on a list of sevens

abbrev pub component_left : ℕ → List ℕ → List ℤ → List ℤ
component_left mode s list = read_into mode s (replicate (length list) (pos 7))

-- ---- the writers, on an output of A5

abbrev pub blank : List ℕ → List ℕ
blank out = replicate (length out) 0xA5

abbrev pub WriterMade : ℕ → List ℕ → List ℕ → List ℕ → Type 0
WriterMade fault bytes out out' = out' ≡ out_left fault bytes (blank out)

-- and the bytes that it says it wrote
pub record WriterSaid (fault : ℕ) (bytes out out' : List ℕ) (n : ℕ) : Type 0 where
  pub long : n ≡ length_said fault bytes
  pub left : WriterMade fault bytes out out'

-- ---- the frame writer, on an output of A5 and with two lists of these lengths

unfoldable pub pair_fits : ℕ → ℕ → Bool
pair_fits one two =
    leb one 8192 ! false ⨾
    leb two 8192

-- the quantisers that are asked for: luma's and chroma's, or luma's for both, which is the writer of one set
unfoldable pub asked_sets : Asked → Quants
asked_sets a = a.sets ⇒ a.q ∣ one_for a.q.luma.v

-- its first fault, and its bytes
abbrev pub sent_fault : Asked → List ℕ → ℕ → ℕ → ℕ → ℕ
sent_fault a pixels one two room =
    arg_fault_over a.width a.height a.mode (asked_sets a) (length pixels) one two ⨟
    send_fault_over a.index a.width a.height a.mode (asked_sets a) pixels room

abbrev pub sent_bytes : Asked → List ℕ → List ℕ
sent_bytes a pixels = frame_over a.index a.width a.height a.mode (asked_sets a) pixels

-- its promise
abbrev pub AskedWritten : Asked → List ℕ → List ℤ → List ℤ → List ℤ → List ℤ → List ℕ → List ℕ → Result ℕ Refusal → Type 0
AskedWritten a pixels list list' scratch scratch' out out' w =
    FrameWrittenOver a.width a.height a.mode (asked_sets a) a.index pixels list list' scratch scratch' out out' w

-- the bytes that it says it wrote, and the output after it; where the call is not made, a count beyond any output, and nothing changes
pub record FrameSent (made : Bool) (fault : ℕ) (bytes out out' : List ℕ) (n : ℕ) : Type 0 where
  pub long : n ≡ (made ⇒ length_said fault bytes ∣ 18446744073709551615)
  pub left : out' ≡ (made ⇒ out_left fault bytes (blank out) ∣ out)

-- the short frame's writer: its first fault, and its bytes
abbrev pub short_sent_fault : Job → List ℕ → List ℕ → List ℕ → ℕ → ℕ → ℕ → ℕ
short_sent_fault j old new picks one two room = short_fault j.width j.height j.mode j.quants j.index old new picks one two room

abbrev pub short_sent_bytes : Job → List ℕ → List ℕ → List ℕ
short_sent_bytes j new picks = frame_picked j.index j.width j.height j.mode j.quants new picks

-- ---- the planner, on a list that holds 7

abbrev pub PlanLeft : ℕ → ℕ → List ℕ → List ℕ → List ℕ → List ℕ → Type 0
PlanLeft w h old new list list' = list' ≡ out_left (make_fault w h old new (length list)) (changed old new w h) list

-- ---- a hand-over to the collector

unfoldable pub size_of : Collected → ℕ
size_of More = 0
size_of (Header n) = n
size_of (Frame n) = n
size_of (Refused n) = 0

pub record Taken (c : Collector) (bytes store store' : List ℕ) (c' : Collector) : Type 0 where
  pub collector : c' ≡ (collect_of (state c store) bytes).step.state.collector
  pub left : store' ≡ (collect_of (state c store) bytes).step.state.store
