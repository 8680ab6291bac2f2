-- Laws of the calls that only a recording makes, in the forms that the code has.
use Rattle.std.specs.Prelude.{ℕ, ◌≤◌, ◌<◌, ◌≡◌, Bool, true, List, Result, ℤ, pos, length, replicate}
use Rattle.std.proofs.Math.Path.{refl, subst}
use Rattle.std.proofs.Common.{ap, sym, ◌∙◌, le-leb}
use Rattle.std.proofs.Math.Bool.{false}
use Rattle.std.proofs.Math.Dec.{leb}
use Rattle.std.proofs.lemmas.List.{length-replicate}
use Rattle.std.proofs.lemmas.Bool.{lt-leb}
use Rattle.whole.specs.Row.{◌!◌⨾◌, ◌⇒◌∣◌}
use Rattle.whole.specs.laws.Row.{fails, passes, case_yes, case_no}
use Rattle.wire.specs.Refusal.{count_of}
use Rattle.wire.specs.Wrote.{length_said, out_left, Wrote}
use Rattle.wire.specs.declared.Refusal.{Refusal}
use Rattle.short_write.specs.Answer.{short_count}
use Rattle.plan.specs.declared.check.PlanRefusal.{PlanRefusal}
use Rattle.headers.specs.Headers.{HeadersWritten, headers_of, headers_fault}
use Rattle.code.specs.declared.read.Reading.{Reading}
use Rattle.code.specs.Read.{read_into, ComponentRead}
use Rattle.code_write.specs.Write.{ComponentWritten, bytes_of, write_fault}
use Rattle.frame_write.specs.FrameWrite.{FrameWritten}
use Rattle.frame_write.specs.Sets.{FrameWrittenOver}
use Rattle.frame_write.specs.laws.OneSet.{as_over}
use Rattle.frame_write.specs.declared.size.Job.{Job}
use Rattle.plan.specs.Made.{PlanMade}
use Rattle.short_write.specs.Short.{ShortWritten}
use Rattle.settings.specs.Settings.{settings_of}
use Rattle.settings.specs.Settings as Kept
use Rattle.settings.specs.declared.Settings.{Settings}
use Rattle.collect.specs.Collect.{HandOver, state, said, collect_of}
use Rattle.collect.specs.declared.Collector.{Collector}
use Rattle.collect.specs.declared.Took.{Took}
use Rattle.caps.specs.Caps.{caps_of, caps_fault}
use Rattle.caps.specs.AckCap.{ack_cap_of, ack_cap_fault}
use Rattle.caps.specs.Ack.{ack_of, ack_fault}
use Rattle.caps.specs.declared.Caps.{Caps}
use Rattle.caps.specs.declared.Ack.{Ack}
use Rattle.app_answers.specs.Answers.{component_left, WriterMade, WriterSaid, Taken, PlanLeft}
use Rattle.app_answers.specs.Answers.{pair_fits, asked_sets, sent_fault, sent_bytes, AskedWritten, FrameSent, short_sent_fault, short_sent_bytes}
use Rattle.app_answers.specs.declared.writers.Asked.{Asked}

-- ---- the component reader: x is the list as it was filled

pub component_made :
    (mode : ℕ) (s : List ℕ) (before x after : List ℤ) (r : Reading) → x ≡ replicate (length before) (pos 7) → ComponentRead mode s x after r →
    after ≡ component_left mode s before
component_made mode s before x after r e p = p.list ∙ ap (read_into mode s) e

-- ---- a writer on an output of A5: x is the output as it was filled

module _
    (fault : ℕ → ℕ) (bytes out x out' : List ℕ) (m : ℕ) (filled : x ≡ replicate (length out) 0xA5)
    (said : m ≡ length_said (fault (length x)) bytes) (left : out' ≡ out_left (fault (length x)) bytes x)
  where
    same_fault : fault (length x) ≡ fault (length out)
    same_fault = ap fault (ap length filled ∙ length-replicate (length out) 0xA5)

    made : WriterMade (fault (length out)) bytes out out'
    made = left ∙ (ap (λ (f : ℕ). out_left f bytes x) same_fault ∙ ap (out_left (fault (length out)) bytes) filled)

    wrote : (n : ℕ) → n ≡ m → WriterSaid (fault (length out)) bytes out out' n
    wrote n e = record { long = e ∙ (said ∙ ap (λ (f : ℕ). length_said f bytes) same_fault); left = made }

pub component_said :
    (mode : ℕ) (zs : List ℤ) (out x out' : List ℕ) (w : Result ℕ Refusal) (n : ℕ) → x ≡ replicate (length out) 0xA5 → ComponentWritten mode zs x out' w →
    n ≡ count_of w → WriterSaid (write_fault mode zs (length out)) (bytes_of mode zs) out out' n
component_said mode zs out x out' w n f p e = wrote (write_fault mode zs) (bytes_of mode zs) out x out' (count_of w) f p.said p.left n e

pub headers_said :
    (width height mode : ℕ) (out x out' : List ℕ) (w : Result ℕ Refusal) (n : ℕ) → x ≡ replicate (length out) 0xA5 → HeadersWritten width height mode x out' w →
    n ≡ count_of w → WriterSaid (headers_fault width height mode (length out)) (headers_of width height mode) out out' n
headers_said width height mode out x out' w n f p e =
    wrote (headers_fault width height mode) (headers_of width height mode) out x out' (count_of w) f p.said p.left n e

pub settings_said :
    (s : Settings) (out x out' : List ℕ) (w : Result ℕ Refusal) (n : ℕ) → x ≡ replicate (length out) 0xA5 →
    Wrote (Kept.write_fault s (length x)) (settings_of s) x out' w →
    n ≡ count_of w → WriterSaid (Kept.write_fault s (length out)) (settings_of s) out out' n
settings_said s out x out' w n f p e = wrote (Kept.write_fault s) (settings_of s) out x out' (count_of w) f p.said p.left n e

pub caps_made :
    (c : Caps) (out x out' : List ℕ) (w : Result ℕ Refusal) → x ≡ replicate (length out) 0xA5 → Wrote (caps_fault c (length x)) (caps_of c) x out' w →
    WriterMade (caps_fault c (length out)) (caps_of c) out out'
caps_made c out x out' w f p = made (caps_fault c) (caps_of c) out x out' (count_of w) f p.said p.left

pub ack_cap_made :
    (count : ℕ) (out x out' : List ℕ) (w : Result ℕ Refusal) → x ≡ replicate (length out) 0xA5 → Wrote (ack_cap_fault (length x)) (ack_cap_of count) x out' w →
    WriterMade (ack_cap_fault (length out)) (ack_cap_of count) out out'
ack_cap_made count out x out' w f p = made ack_cap_fault (ack_cap_of count) out x out' (count_of w) f p.said p.left

pub ack_made :
    (a : Ack) (out x out' : List ℕ) (w : Result ℕ Refusal) → x ≡ replicate (length out) 0xA5 → Wrote (ack_fault a.version (length x)) (ack_of a) x out' w →
    WriterMade (ack_fault a.version (length out)) (ack_of a) out out'
ack_made a out x out' w f p = made (ack_fault a.version) (ack_of a) out x out' (count_of w) f p.said p.left

-- ---- the frame writer

module _ (bytes out : List ℕ) where
  not_sent : (made : Bool) (fault : ℕ) → made ≡ false → FrameSent made fault bytes out out 18446744073709551615
  not_sent made fault e = record { long = case_no _ _ _ _ e refl; left = case_no _ _ _ _ e refl }

  pub pair_not : (fault two : ℕ) → 8192 < two → FrameSent (leb two 8192) fault bytes out out 18446744073709551615
  pair_not fault two h = not_sent _ fault (lt-leb two 8192 h)

  pub list_not : (fault one two : ℕ) → 8192 < one → FrameSent (pair_fits one two) fault bytes out out 18446744073709551615
  unfolding pair_fits
  list_not fault one two h = not_sent _ fault (sym (fails _ _ _ _ (lt-leb one 8192 h) refl))

-- the one writer or the other
module _ (a : Asked) (pixels : List ℕ) (list list' scratch scratch' : List ℤ) (out out' : List ℕ) (w : Result ℕ Refusal) where
  pub sets_written :
      a.sets ≡ true → FrameWrittenOver a.width a.height a.mode a.q a.index pixels list list' scratch scratch' out out' w →
      AskedWritten a pixels list list' scratch scratch' out out' w
  unfolding asked_sets ◌⇒◌∣◌
  sets_written e p = rw e p

  pub one_written :
      a.sets ≡ false → FrameWritten a.width a.height a.mode a.q.luma.v a.index pixels list list' scratch scratch' out out' w →
      AskedWritten a pixels list list' scratch scratch' out out' w
  unfolding asked_sets ◌⇒◌∣◌
  one_written e p = rw e (as_over _ _ _ _ _ _ _ _ _ _ _ _ _ p)

-- with the second list, which is k long; x is the output as it was filled
module _ (fault : ℕ → ℕ → ℕ) (bytes out x out' : List ℕ) (k two n m : ℕ) where
  pair_sent :
      two ≤ 8192 → k ≡ two → x ≡ replicate (length out) 0xA5 → m ≡ length_said (fault k (length x)) bytes →
      out' ≡ out_left (fault k (length x)) bytes x → n ≡ m → FrameSent (leb two 8192) (fault two (length out)) bytes out out' n
  pair_sent h e f said left g =
      let q = wrote (fault k) bytes out x out' m f said left n g in
      let t : leb two 8192 ≡ true = le-leb two 8192 h in
      let u : fault k (length out) ≡ fault two (length out) = ap (λ (j : ℕ). fault j (length out)) e in
      record {
        long = case_yes _ _ _ _ t (q.long ∙ ap (λ (f : ℕ). length_said f bytes) u);
        left = case_yes _ _ _ _ t (q.left ∙ ap (λ (f : ℕ). out_left f bytes (replicate (length out) 0xA5)) u);
      }

pub frame-sent :
    (a : Asked) (pixels : List ℕ) (list list' scratch scratch' : List ℤ) (out x out' : List ℕ) (two n : ℕ) (w : Result ℕ Refusal) →
    two ≤ 8192 → length scratch ≡ two → x ≡ replicate (length out) 0xA5 →
    AskedWritten a pixels list list' scratch scratch' x out' w → n ≡ count_of w →
    FrameSent (leb two 8192) (sent_fault a pixels (length list) two (length out)) (sent_bytes a pixels) out out' n
frame-sent a pixels list list' scratch scratch' out x out' two n w h k f p e =
    pair_sent (sent_fault a pixels (length list)) (sent_bytes a pixels) out x out' (length scratch) two n (count_of w) h k f p.wrote.said p.wrote.left e

pub short_sent :
    (j : Job) (old new picks : List ℕ) (list list' scratch scratch' : List ℤ) (out x out' : List ℕ) (two n : ℕ) (w : Result ℕ PlanRefusal) →
    two ≤ 8192 → length scratch ≡ two → x ≡ replicate (length out) 0xA5 →
    ShortWritten j.width j.height j.mode j.quants j.index old new picks list list' scratch scratch' x out' w → n ≡ short_count w →
    FrameSent (leb two 8192) (short_sent_fault j old new picks (length list) two (length out)) (short_sent_bytes j new picks) out out' n
short_sent j old new picks list list' scratch scratch' out x out' two n w h k f p e =
    pair_sent (short_sent_fault j old new picks (length list)) (short_sent_bytes j new picks) out x out' (length scratch) two n (short_count w) h k f
    p.wrote.said p.wrote.left e

-- with the first list, which is k long
module _ (fault : ℕ → ℕ) (bytes out out' : List ℕ) (k one two n : ℕ) where
  first_sent :
      one ≤ 8192 → k ≡ one → FrameSent (leb two 8192) (fault k) bytes out out' n → FrameSent (pair_fits one two) (fault one) bytes out out' n
  unfolding pair_fits
  first_sent h e p =
      let t : leb two 8192 ≡ (leb one 8192 ! false ⨾ leb two 8192) = passes _ _ _ _ (le-leb one 8192 h) refl in
      subst (λ (b : Bool). FrameSent b (fault one) bytes out out' n) t
      (subst (λ (j : ℕ). FrameSent (leb two 8192) (fault j) bytes out out' n) e p)

pub list_sent :
    (a : Asked) (pixels out out' : List ℕ) (k one two n : ℕ) → one ≤ 8192 → k ≡ one →
    FrameSent (leb two 8192) (sent_fault a pixels k two (length out)) (sent_bytes a pixels) out out' n →
    FrameSent (pair_fits one two) (sent_fault a pixels one two (length out)) (sent_bytes a pixels) out out' n
list_sent a pixels out out' k one two n h e p =
    first_sent (λ (j : ℕ). sent_fault a pixels j two (length out)) (sent_bytes a pixels) out out' k one two n h e p

pub short_list_sent :
    (j : Job) (old new picks out out' : List ℕ) (k one two n : ℕ) → one ≤ 8192 → k ≡ one →
    FrameSent (leb two 8192) (short_sent_fault j old new picks k two (length out)) (short_sent_bytes j new picks) out out' n →
    FrameSent (pair_fits one two) (short_sent_fault j old new picks one two (length out)) (short_sent_bytes j new picks) out out' n
short_list_sent j old new picks out out' k one two n h e p =
    first_sent (λ (i : ℕ). short_sent_fault j old new picks i two (length out)) (short_sent_bytes j new picks) out out' k one two n h e p

-- ---- the planner

pub plan_left : (w h : ℕ) (old new list list' : List ℕ) (r : Result ℕ Refusal) → PlanMade w h old new list list' r → PlanLeft w h old new list list'
plan_left w h old new list list' r p = p.left

-- ---- a hand-over to the collector

pub taken_made :
    (c : Collector) (bytes store store' : List ℕ) (t : Took) → said t store' ≡ collect_of (state c store) bytes → Taken c bytes store store' t.collector
taken_made c bytes store store' t e = record {
  collector = ap (λ (x : HandOver). x.step.state.collector) e;
  left = ap (λ (x : HandOver). x.step.state.store) e;
}
