-- The demands are met: `demands`, from the theorems of session, headers, code, code_write, frame, frame_write and frame_readback.
-- Assumes nothing.
use Rattle.std.specs.Prelude.{Result}
use Prim.Native.Nat.{ℕ, zero, suc, ◌*◌, ◌≤◌}
use Rattle.wire.specs.Refusal.{number_of, count_of}
use mathlib.Core.Path.{◌≡◌, refl, ap, subst, subst⁻¹, ◌∙◌, sym}
use mathlib.Core.Bool.{Bool, true, false}
use mathlib.Core.List.{List, [], ◌∷◌}
use mathlib.Core.Logic.{◌≢◌}
use native.Mathlib.Omega.{arith}
use lib.Dec.{eqb}
use lib.ListN.{length, get_or}
use borrow.Author.Tests.{eqb-true, eqb-false}
use Rattle.whole.specs.Among.{among, Among}
use Rattle.whole.specs.laws.Among.{each, among_most}
use Rattle.wire.specs.declared.Refusal.{Refusal}
use Rattle.wire.specs.Wrote.{length_said, out_left, Wrote}
use Rattle.session.specs.declared.Session.{Session}
use Rattle.session.specs.Header.{record_of, kept_glass}
use Rattle.session.specs.laws.Header.{glass_kept}
use Rattle.session.specs.laws.Numbers.{header_among}
use Rattle.session.specs.laws.Cases as HeaderOnesLaws
use Rattle.headers.specs.Headers.{HeadersWritten}
use Rattle.headers.specs.laws.Headers.{headers_among}
use Rattle.headers.specs.laws.ReadBack.{our_headers}
use Rattle.code.specs.Read.{reading_number, reading_bits, read_fault, read_bits, ComponentRead}
use Rattle.code.specs.laws.OneCode.{done_if, done_only_if, start_once, behind_bits}
use Rattle.code.specs.laws.Numbers as CodeNumbers
use Rattle.code.specs.laws.Cases as CodeOnesLaws
use Rattle.code_write.specs.laws.Write.{write_among}
use Rattle.code_write.specs.laws.Once.{writer_reader}
use Rattle.code_write.specs.laws.Cases.{write_cases}
use Rattle.tile_back.specs.laws.Cases as TileOnesLaws
use Rattle.frame_blocks.specs.laws.Cases.{props_cases}
use Rattle.frame_pieces.specs.laws.Cases as SendOnesLaws
use Rattle.frame.specs.Frame.{frame_number, FrameRead}
use Rattle.frame.specs.laws.Glass.{number_is, refused, accepted, shown_pixel, shown_past, shown_length}
use Rattle.frame.specs.laws.Numbers.{frame_among, untouched, cleared}
use Rattle.frame_write.specs.laws.Numbers as SendNumbers
use Rattle.bounds.specs.laws.Refuses.{writer_refuses, writer_done}
use Rattle.frame_write.specs.laws.OneSet.{as_over}
use Rattle.frame_readback.specs.laws.OurFrames.{our_own_frames}
use Rattle.frame_readback.specs.laws.Request.{two_sets}
use Rattle.short_readback.specs.laws.Request.{request_eleven_frames}
use Rattle.calls.specs.Calls.{ReadHeader, ReadFrame, ReadComponent, WriteComponent, WriteHeaders, WriteFrame, sent_by}
use Rattle.calls.specs.laws.Calls.{header-number, header_taken, header_refused, taken_by}
use Rattle.day.specs.laws.Days.{days}
use Rattle.demands.specs.Demands.{first_fault, Untouched, Demand1, OurCalls, OurFrame, Sent, Demand2, Demand3, SmallNumbers, PaperCases, Demands}
use Rattle.demands.specs.laws.Unique.{one_answer}
use Rattle.demands.specs.laws.Edge.{one_answer_c}
use Rattle.demands.specs.laws.EveryCall.{every_call}
use Rattle.demands.specs.laws.ForC.{edge_demands}
use Rattle.demands.specs.laws.Right.{record_right, record_glass}
use Rattle.demands.specs.laws.ShortForC.{eleven_for_c}

-- ---- the frame call

module _ (c : ReadFrame) where
  abbrev number : ℕ
  number = number_of c.answer

  frame-number : number ≡ first_fault c
  unfolding frame_number
  frame-number = number_is _ _ _ _ _ _ _ _ _ _ _ _ _ _ c.promise

  frame_refused : number ≢ 0 → (c.picture' ≡ c.picture) × (count_of c.answer ≡ 0)
  frame_refused h = refused _ _ _ _ _ _ _ _ _ _ _ _ _ _ c.promise h

  lists_untouched : Among (12 ∷ 2 ∷ []) number → Untouched c
  lists_untouched e =
      let u = untouched _ _ _ _ _ _ _ _ _ _ _ _ _ _ c.promise e in
      record { y_kept = u.y_is; cb_kept = u.cb_is; cr_kept = u.cr_is; scratch_kept = u.tmp_is }

  frame_past : (i : ℕ) (b : Bool) → eqb number 0 ≡ b → c.session.height * c.session.width ≤ i → get_or c.picture' i 0 ≡ get_or c.picture i 0
  frame_past i true e l = shown_past _ _ _ _ _ _ _ _ _ _ _ _ _ _ c.promise (eqb-true number 0 e) i l
  frame_past i false e l = ap (λ (p : List ℕ). get_or p i 0) (frame_refused (eqb-false number 0 e)).0

  frame_long : (b : Bool) → eqb number 0 ≡ b → length c.picture' ≡ length c.picture
  frame_long true e = shown_length _ _ _ _ _ _ _ _ _ _ _ _ _ _ c.promise (eqb-true number 0 e)
  frame_long false e = ap length (frame_refused (eqb-false number 0 e)).0

-- ---- the writers

sent-by : (f : ℕ) (bytes out out' : List ℕ) (r : Result ℕ Refusal) → Wrote f bytes out out' r → Sent bytes out out' r
unfolding length_said out_left
sent-by zero bytes out out' r w =
    record
    { done_length = λ e. w.said; done_output = λ e. w.left; refused_length = λ h. absurd (h w.number); refused_output = λ h. absurd (h w.number) }
sent-by (suc f) bytes out out' r w =
    record {
      done_length = λ e. absurd (omega (arith, w.number, e));
      done_output = λ e. absurd (omega (arith, w.number, e));
      refused_length = λ h. w.said;
      refused_output = λ h. w.left;
    }

-- ---- the component reader

component-number : (c : ReadComponent) → reading_number c.answer ≡ read_fault c.mode (length c.list) c.bytes
component-number c = CodeNumbers.read_number _ _ _ _ _ c.promise

-- a call on what a writer has written
read_from :
    (w : WriteComponent) (c : ReadComponent) → c.mode ≡ w.mode → c.bytes ≡ sent_by w.answer w.out' →
    ComponentRead w.mode (sent_by w.answer w.out') c.list c.list' c.answer
read_from w c m b = rw (← m, ← b) c.promise

-- ---- our own frames

module _ (h : WriteHeaders) (one two three four : ReadHeader) (s : WriteFrame) (f : ReadFrame) (o : OurCalls h one two three four s f) where
  wrote : HeadersWritten s.width s.height s.mode h.out h.out' h.answer
  wrote = rw (o.same_width, o.same_height, o.same_mode) h.promise

  abbrev ReadFor : Session → Type 0
  ReadFor x =
      FrameRead f.word x (sent_by s.answer s.out') f.picture f.y f.cb f.cr f.scratch
      f.picture' f.y' f.cb' f.cr' f.scratch' f.answer

  glass : ReadFor f.session
  glass = rw (← o.frame) f.promise

  our_frame : OurFrame one two three four s f
  our_frame =
      let t = our_headers one.session s.width s.height s.mode h.out h.out' h.answer wrote o.headers_done in
      let a = taken_by one one.session _ _ refl o.sync t.one in
      let b = taken_by two _ _ _ (o.then_two ∙ a.1) o.versions t.two in
      let c = taken_by three _ _ _ (o.then_three ∙ b.1) o.channels t.three in
      let d = taken_by four _ _ _ (o.then_four ∙ c.1) o.context t.four in
      let e : record_of (kept_glass one.session.glass) 4 s.width s.height s.mode ≡ record_of f.word 4 s.width s.height s.mode =
      ap (λ (g : ℕ). record_of g 4 s.width s.height s.mode) (sym o.glass) in
      let either : f.word ≤ 1 = subst⁻¹ (λ (g : ℕ). g ≤ 1) o.glass (glass_kept one.session.glass) in
      let r = our_own_frames f.word one.session s.width s.height s.mode h.out h.out' h.answer either wrote o.headers_done
      s.quant s.index s.pixels s.list s.list' s.scratch s.scratch' s.out s.out' s.answer o.ten s.promise o.frame_done
      f.picture f.y f.cb f.cr f.scratch f.picture' f.y' f.cb' f.cr' f.scratch' f.answer
      o.y_long o.cb_long o.cr_long o.scratch_long o.room (subst ReadFor (o.then_frame ∙ d.1 ∙ e) glass) in
      record {
        sync_taken = a.0;
        versions_taken = b.0;
        channels_taken = c.0;
        context_taken = d.0;
        accepted = r.1.number;
        tiles = r.1.tiles;
        word = r.1.word;
        past = r.1.past;
        long = r.1.long;
      }

-- ---- no number is above 13

small_numbers : SmallNumbers
unfolding each among
small_numbers = record {
  read-header = λ c. subst⁻¹ (λ (n : ℕ). n ≤ 13) (header-number c) (among_most 13 (header_among c.session c.message) refl);
  read-frame = λ c. among_most 13 (frame_among _ _ _ _ _ _ _ _ _ _ _ _ _ _ c.promise) refl;
  read-component = λ c. subst⁻¹ (λ (n : ℕ). n ≤ 13) (component-number c) (among_most 13 (CodeNumbers.fault_among c.mode (length c.list) c.bytes) refl);
  write-component = λ c. subst⁻¹ (λ (n : ℕ). n ≤ 13) c.promise.number (among_most 13 (write_among c.mode c.list (length c.out)) refl);
  write-headers = λ c. subst⁻¹ (λ (n : ℕ). n ≤ 13) c.promise.number (among_most 13 (headers_among c.width c.height c.mode (length c.out)) refl);
  write-frame = λ c. among_most 13 (SendNumbers.frame_written_among _ _ _ _ _ _ _ _ _ _ _ _ _ (as_over _ _ _ _ _ _ _ _ _ _ _ _ _ c.promise)) refl;
}

-- ---- the demands

demand_1 : Demand1
demand_1 = record {
  header-number = header-number;
  frame-number = frame-number;
  frame_whole = λ c k. (accepted _ _ _ _ _ _ _ _ _ _ _ _ _ _ c.promise k).drawn;
  header_taken = header_taken;
  header_refused = header_refused;
  frame_refused = λ c h. (frame_refused c h).0;
  lists_untouched = lists_untouched;
  lists_zeros = λ c o. cleared _ _ _ _ _ _ _ _ _ _ _ _ _ _ c.promise o;
  list_untouched = λ c e. CodeNumbers.list_untouched _ _ _ _ _ c.promise e;
  list_zeros = λ c e. CodeNumbers.list_zeros _ _ _ _ _ c.promise e;
}

demand_2 : Demand2
demand_2 = record {
  pixel = λ c k px py a b. shown_pixel _ _ _ _ _ _ _ _ _ _ _ _ _ _ c.promise k px py a b;
  past = λ c i l. frame_past c i _ refl l;
  long = λ c. frame_long c _ refl;
  tiles = λ c k. (accepted _ _ _ _ _ _ _ _ _ _ _ _ _ _ c.promise k).counted;
  no_tiles = λ c h. (frame_refused c h).1;
  our_frames = our_frame;
  frame-writer = λ c. c.promise.wrote.number;
  header_writer = λ c. c.promise.number;
  frame-sent = λ c. sent-by _ _ _ _ _ c.promise.wrote;
  headers_sent = λ c. sent-by _ _ _ _ _ c.promise;
  writer_refuses = λ c b. writer_refuses b c.promise;
  writer_done = λ c b e ten l. writer_done b c.promise (sym e) ten l;
  work_untouched = λ c e. SendNumbers.work_untouched _ _ _ _ _ _ _ _ _ _ _ _ _ (as_over _ _ _ _ _ _ _ _ _ _ _ _ _ c.promise) e;
  work_zeros = λ c o. SendNumbers.work_zeros _ _ _ _ _ _ _ _ _ _ _ _ _ (as_over _ _ _ _ _ _ _ _ _ _ _ _ _ c.promise) o;
}

demand_3 : Demand3
unfolding read_bits
demand_3 = record {
  component-number = component-number;
  accepted_if = λ c zs e. done_if c.mode c.bytes c.list c.list' c.answer c.promise zs e;
  accepted_only_if = λ c k. done_only_if c.mode c.bytes c.list c.list' c.answer c.promise k;
  one_code = start_once;
  length_told = λ c zs rest a l e. ap reading_bits c.promise.answer ∙ behind_bits c.mode c.bytes c.list zs a l rest e;
  writer_number = λ c. c.promise.number;
  writer_sent = λ c. sent-by _ _ _ _ _ c.promise;
  read_back = λ w c k m b l.
      writer_reader w.mode w.list c.list c.list' w.out w.out' w.answer c.answer w.promise k l (read_from w c m b);
}

paper : PaperCases
paper = record {
  read = CodeOnesLaws.cases;
  sent = write_cases;
  tile = TileOnesLaws.cases;
  headers = HeaderOnesLaws.cases;
  tileset = props_cases;
  writer = SendOnesLaws.cases;
}

pub demands : Demands
demands = record {
  one = demand_1;
  two = demand_2;
  three = demand_3;
  once = one_answer;
  once_for_c = one_answer_c;
  for_c = edge_demands demand_1 demand_2 demand_3;
  every_call = every_call;
  five = two_sets;
  six = record_right;
  eleven = request_eleven_frames;
  eleven_for_c = eleven_for_c;
  thirteen = record_glass;
  fourteen = days;
  small = small_numbers;
  cases = paper;
}
