-- The calls for C are the panel's own: each promise gives back a call of calls/specs/Calls, so the demands hold of it too. And each promise leaves one number,
-- one value and one content of every list (`OneAnswerC`).
use Rattle.std.specs.Prelude.{ℕ, ◌≤◌, ◌≡◌, refl, List, ℤ, length}
use Rattle.wire.specs.Refusal.{number_of, count_of}
use Rattle.std.proofs.Common.{sym, ◌∙◌, subst, ap₂}
use Rattle.whole.specs.Among.{among}
use Rattle.whole.specs.laws.Among.{each, among_most}
use Rattle.headers.specs.laws.Headers.{headers_among}
use Rattle.code_write.specs.laws.Write.{write_among}
use Rattle.frame_write.specs.laws.OneSet.{one_args, one_send}
use Rattle.quants.specs.Quants.{one_for}
use Rattle.panel.specs.laws.Cabinet.{over_few}
use Rattle.whole.specs.Row.{◌⨟◌}
use Rattle.wire.specs.Wrote.{Wrote}
use Rattle.wire.specs.laws.Wrote.{answer_of, answer_number, answer_length, answer_wrote}
use Rattle.session.specs.declared.Session.{Session}
use Rattle.headers.specs.Headers.{headers_of, headers_fault}
use Rattle.code.specs.Read.{reading_number, reading_bits, reading}
use Rattle.code.specs.laws.OneCode.{read_once}
use Rattle.code_write.specs.Write.{bytes_of, write_fault}
use Rattle.frame.specs.laws.Glass.{one_frame}
use Rattle.frame_write.specs.Encode.{picture_frame}
use Rattle.frame_write.specs.FrameWrite.{arg_fault, send_fault}
use Rattle.panel.specs.Edge.{ReadFrameCall, WriterCall, WriteFrameCall}
use Rattle.calls.specs.Calls.{session_after, ReadComponent, WriteComponent, WriteHeaders, WriteFrame}
use Rattle.calls.specs.Calls.{CReadHeader, as_header, CReadFrame, as_frame, CReadComponent, CWriteComponent, CWriteHeaders, CWriteFrame}
use Rattle.demands.specs.Demands.{OneAnswerC}

-- ---- each is a call of calls/specs/Calls, so the demands hold of it; the number and the value that it hands out are that call's (`as_header` and `as_frame`
-- stand there)

pub header_is : (c : CReadHeader) → (c.number ≡ number_of (as_header c).answer) × (c.session' ≡ session_after (as_header c))
header_is c = (c.promise.number, c.promise.session)

pub frame_is : (c : CReadFrame) → (c.number ≡ number_of (as_frame c).answer) × (c.tiles ≡ count_of (as_frame c).answer)
frame_is c = (c.promise.number, c.promise.count)

abbrev pub as_read : CReadComponent → ReadComponent
as_read c =
    record {
      mode = c.mode;
      bytes = c.bytes;
      list = c.list;
      list' = c.list';
      answer = reading c.mode (length c.list) c.bytes;
      promise = c.promise.list;
    }

pub read_is : (c : CReadComponent) → (c.number ≡ reading_number (as_read c).answer) × (c.bits ≡ reading_bits (as_read c).answer)
read_is c = (c.promise.number, c.promise.long)

module _ (f : ℕ) (bytes out out' : List ℕ) (size n : ℕ) (few : f ≤ 13) (x : WriterCall f bytes out out' size n) where
  pub as_wrote : Wrote f bytes out out' (answer_of f bytes)
  as_wrote = answer_wrote f bytes out out' few x.left

  pub wrote_is : (n ≡ number_of (answer_of f bytes)) × (size ≡ count_of (answer_of f bytes))
  wrote_is = (x.number ∙ sym (answer_number f bytes few), x.long ∙ sym (answer_length f bytes))

pub write_few : (c : CWriteComponent) → write_fault c.mode c.list (length c.out) ≤ 13
unfolding each among
write_few c = among_most 13 (write_among c.mode c.list (length c.out)) refl

abbrev pub as_write : CWriteComponent → WriteComponent
as_write c = record {
  mode = c.mode;
  list = c.list;
  out = c.out;
  out' = c.out';
  answer = answer_of (write_fault c.mode c.list (length c.out)) (bytes_of c.mode c.list);
  promise = as_wrote _ _ c.out c.out' c.size c.number (write_few c) c.promise;
}

pub write_is : (c : CWriteComponent) → (c.number ≡ number_of (as_write c).answer) × (c.size ≡ count_of (as_write c).answer)
write_is c = wrote_is _ _ c.out c.out' c.size c.number (write_few c) c.promise

pub headers_few : (c : CWriteHeaders) → headers_fault c.width c.height c.mode (length c.out) ≤ 13
unfolding each among
headers_few c = among_most 13 (headers_among c.width c.height c.mode (length c.out)) refl

abbrev pub as_headers : CWriteHeaders → WriteHeaders
as_headers c = record {
  width = c.width;
  height = c.height;
  mode = c.mode;
  out = c.out;
  out' = c.out';
  answer = answer_of (headers_fault c.width c.height c.mode (length c.out)) (headers_of c.width c.height c.mode);
  promise = as_wrote _ _ c.out c.out' c.size c.number (headers_few c) c.promise;
}

pub headers_is : (c : CWriteHeaders) → (c.number ≡ number_of (as_headers c).answer) × (c.size ≡ count_of (as_headers c).answer)
headers_is c = wrote_is _ _ c.out c.out' c.size c.number (headers_few c) c.promise

abbrev pub send_number : CWriteFrame → ℕ
send_number c =
    arg_fault c.width c.height c.mode c.quant (length c.pixels) (length c.list) (length c.scratch)
    ⨟ send_fault c.index c.width c.height c.mode c.quant c.pixels (length c.out)

pub send_few : (c : CWriteFrame) → send_number c ≤ 13
send_few c =
    subst (λ (n : ℕ). n ≤ 13)
    (ap₂ (λ (a b : ℕ). a ⨟ b) (one_args c.width c.height c.mode c.quant (length c.pixels) (length c.list) (length c.scratch))
    (one_send c.pixels c.width c.height c.mode c.quant c.index (length c.out)))
    (over_few c.width c.height c.mode (one_for c.quant) c.index c.pixels c.list c.scratch c.out)

abbrev pub as_send : CWriteFrame → WriteFrame
as_send c = record {
  width = c.width;
  height = c.height;
  mode = c.mode;
  quant = c.quant;
  index = c.index;
  pixels = c.pixels;
  list = c.list;
  scratch = c.scratch;
  out = c.out;
  list' = c.list';
  scratch' = c.scratch';
  out' = c.out';
  answer = answer_of (send_number c) (picture_frame c.index c.width c.height c.mode c.quant c.pixels);
  promise =
      record { wrote = as_wrote _ _ c.out c.out' c.size c.number (send_few c) c.promise.wrote; first = c.promise.first; second = c.promise.second };
}

pub send_is : (c : CWriteFrame) → (c.number ≡ number_of (as_send c).answer) × (c.size ≡ count_of (as_send c).answer)
send_is c = wrote_is _ _ c.out c.out' c.size c.number (send_few c) c.promise.wrote

-- ---- one answer

frame_call_once :
    (word : ℕ) (s s₁ s₂ : Session) (m pic : List ℕ) (y cb cr tmp : List ℤ) (p₁ p₂ : List ℕ) (y₁ y₂ b₁ b₂ r₁ r₂ t₁ t₂ : List ℤ) (k₁ k₂ n₁ n₂ : ℕ) →
    ReadFrameCall word s s₁ m pic y cb cr tmp p₁ y₁ b₁ r₁ t₁ k₁ n₁ → ReadFrameCall word s s₂ m pic y cb cr tmp p₂ y₂ b₂ r₂ t₂ k₂ n₂ →
    (n₁ ≡ n₂) × (k₁ ≡ k₂) × (s₁ ≡ s₂) × (p₁ ≡ p₂) × (y₁ ≡ y₂) × (b₁ ≡ b₂) × (r₁ ≡ r₂) × (t₁ ≡ t₂)
frame_call_once word s s₁ s₂ m pic y cb cr tmp p₁ p₂ y₁ y₂ b₁ b₂ r₁ r₂ t₁ t₂ k₁ k₂ n₁ n₂ x z =
    let o = one_frame word s m pic y cb cr tmp p₁ y₁ b₁ r₁ t₁ _ p₂ y₂ b₂ r₂ t₂ _ x.lists z.lists in
    (x.number ∙ sym z.number, x.count ∙ sym z.count, x.session ∙ sym z.session, o.picture, o.y_list, o.cb_list, o.cr_list, o.tmp_list)

-- every writer's
pub write_call_once :
    (f : ℕ) (bytes out o₁ o₂ : List ℕ) (k₁ k₂ n₁ n₂ : ℕ) → WriterCall f bytes out o₁ k₁ n₁ → WriterCall f bytes out o₂ k₂ n₂ → (n₁ ≡ n₂) × (k₁ ≡ k₂) × (o₁ ≡ o₂)
write_call_once f bytes out o₁ o₂ k₁ k₂ n₁ n₂ x y = (x.number ∙ sym y.number, x.long ∙ sym y.long, x.left ∙ sym y.left)

frame_write_once :
    (w h mode : ℕ) (q : List ℕ) (index : ℕ) (p : List ℕ) (list l₁ l₂ scratch t₁ t₂ : List ℤ) (out o₁ o₂ : List ℕ) (k₁ k₂ n₁ n₂ : ℕ) →
    WriteFrameCall w h mode q index p list l₁ scratch t₁ out o₁ k₁ n₁ → WriteFrameCall w h mode q index p list l₂ scratch t₂ out o₂ k₂ n₂ →
    (n₁ ≡ n₂) × (k₁ ≡ k₂) × (l₁ ≡ l₂) × (t₁ ≡ t₂) × (o₁ ≡ o₂)
frame_write_once w h mode q index p list l₁ l₂ scratch t₁ t₂ out o₁ o₂ k₁ k₂ n₁ n₂ x y =
    let o = write_call_once _ _ out o₁ o₂ k₁ k₂ n₁ n₂ x.wrote y.wrote in
    (o.0, o.1, x.first ∙ sym y.first, x.second ∙ sym y.second, o.2)

pub one_answer_c : OneAnswerC
one_answer_c = record {
  read-header = λ s s₁ s₂ m n₁ n₂ x y. (x.number ∙ sym y.number, x.session ∙ sym y.session);
  read-frame = frame_call_once;
  read-component = λ mode s list l₁ l₂ k₁ k₂ n₁ n₂ x y.
      (x.number ∙ sym y.number, x.long ∙ sym y.long, (read_once mode s list l₁ l₂ _ _ x.list y.list).1);
  write-component = λ mode zs out o₁ o₂ k₁ k₂ n₁ n₂ x y. write_call_once _ _ out o₁ o₂ k₁ k₂ n₁ n₂ x y;
  write-headers = λ w h mode out o₁ o₂ k₁ k₂ n₁ n₂ x y. write_call_once _ _ out o₁ o₂ k₁ k₂ n₁ n₂ x y;
  write-frame = frame_write_once;
}
