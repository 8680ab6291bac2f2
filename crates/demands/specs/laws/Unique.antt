-- "For any input whatever, a public function's promise leaves one possible answer and one possible content of lent memory": the proof of `OneAnswer`, a law
-- for each call. What was given to the second call is put for what was given to the first; then both promises say the same.
use Rattle.std.specs.Prelude.{ℕ, ◌<◌, ◌≡◌, refl, length}
use Rattle.std.proofs.Common.{sym, ◌∙◌, arith}
use Rattle.wire.specs.Le.{bytes16, bytes32}
use Rattle.wire.specs.laws.Wrote.{wrote_once}
use Rattle.headers.specs.Headers.{sync_of, versions_of, channels_of, context_of, headers_of, HeadersWritten}
use Rattle.code.specs.Read.{ComponentRead}
use Rattle.code.specs.laws.OneCode.{read_once}
use Rattle.code_write.specs.Write.{ComponentWritten}
use Rattle.code_write.specs.laws.Once.{write_once}
use Rattle.frame.specs.Frame.{FrameRead}
use Rattle.frame.specs.laws.Glass.{one_frame}
use Rattle.frame_write.specs.FrameWrite.{FrameWritten}
use Rattle.frame_write.specs.laws.OneSet.{frame_once}
use Rattle.calls.specs.Calls.{ReadHeader, ReadFrame, ReadComponent, WriteComponent, WriteHeaders, WriteFrame}
use Rattle.demands.specs.Demands.{OneAnswer}

pub header_once : (c d : ReadHeader) → c.session ≡ d.session → c.message ≡ d.message → c.answer ≡ d.answer
header_once c d s m = c.promise ∙ rw (s, m) (sym d.promise)

pub frame_read_once :
    (c d : ReadFrame) → c.word ≡ d.word → c.session ≡ d.session → c.message ≡ d.message → c.picture ≡ d.picture →
    c.y ≡ d.y → c.cb ≡ d.cb → c.cr ≡ d.cr → c.scratch ≡ d.scratch →
    (c.answer ≡ d.answer) × (c.picture' ≡ d.picture') × (c.y' ≡ d.y') × (c.cb' ≡ d.cb') × (c.cr' ≡ d.cr') × (c.scratch' ≡ d.scratch')
frame_read_once c d n s m p y b r t =
    let e : FrameRead c.word c.session c.message c.picture c.y c.cb c.cr c.scratch d.picture' d.y' d.cb' d.cr'
    d.scratch' d.answer =
    rw (n, s, m, p, y, b, r, t) d.promise in
    let o = one_frame _ _ _ _ _ _ _ _ _ _ _ _ _ _ _ _ _ _ _ _ c.promise e in
    (o.answer, o.picture, o.y_list, o.cb_list, o.cr_list, o.tmp_list)

pub component_once : (c d : ReadComponent) → c.mode ≡ d.mode → c.bytes ≡ d.bytes → c.list ≡ d.list → (c.answer ≡ d.answer) × (c.list' ≡ d.list')
component_once c d m b l =
    let e : ComponentRead c.mode c.bytes c.list d.list' d.answer = rw (m, b, l) d.promise in
    read_once _ _ _ _ _ _ _ c.promise e

pub written_once : (c d : WriteComponent) → c.mode ≡ d.mode → c.list ≡ d.list → c.out ≡ d.out → (c.answer ≡ d.answer) × (c.out' ≡ d.out')
written_once c d m l o =
    let e : ComponentWritten c.mode c.list c.out d.out' d.answer = rw (m, l, o) d.promise in
    write_once c.mode c.list c.out c.out' d.out' c.answer d.answer c.promise e

headers_long : (w h et : ℕ) → length (headers_of w h et) ≡ 47
unfolding headers_of sync_of versions_of channels_of context_of bytes16 bytes32
headers_long w h et = refl

some_headers : (w h et : ℕ) → 0 < length (headers_of w h et)
some_headers w h et = omega (arith, headers_long w h et)

pub headers_once :
    (c d : WriteHeaders) → c.width ≡ d.width → c.height ≡ d.height → c.mode ≡ d.mode → c.out ≡ d.out → (c.answer ≡ d.answer) × (c.out' ≡ d.out')
headers_once c d w h m o =
    let e : HeadersWritten c.width c.height c.mode c.out d.out' d.answer = rw (w, h, m, o) d.promise in
    wrote_once _ _ c.out c.out' d.out' c.answer d.answer (λ z. some_headers c.width c.height c.mode) c.promise e

pub frame_written_once :
    (c d : WriteFrame) → c.width ≡ d.width → c.height ≡ d.height → c.mode ≡ d.mode → c.quant ≡ d.quant → c.index ≡ d.index →
    c.pixels ≡ d.pixels → c.list ≡ d.list → c.scratch ≡ d.scratch → c.out ≡ d.out →
    (c.answer ≡ d.answer) × (c.list' ≡ d.list') × (c.scratch' ≡ d.scratch') × (c.out' ≡ d.out')
frame_written_once c d w h m q i p l s o =
    let e : FrameWritten c.width c.height c.mode c.quant c.index c.pixels c.list d.list' c.scratch d.scratch' c.out
    d.out' d.answer =
    rw (w, h, m, q, i, p, l, s, o) d.promise in
    frame_once _ _ _ _ _ _ _ _ _ _ _ _ _ _ _ _ _ c.promise e

pub one_answer : OneAnswer
one_answer = record {
  read-header = header_once;
  read-frame = frame_read_once;
  read-component = component_once;
  write-component = written_once;
  write-headers = headers_once;
  write-frame = frame_written_once;
}
