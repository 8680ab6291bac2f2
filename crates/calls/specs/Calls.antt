-- The six calls as a customer sees them: what was given, what was answered, what lent memory holds afterwards (marked '), and that the
-- call's promise, which is its `ensures`, holds of them. Nothing else is known of a call. First the panel's own, then the same six for C, and
-- the frame writers over two sets and of listed tiles.
use Rattle.std.specs.Prelude.{ℕ, ◌≡◌, refl, List, ℤ, take, Result}
use Rattle.wire.specs.Refusal.{count_of}
use Rattle.wire.specs.declared.Refusal.{Refusal}
use Rattle.session.specs.declared.Session.{Session}
use Rattle.session.specs.Header.{header_record, header_reading}
use Rattle.headers.specs.Headers.{HeadersWritten}
use Rattle.code.specs.declared.read.Reading.{Reading}
use Rattle.code.specs.Read.{ComponentRead}
use Rattle.code_write.specs.Write.{ComponentWritten}
use Rattle.frame.specs.Frame.{FrameRead}
use Rattle.frame_write.specs.FrameWrite.{FrameWritten}
use Rattle.panel.specs.Edge.{ReadHeaderCall, frame_answer, ReadFrameCall, ReadComponentCall, WriteComponentCall, WriteHeadersCall, WriteFrameCall}
use Rattle.panel.specs.Cabinet.{WriteFrameSetsCall}
use Rattle.panel.specs.Short.{WriteShortCall}

-- read_header
pub record ReadHeader : Type 0 where
  pub session : Session
  pub message : List ℕ
  pub answer : Result Session Refusal
  pub promise : answer ≡ header_reading session message

-- the record after it
abbrev pub session_after : ReadHeader → Session
session_after c = header_record c.answer c.session

-- read_frame, and read_frame_32: word is 0 where the picture has words of 16 bits, 1 where it has words of 32
pub record ReadFrame : Type 0 where
  pub word : ℕ
  pub session : Session
  pub message : List ℕ
  pub picture : List ℕ
  pub y : List ℤ
  pub cb : List ℤ
  pub cr : List ℤ
  pub scratch : List ℤ
  pub picture' : List ℕ
  pub y' : List ℤ
  pub cb' : List ℤ
  pub cr' : List ℤ
  pub scratch' : List ℤ
  pub answer : Result ℕ Refusal
  pub promise : FrameRead word session message picture y cb cr scratch picture' y' cb' cr' scratch' answer

-- read_component
pub record ReadComponent : Type 0 where
  pub mode : ℕ
  pub bytes : List ℕ
  pub list : List ℤ
  pub list' : List ℤ
  pub answer : Reading
  pub promise : ComponentRead mode bytes list list' answer

-- write_component
pub record WriteComponent : Type 0 where
  pub mode : ℕ
  pub list : List ℤ
  pub out : List ℕ
  pub out' : List ℕ
  pub answer : Result ℕ Refusal
  pub promise : ComponentWritten mode list out out' answer

-- write_headers
pub record WriteHeaders : Type 0 where
  pub width : ℕ
  pub height : ℕ
  pub mode : ℕ
  pub out : List ℕ
  pub out' : List ℕ
  pub answer : Result ℕ Refusal
  pub promise : HeadersWritten width height mode out out' answer

-- write_frame
pub record WriteFrame : Type 0 where
  pub width : ℕ
  pub height : ℕ
  pub mode : ℕ
  pub quant : List ℕ
  pub index : ℕ
  pub pixels : List ℕ
  pub list : List ℤ
  pub scratch : List ℤ
  pub out : List ℕ
  pub list' : List ℤ
  pub scratch' : List ℤ
  pub out' : List ℕ
  pub answer : Result ℕ Refusal
  pub promise : FrameWritten width height mode quant index pixels list list' scratch scratch' out out' answer

-- what a writer has written: its output up to the length that it says
abbrev pub sent_by : Result ℕ Refusal → List ℕ → List ℕ
sent_by answer out' = take (count_of answer) out'

-- ---- for C (panel/src/edge.rt): `number` is what is returned; `tiles`, `bits` or `size` is what stands behind the last reference; and `session` is the record
-- behind its reference before the call, `session'` after it

-- xurbalenz_read_header
pub record CReadHeader : Type 0 where
  pub session : Session
  pub message : List ℕ
  pub session' : Session
  pub number : ℕ
  pub promise : ReadHeaderCall session session' message number

-- the call of the panel that it is
abbrev pub as_header : CReadHeader → ReadHeader
as_header c = record { session = c.session; message = c.message; answer = header_reading c.session c.message; promise = refl }

-- xurbalenz_read_frame, and xurbalenz_read_frame_32
pub record CReadFrame : Type 0 where
  pub word : ℕ
  pub session : Session
  pub message : List ℕ
  pub picture : List ℕ
  pub y : List ℤ
  pub cb : List ℤ
  pub cr : List ℤ
  pub scratch : List ℤ
  pub session' : Session
  pub picture' : List ℕ
  pub y' : List ℤ
  pub cb' : List ℤ
  pub cr' : List ℤ
  pub scratch' : List ℤ
  pub tiles : ℕ
  pub number : ℕ
  pub promise : ReadFrameCall word session session' message picture y cb cr scratch picture' y' cb' cr' scratch' tiles number

-- the call of the panel that it is
abbrev pub as_frame : CReadFrame → ReadFrame
as_frame c = record {
  word = c.word;
  session = c.session;
  message = c.message;
  picture = c.picture;
  y = c.y;
  cb = c.cb;
  cr = c.cr;
  scratch = c.scratch;
  picture' = c.picture';
  y' = c.y';
  cb' = c.cb';
  cr' = c.cr';
  scratch' = c.scratch';
  answer = frame_answer c.word c.session c.message c.picture c.y c.cb c.cr c.scratch;
  promise = c.promise.lists;
}

-- xurbalenz_read_component
pub record CReadComponent : Type 0 where
  pub mode : ℕ
  pub bytes : List ℕ
  pub list : List ℤ
  pub list' : List ℤ
  pub bits : ℕ
  pub number : ℕ
  pub promise : ReadComponentCall mode bytes list list' bits number

-- xurbalenz_write_component
pub record CWriteComponent : Type 0 where
  pub mode : ℕ
  pub list : List ℤ
  pub out : List ℕ
  pub out' : List ℕ
  pub size : ℕ
  pub number : ℕ
  pub promise : WriteComponentCall mode list out out' size number

-- xurbalenz_write_headers
pub record CWriteHeaders : Type 0 where
  pub width : ℕ
  pub height : ℕ
  pub mode : ℕ
  pub out : List ℕ
  pub out' : List ℕ
  pub size : ℕ
  pub number : ℕ
  pub promise : WriteHeadersCall width height mode out out' size number

-- xurbalenz_write_frame
pub record CWriteFrame : Type 0 where
  pub width : ℕ
  pub height : ℕ
  pub mode : ℕ
  pub quant : List ℕ
  pub index : ℕ
  pub pixels : List ℕ
  pub list : List ℤ
  pub scratch : List ℤ
  pub out : List ℕ
  pub list' : List ℤ
  pub scratch' : List ℤ
  pub out' : List ℕ
  pub size : ℕ
  pub number : ℕ
  pub promise : WriteFrameCall width height mode quant index pixels list list' scratch scratch' out out' size number

-- xurbalenz_write_frame_sets: ten quantisers for Y, ten for Cb and Cr
pub record CWriteFrameSets : Type 0 where
  pub width : ℕ
  pub height : ℕ
  pub mode : ℕ
  pub luma : List ℕ
  pub chroma : List ℕ
  pub index : ℕ
  pub pixels : List ℕ
  pub list : List ℤ
  pub scratch : List ℤ
  pub out : List ℕ
  pub list' : List ℤ
  pub scratch' : List ℤ
  pub out' : List ℕ
  pub size : ℕ
  pub number : ℕ
  pub promise : WriteFrameSetsCall width height mode luma chroma index pixels list list' scratch scratch' out out' size number

-- xurbalenz_write_frame_short
pub record CWriteShort : Type 0 where
  pub width : ℕ
  pub height : ℕ
  pub mode : ℕ
  pub luma : List ℕ
  pub chroma : List ℕ
  pub index : ℕ
  pub old : List ℕ
  pub new : List ℕ
  pub picks : List ℕ
  pub list : List ℤ
  pub scratch : List ℤ
  pub out : List ℕ
  pub list' : List ℤ
  pub scratch' : List ℤ
  pub out' : List ℕ
  pub size : ℕ
  pub number : ℕ
  pub promise : WriteShortCall width height mode luma chroma index old new picks list list' scratch scratch' out out' size number

-- ---- any number of header and frame calls, one after the other on one record: from what it was to what it is then
pub data OnOneRecord : Session → Session → Type 0 where
  no_call : {s : Session} → OnOneRecord s s
  header : {t : Session} (c : CReadHeader) → OnOneRecord c.session' t → OnOneRecord c.session t
  frame : {t : Session} (c : CReadFrame) → OnOneRecord c.session' t → OnOneRecord c.session t
