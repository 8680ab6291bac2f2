-- What demand 2 asks of our own calls (`OurCalls`) is met: one grey pixel, ten quantisers of 6, in both modes, on either glass.
-- Assumes nothing.
use Rattle.std.specs.Prelude.{Ok}
use Prim.Native.Nat.{ℕ, ◌≤◌}
use mathlib.Core.Path.{◌≡◌, refl, sym, ◌∙◌}
use mathlib.Core.Bool.{true}
use mathlib.Core.List.{List, [], ◌∷◌}
use native.Mathlib.Omega.{arith}
use lib.IntN.{ℤ, pos}
use lib.ListN.{length, take, drop, replicate}
use borrow.Author.Tests.{le-leb}
use Rattle.whole.specs.Row.{◌!◌⨾◌}
use Rattle.whole.specs.laws.Row.{passes, goes_on}
use Rattle.bands.specs.Bands.{good_to}
use Rattle.session.specs.declared.Session.{Session}
use Rattle.session.specs.Header.{record_of, size_good, header_reading}
use Rattle.session.specs.laws.Header.{kept-glass}
use Rattle.wire.specs.Le.{written}
use Rattle.wire.specs.Mode.{is_mode}
use Rattle.wire.specs.laws.Mode.{is_1, is_4}
use Rattle.wire.specs.laws.Wrote.{done}
use Rattle.headers.specs.Headers.{headers_of, headers_fault}
use Rattle.frame.specs.Frame.{call_fault, frame_number, frame_picture, frame_list, frame_reading}
use Rattle.frame_write.specs.Encode.{picture_frame}
use Rattle.frame_write.specs.FrameWrite.{arg_fault, send_fault}
use Rattle.quants.specs.Quants.{one_for}
use Rattle.frame_write.specs.laws.FrameWrite.{cleared}
use Rattle.frame_write.specs.laws.OneSet.{one_refusals}
use Rattle.frame_pieces.specs.Parts.{tiles_no, pixels_good}
use Rattle.frame_readback.specs.laws.OurTiles.{Sendable}
use Rattle.frame_readback.specs.laws.Grey.{grey, sixes, sendable_1, sendable_4}
use Rattle.calls.specs.Calls.{ReadHeader, session_after, ReadFrame, WriteHeaders, WriteFrame, sent_by}
use Rattle.demands.specs.Demands.{OurCalls}

abbrev zeros : List ℤ
zeros = replicate 4096 (pos 0)

-- a header call on a message
abbrev asked : Session → List ℕ → ReadHeader
asked s m = record { session = s; message = m; answer = header_reading s m; promise = refl }

-- a frame call on a message, a picture of one word
abbrev drawn : ℕ → Session → List ℕ → ReadFrame
drawn word s m =
    let f : ℕ = call_fault word s 1 4096 4096 4096 4096 in
    record {
      word = word;
      session = s;
      message = m;
      picture = 0 ∷ [];
      y = zeros;
      cb = zeros;
      cr = zeros;
      scratch = zeros;
      picture' = frame_picture (frame_number f s m) s m (0 ∷ []);
      y' = frame_list f zeros;
      cb' = frame_list f zeros;
      cr' = frame_list f zeros;
      scratch' = frame_list f zeros;
      answer = frame_reading (frame_number f s m) m;
      promise = record { answer = refl; picture = refl; y_list = refl; cb_list = refl; cr_list = refl; tmp_list = refl };
    }

module _ (glass : ℕ) (either : glass ≤ 1) (mode : ℕ) (good : is_mode mode ≡ true) (sendable : Sendable grey 1 1 mode (one_for sixes)) where
  headers_0 : 0 ≡ headers_fault 1 1 mode 47
  unfolding headers_fault size_good ◌!◌⨾◌
  headers_0 = rw good

  arguments_0 : 0 ≡ arg_fault 1 1 mode sixes 3 4096 4096
  unfolding arg_fault size_good pixels_good good_to ◌!◌⨾◌
  arguments_0 = rw good

  abbrev bytes : List ℕ
  bytes = picture_frame 0 1 1 mode sixes grey

  sending_0 : 0 ≡ send_fault 0 1 1 mode sixes grey (length bytes)
  unfolding send_fault
  sending_0 =
      goes_on _ _ _ (sym (sendable.none ∙ one_refusals grey 1 1 mode sixes (tiles_no 1 1) 0))
      (passes _ _ _ _ (le-leb (length bytes) (length bytes) (omega arith)) refl)

  abbrev wrote_headers : WriteHeaders
  wrote_headers =
      record {
        width = 1;
        height = 1;
        mode = mode;
        out = replicate 47 0;
        out' = written (headers_of 1 1 mode) (replicate 47 0);
        answer = Ok (length (headers_of 1 1 mode));
        promise = done _ _ _ _ _ headers_0 refl refl;
      }

  abbrev wrote_frame : WriteFrame
  wrote_frame = record {
    width = 1;
    height = 1;
    mode = mode;
    quant = sixes;
    index = 0;
    pixels = grey;
    list = zeros;
    scratch = zeros;
    out = bytes;
    list' = zeros;
    scratch' = zeros;
    out' = written bytes bytes;
    answer = Ok (length bytes);
    promise =
        record {
          wrote = done _ _ _ _ _ (goes_on _ _ _ (sym arguments_0) sending_0) refl refl;
          first = cleared _ _ _ arguments_0 refl;
          second = cleared _ _ _
              arguments_0 refl;
        };
  }

  abbrev sent : List ℕ
  sent = sent_by wrote_headers.answer wrote_headers.out'

  abbrev one : ReadHeader
  one = asked (record_of glass 0 0 0 0) (take 12 sent)

  abbrev two : ReadHeader
  two = asked (session_after one) (take 10 (drop 12 sent))

  abbrev three : ReadHeader
  three = asked (session_after two) (take 12 (drop 22 sent))

  abbrev four : ReadHeader
  four = asked (session_after three) (take 13 (drop 34 sent))

  met : OurCalls wrote_headers one two three four wrote_frame (drawn glass (session_after four) (sent_by wrote_frame.answer wrote_frame.out'))
  met = record {
    headers_done = refl;
    sync = refl;
    versions = refl;
    channels = refl;
    context = refl;
    glass = sym (kept-glass glass either);
    then_two = refl;
    then_three = refl;
    then_four = refl;
    same_width = refl;
    same_height = refl;
    same_mode = refl;
    ten = refl;
    frame_done = refl;
    frame = refl;
    then_frame = refl;
    y_long = refl;
    cb_long = refl;
    cr_long = refl;
    scratch_long = refl;
    room = omega arith;
  }

-- calls that meet it, for a glass and a mode
pub record Met (glass mode : ℕ) : Type 0 where
  pub headers : WriteHeaders
  pub one : ReadHeader
  pub two : ReadHeader
  pub three : ReadHeader
  pub four : ReadHeader
  pub frame : WriteFrame
  pub read : ReadFrame
  pub calls : OurCalls headers one two three four frame read
  pub on-glass : read.word ≡ glass
  pub in_mode : frame.mode ≡ mode

met_in : (glass : ℕ) → glass ≤ 1 → (mode : ℕ) → is_mode mode ≡ true → Sendable grey 1 1 mode (one_for sixes) → Met glass mode
met_in glass l mode g s = record {
  headers = wrote_headers glass l mode g s;
  one = one glass l mode g s;
  two = two glass l mode g s;
  three = three glass l mode g s;
  four = four glass l mode g s;
  frame = wrote_frame glass l mode g s;
  read = drawn glass _ _;
  calls = met glass l mode g s;
  on-glass = refl;
  in_mode = refl;
}

pub met_1 : (glass : ℕ) → glass ≤ 1 → Met glass 1
met_1 glass l = met_in glass l 1 is_1 sendable_1

pub met_4 : (glass : ℕ) → glass ≤ 1 → Met glass 4
met_4 glass l = met_in glass l 4 is_4 sendable_4
