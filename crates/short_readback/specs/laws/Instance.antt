-- What request Eleven's page asks of calls is met: one black pixel that turns grey, its tile listed, sets that differ, in both modes, on either glass. The
-- short frame is written, and so is the full one; a glass shows the old picture; and both frames are read on it.
-- Assumes nothing.
use Rattle.std.specs.Prelude.{ℕ, ◌≡◌, true, false, List, [], ◌∷◌, length, Result, Ok}
use Rattle.wire.specs.declared.Refusal.{Refusal}
use Rattle.plan.specs.Answer.{plan_number}
use Rattle.short_write.specs.laws.Answer.{wrote_handed}
use Rattle.std.proofs.Math.Path.{refl, sym}
use Rattle.std.proofs.Common.{◌∙◌, le-leb}
use native.Mathlib.Omega.{arith}
use Rattle.whole.specs.Row.{◌!◌⨾◌}
use Rattle.whole.specs.laws.Row.{passes, goes_on}
use Rattle.wire.specs.Le.{written}
use Rattle.wire.specs.Mode.{is_mode}
use Rattle.wire.specs.laws.Mode.{is_1, is_4}
use Rattle.wire.specs.laws.Wrote.{done}
use Rattle.session.specs.Header.{record_of}
use Rattle.quants.specs.Quants.{same}
use Rattle.frame.specs.Frame.{call_fault, frame_number, frame_picture, frame_list, frame_reading}
use Rattle.frame_pieces.specs.Parts.{pixels_good, cols_of}
use Rattle.frame_write.specs.Picked.{frame_picked, send_fault_picked, all_tiles}
use Rattle.frame_write.specs.laws.FrameWrite.{cleared}
use Rattle.frame_write.specs.laws.Picked.{all_refusals}
use Rattle.frame_readback.specs.Own.{word_over, tile_no}
use Rattle.frame_readback.specs.Request.{WriteFrameSets}
use Rattle.frame_readback.specs.laws.OurTiles.{Sendable}
use Rattle.frame_readback.specs.laws.Grey.{grey, sets_by, two_sendable_1, two_sendable_4, two_differ}
use Rattle.frame_readback.specs.laws.TwoSets.{zeros, arguments_0, wrote_sets}
use Rattle.short_write.specs.Short.{own_fault, short_fault}
use Rattle.short_readback.specs.Request.{WriteShort, Shows, ReadOn, FullFrame, sent_full, sent_short}
use Rattle.short_readback.specs.laws.AllTiles.{all_taken}

abbrev black : List ℕ
black = 0 ∷ 0 ∷ 0 ∷ []

module _ (mode : ℕ) (good : is_mode mode ≡ true) (sendable : Sendable grey 1 1 mode (sets_by 6 7)) where
  own_0 : 0 ≡ own_fault 1 1 mode (sets_by 6 7) 3 3 4096 4096
  unfolding own_fault pixels_good ◌!◌⨾◌
  own_0 = goes_on _ _ _ (sym (arguments_0 mode good)) refl

  abbrev bytes : List ℕ
  bytes = frame_picked 0 1 1 mode (sets_by 6 7) grey (all_tiles 1 1)

  sending_0 : 0 ≡ send_fault_picked 0 1 1 mode (sets_by 6 7) grey (all_tiles 1 1) (length bytes)
  unfolding send_fault_picked
  sending_0 =
      goes_on _ _ _ (all_refusals grey 1 1 mode (sets_by 6 7) ∙ sym sendable.none)
      (passes _ _ _ _ (le-leb (length bytes) (length bytes) (omega arith)) refl)

  fault_0 : 0 ≡ short_fault 1 1 mode (sets_by 6 7) 0 black grey (all_tiles 1 1) 4096 4096 (length bytes)
  unfolding short_fault
  fault_0 = goes_on _ _ _ (sym own_0) (goes_on _ _ _ (sym (all_taken 1 1 black grey)) sending_0)

  abbrev short : WriteShort
  short = record {
    width = 1;
    height = 1;
    mode = mode;
    quants = sets_by 6 7;
    luma = refl;
    chroma = refl;
    index = 0;
    old = black;
    new = grey;
    picks = all_tiles 1 1;
    list = zeros;
    scratch = zeros;
    out = bytes;
    list' = zeros;
    scratch' = zeros;
    out' = written bytes bytes;
    answer = Ok (length bytes);
    promise =
        record {
          wrote = wrote_handed _ _ _ _ (Ok _) (done _ _ _ _ _ fault_0 refl refl);
          first = cleared _ _ _ own_0 refl;
          second = cleared _ _ _ own_0 refl;
        };
  }

  module _ (glass : ℕ) where
    -- a glass of one word, and one behind the channel
    abbrev shown : List ℕ
    shown = word_over glass black 1 1 (sets_by 6 7) 0 0 ∷ 5 ∷ []

    shows : Shows glass black 1 1 (sets_by 6 7) shown
    unfolding tile_no cols_of
    shows px py a b =
        let x : px ≡ 0 = omega arith in
        let y : py ≡ 0 = omega arith in
        rw (x, y) refl

    abbrev number : List ℕ → ℕ
    number m = frame_number (call_fault glass (record_of glass 4 1 1 mode) 2 4096 4096 4096 4096) (record_of glass 4 1 1 mode) m

    -- a frame call on any message
    read : (m : List ℕ) → ReadOn glass 1 1 mode m shown (frame_picture (number m) (record_of glass 4 1 1 mode) m shown) (frame_reading (number m) m)
    read m =
        let f : ℕ = call_fault glass (record_of glass 4 1 1 mode) 2 4096 4096 4096 4096 in
        record {
          y = zeros;
          cb = zeros;
          cr = zeros;
          scratch = zeros;
          y' = frame_list f zeros;
          cb' = frame_list f zeros;
          cr' = frame_list f zeros;
          scratch' = frame_list f zeros;
          y_long = refl;
          cb_long = refl;
          cr_long = refl;
          scratch_long = refl;
          room = omega arith;
          promise = record { answer = refl; picture = refl; y_list = refl; cb_list = refl; cr_list = refl; tmp_list = refl };
        }

-- calls that meet all that `as_the_full` asks, for a glass and a mode
pub record MetShort (glass mode : ℕ) : Type 0 where
  pub short : WriteShort
  pub full : WriteFrameSets
  pub in_mode : short.mode ≡ mode
  pub differ : same short.quants ≡ false
  pub is_done : plan_number short.answer ≡ 0
  pub as_full : FullFrame short short.new full
  pub picture : List ℕ
  pub shows : Shows glass short.old short.width short.height short.quants picture
  pub after_short : List ℕ
  pub after_full : List ℕ
  pub short_answer : Result ℕ Refusal
  pub full_answer : Result ℕ Refusal
  pub short_read : ReadOn glass short.width short.height short.mode (sent_short short) picture after_short short_answer
  pub full_read : ReadOn glass short.width short.height short.mode (sent_full full) picture after_full full_answer

met : (glass mode : ℕ) → is_mode mode ≡ true → Sendable grey 1 1 mode (sets_by 6 7) → MetShort glass mode
met glass mode good s = record {
  short = short mode good s;
  full = wrote_sets mode good s;
  in_mode = refl;
  differ = two_differ;
  is_done = refl;
  as_full = record { width = refl; height = refl; mode = refl; quants = refl; picture = refl; is_done = refl };
  picture = shown mode good s glass;
  shows = shows mode good s glass;
  after_short = _;
  after_full = _;
  short_answer = _;
  full_answer = _;
  short_read = read mode good s glass _;
  full_read = read mode good s glass _;
}

pub met_short_1 : (glass : ℕ) → MetShort glass 1
met_short_1 glass = met glass 1 is_1 two_sendable_1

pub met_short_4 : (glass : ℕ) → MetShort glass 4
met_short_4 glass = met glass 4 is_4 two_sendable_4
