-- Calls of the frame writer that are done with sets that differ, luma's ten 6 and chroma's ten 7, one grey pixel, in both modes: what request Five's page asks
-- of a call is met.
-- Assumes nothing.
use Rattle.std.specs.Prelude.{ℕ, ◌≡◌, refl, true, false, List, ℤ, pos, length, replicate, Ok}
use Rattle.std.proofs.Common.{sym, arith, le-leb}
use Rattle.whole.specs.Row.{◌!◌⨾◌}
use Rattle.whole.specs.laws.Row.{passes, goes_on}
use Rattle.wire.specs.Le.{written}
use Rattle.wire.specs.Mode.{is_mode}
use Rattle.wire.specs.laws.Mode.{is_1, is_4}
use Rattle.wire.specs.Refusal.{number_of}
use Rattle.wire.specs.laws.Wrote.{done}
use Rattle.session.specs.Header.{size_good}
use Rattle.bands.specs.Bands.{good_to}
use Rattle.quants.specs.Quants.{same}
use Rattle.frame_pieces.specs.Parts.{pixels_good}
use Rattle.frame_write.specs.Sets.{frame_over, good_sets, arg_fault_over, send_fault_over}
use Rattle.frame_write.specs.laws.FrameWrite.{cleared}
use Rattle.frame_readback.specs.Request.{WriteFrameSets}
use Rattle.frame_readback.specs.laws.OurTiles.{Sendable}
use Rattle.frame_readback.specs.laws.Grey.{grey, sets_by, two_sendable_1, two_sendable_4, two_differ}

abbrev pub zeros : List ℤ
zeros = replicate 4096 (pos 0)

module _ (mode : ℕ) (good : is_mode mode ≡ true) where
  pub arguments_0 : 0 ≡ arg_fault_over 1 1 mode (sets_by 6 7) 3 4096 4096
  unfolding arg_fault_over size_good good_sets pixels_good good_to ◌!◌⨾◌
  arguments_0 = rw good

  module _ (sendable : Sendable grey 1 1 mode (sets_by 6 7)) where
    abbrev pub bytes : List ℕ
    bytes = frame_over 0 1 1 mode (sets_by 6 7) grey

    pub sending_0 : 0 ≡ send_fault_over 0 1 1 mode (sets_by 6 7) grey (length bytes)
    unfolding send_fault_over
    sending_0 = goes_on _ _ _ (sym sendable.none) (passes _ _ _ _ (le-leb (length bytes) (length bytes) (omega arith)) refl)

    abbrev pub wrote_sets : WriteFrameSets
    wrote_sets = record {
      width = 1;
      height = 1;
      mode = mode;
      quants = sets_by 6 7;
      luma = refl;
      chroma = refl;
      index = 0;
      pixels = grey;
      list = zeros;
      scratch = zeros;
      out = bytes;
      list' = zeros;
      scratch' = zeros;
      out' = written bytes bytes;
      answer = Ok (length bytes);
      promise =
          record {
            wrote = done _ _ _ _ _ (goes_on _ _ _ (sym arguments_0) sending_0) refl refl;
            first = cleared _ _ _ arguments_0 refl;
            second = cleared _ _ _ arguments_0 refl;
          };
    }

-- a call that is done, its sets differ
pub record MetSets (mode : ℕ) : Type 0 where
  pub call : WriteFrameSets
  pub in_mode : call.mode ≡ mode
  pub differ : same call.quants ≡ false
  pub is_done : number_of call.answer ≡ 0

met_sets : (mode : ℕ) → is_mode mode ≡ true → Sendable grey 1 1 mode (sets_by 6 7) → MetSets mode
met_sets mode good s = record { call = wrote_sets mode good s; in_mode = refl; differ = two_differ; is_done = refl }

pub met_sets_1 : MetSets 1
met_sets_1 = met_sets 1 is_1 two_sendable_1

pub met_sets_4 : MetSets 4
met_sets_4 = met_sets 4 is_4 two_sendable_4
