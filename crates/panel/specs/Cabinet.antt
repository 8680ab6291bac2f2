-- The calls of 02's request Five as a C program meets them: the number is returned, what is read and what is said is stored behind references, lists and output
-- are lent. All by the definitions that `settings` and the frame writer cite.
-- (01 is this project's scope document, 02 its change requests, 001 is MS-RDPRFX: README, "What 01 is".)
use Rattle.std.specs.Prelude.{ℕ, ◌≡◌, List, ℤ, length}
use Rattle.whole.specs.Row.{◌⨟◌}
use Rattle.quants.specs.declared.Quants.{Quants}
use Rattle.settings.specs.Settings.{settings, settings_of, write_fault, store_number, given, read_settings}
use Rattle.frame_write.specs.FrameWrite.{work_left}
use Rattle.frame_write.specs.Sets.{frame_over, arg_fault_over, send_fault_over}
use Rattle.panel.specs.Edge.{WriterCall}

-- ---- settings, from and to bytes

-- what is read; a refusal gives no settings, all of them are 0
pub record ReadSettingsCall (newest : ℕ) (m luma chroma : List ℕ) (mode number : ℕ) : Type 0 where
  pub said : number ≡ store_number (read_settings newest m)
  pub luma_is : luma ≡ (given (read_settings newest m)).quants.luma.v
  pub chroma_is : chroma ≡ (given (read_settings newest m)).quants.chroma.v
  pub mode_is : mode ≡ (given (read_settings newest m)).mode

abbrev pub WriteSettingsCall : List ℕ → List ℕ → ℕ → List ℕ → List ℕ → ℕ → ℕ → Type 0
WriteSettingsCall luma chroma mode out out' size number =
    WriterCall (write_fault (settings luma chroma mode) (length out)) (settings_of (settings luma chroma mode)) out out' size number

-- ---- the frame writer: "Where chroma differs, the frame writer emits two quantiser sets; its promise is then read over both."

abbrev pub sets_from : List ℕ → List ℕ → Quants
sets_from luma chroma = record { luma = record { v = luma }; chroma = record { v = chroma } }

-- what is written over both sets, and the two work lists
pub record WriteOverCall (w h mode : ℕ) (q : Quants) (index : ℕ) (p : List ℕ) (list list' scratch scratch' : List ℤ) (out out' : List ℕ) (size n : ℕ) : Type
    0 where
  pub wrote :
      WriterCall (arg_fault_over w h mode q (length p) (length list) (length scratch) ⨟ send_fault_over index w h mode q p (length out))
      (frame_over index w h mode q p) out out' size n
  pub first : list' ≡ work_left (arg_fault_over w h mode q (length p) (length list) (length scratch)) list
  pub second : scratch' ≡ work_left (arg_fault_over w h mode q (length p) (length list) (length scratch)) scratch

abbrev pub WriteFrameSetsCall :
    ℕ → ℕ → ℕ → List ℕ → List ℕ → ℕ → List ℕ → List ℤ → List ℤ → List ℤ → List ℤ → List ℕ → List ℕ → ℕ → ℕ → Type 0
WriteFrameSetsCall w h mode luma chroma index p list list' scratch scratch' out out' size n =
    WriteOverCall w h mode (sets_from luma chroma) index p list list' scratch scratch' out out' size n
