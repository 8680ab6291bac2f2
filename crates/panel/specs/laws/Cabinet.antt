-- The calls of request Five for C are those of `settings` and the panel's own: what C is told is that call's answer, so what 02 says of them (`RequestFive`)
-- holds of C's calls too. And each leaves one value of each number and one content of lent memory.
-- (01 is this project's scope document, 02 its change requests, 001 is MS-RDPRFX: README, "What 01 is".)
use Rattle.std.specs.Prelude.{ℕ, ◌≤◌, ◌≡◌, refl, ◌∷◌, List, ℤ, length, Result}
use Rattle.std.proofs.Common.{◌∙◌, sym}
use Rattle.whole.specs.Row.{◌⨟◌}
use Rattle.whole.specs.Among.{among}
use Rattle.whole.specs.laws.Among.{each, among_then, among_all, among_most}
use Rattle.wire.specs.Refusal.{number_of, count_of}
use Rattle.wire.specs.declared.Refusal.{Refusal}
use Rattle.wire.specs.laws.Wrote.{answer_of, answer_wrote}
use Rattle.quants.specs.declared.Quants.{Quants}
use Rattle.settings.specs.Settings.{settings, store_number, given, read_settings}
use Rattle.settings.specs.laws.Read.{told, reading_told}
use Rattle.frame_write.specs.Sets.{frame_over, arg_fault_over, send_fault_over, FrameWrittenOver}
use Rattle.frame_write.specs.laws.Numbers.{send_numbers, arg_among, send_among}
use Rattle.panel.specs.laws.Edge.{write_call}
use Rattle.panel.specs.Cabinet.{ReadSettingsCall, WriteOverCall}

-- ---- reading settings: the answer that the number, ten values twice and the mode are

pub settings_told :
    (newest : ℕ) (m luma chroma : List ℕ) (mode number : ℕ) → ReadSettingsCall newest m luma chroma mode number →
    (number ≡ store_number (read_settings newest m)) × (settings luma chroma mode ≡ given (read_settings newest m)) ×
    (told number (settings luma chroma mode) ≡ read_settings newest m)
settings_told newest m luma chroma mode number p =
    (p.said, rw (p.luma_is, p.chroma_is, p.mode_is) refl, rw (p.said, p.luma_is, p.chroma_is, p.mode_is) (reading_told (read_settings newest m)))

pub record SameSettings (luma luma' chroma chroma' : List ℕ) (mode mode' number number' : ℕ) : Type 0 where
  pub luma_same : luma ≡ luma'
  pub chroma_same : chroma ≡ chroma'
  pub mode_same : mode ≡ mode'
  pub number_same : number ≡ number'

pub settings_once :
    (newest : ℕ) (m luma luma' chroma chroma' : List ℕ) (mode mode' number number' : ℕ) → ReadSettingsCall newest m luma chroma mode number →
    ReadSettingsCall newest m luma' chroma' mode' number' → SameSettings luma luma' chroma chroma' mode mode' number number'
settings_once newest m luma luma' chroma chroma' mode mode' number number' p q = record {
  luma_same = p.luma_is ∙ sym q.luma_is;
  chroma_same = p.chroma_is ∙ sym q.chroma_is;
  mode_same = p.mode_is ∙ sym q.mode_is;
  number_same = p.said ∙ sym q.said;
}

-- ---- the frame writer over both sets

pub over_call :
    (w h mode : ℕ) (q : Quants) (index : ℕ) (p : List ℕ) (list list' scratch scratch' : List ℤ) (out out' : List ℕ) (size n : ℕ) (r : Result ℕ Refusal) →
    FrameWrittenOver w h mode q index p list list' scratch scratch' out out' r → size ≡ count_of r → n ≡ number_of r →
    WriteOverCall w h mode q index p list list' scratch scratch' out out' size n
over_call w h mode q index p list list' scratch scratch' out out' size n r x e g =
    record { wrote = write_call _ _ _ _ _ _ r x.wrote e g; first = x.first; second = x.second }

module _ (w h mode : ℕ) (q : Quants) (index : ℕ) (p : List ℕ) (list scratch : List ℤ) (out : List ℕ) where
  abbrev fault : ℕ
  fault = arg_fault_over w h mode q (length p) (length list) (length scratch) ⨟ send_fault_over index w h mode q p (length out)

  -- its number is one of 01's
  pub over_few : fault ≤ 13
  unfolding each among
  over_few =
      among_most 13 {ks = 5 ∷ 7 ∷ 2 ∷ send_numbers}
      (among_then _ _ (among_all _ (arg_among w h mode q (length p) (length list) (length scratch)) refl)
      (among_all _ (send_among index w h mode q p (length out)) refl)) refl

  -- the panel's own call with this answer has left the same
  pub over_told :
      (list' scratch' : List ℤ) (out' : List ℕ) (size n : ℕ) → WriteOverCall w h mode q index p list list' scratch scratch' out out' size n →
      FrameWrittenOver w h mode q index p list list' scratch scratch' out out' (answer_of fault (frame_over index w h mode q p))
  over_told list' scratch' out' size n x =
      record { wrote = answer_wrote fault (frame_over index w h mode q p) out out' over_few x.wrote.left; first = x.first; second = x.second }

  pub record SameFrame (a b c d : List ℤ) (out₁ out₂ : List ℕ) (size₁ size₂ n₁ n₂ : ℕ) : Type 0 where
    pub list_same : a ≡ b
    pub scratch_same : c ≡ d
    pub out_same : out₁ ≡ out₂
    pub size_same : size₁ ≡ size₂
    pub number_same : n₁ ≡ n₂

  pub over_once :
      (a b c d : List ℤ) (out₁ out₂ : List ℕ) (size₁ size₂ n₁ n₂ : ℕ) → WriteOverCall w h mode q index p list a scratch c out out₁ size₁ n₁ →
      WriteOverCall w h mode q index p list b scratch d out out₂ size₂ n₂ → SameFrame a b c d out₁ out₂ size₁ size₂ n₁ n₂
  over_once a b c d out₁ out₂ size₁ size₂ n₁ n₂ x y = record {
    list_same = x.first ∙ sym y.first;
    scratch_same = x.second ∙ sym y.second;
    out_same = x.wrote.left ∙ sym y.wrote.left;
    size_same = x.wrote.long ∙ sym y.wrote.long;
    number_same = x.wrote.number ∙ sym y.wrote.number;
  }
