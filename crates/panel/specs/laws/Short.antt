-- The short frame's writer for C is the panel's own: its promise follows from that call's answer and gives it back, so what 02 says of the short frame
-- (`RequestElevenFrames`) holds of it too. And it leaves one value of each number and one content of lent memory.
use Rattle.std.specs.Prelude.{ℕ, ◌≡◌, refl, List, ℤ, length, Result}
use Rattle.std.proofs.Common.{sym, ◌∙◌}
use Rattle.whole.specs.Among.{among}
use Rattle.whole.specs.laws.Among.{each, among_most, among_not}
use Rattle.frame_write.specs.Picked.{frame_picked}
use Rattle.plan.specs.Answer.{plan_number}
use Rattle.short_write.specs.Answer.{short_count, short_answer}
use Rattle.short_write.specs.Short.{short_fault, ShortWritten}
use Rattle.short_write.specs.laws.Answer.{answer_short}
use Rattle.short_write.specs.laws.Numbers.{short_among}
use Rattle.plan.specs.declared.check.PlanRefusal.{PlanRefusal}
use Rattle.panel.specs.Short.{sets_for, WriteShortCall}

pub short_write_call :
    (w h mode : ℕ) (luma chroma : List ℕ) (index : ℕ) (old new ks : List ℕ) (list list' scratch scratch' : List ℤ) (out out' : List ℕ)
    (size n : ℕ) (r : Result ℕ PlanRefusal) →
    ShortWritten w h mode (sets_for luma chroma) index old new ks list list' scratch scratch' out out' r → size ≡ short_count r → n ≡ plan_number r →
    WriteShortCall w h mode luma chroma index old new ks list list' scratch scratch' out out' size n
short_write_call w h mode luma chroma index old new ks list list' scratch scratch' out out' size n r x e g =
    record { wrote = record { number = g ∙ x.wrote.number; long = e ∙ x.wrote.said; left = x.wrote.left }; first = x.first; second = x.second }

module _ (w h mode : ℕ) (luma chroma : List ℕ) (index : ℕ) (old new ks : List ℕ) (list scratch : List ℤ) (out : List ℕ) where
  abbrev fault : ℕ
  fault = short_fault w h mode (sets_for luma chroma) index old new ks (length list) (length scratch) (length out)

  -- the panel's own call with this answer has left the same
  pub short_told :
      (list' scratch' : List ℤ) (out' : List ℕ) (size n : ℕ) →
      WriteShortCall w h mode luma chroma index old new ks list list' scratch scratch' out out' size n →
      ShortWritten w h mode (sets_for luma chroma) index old new ks list list' scratch scratch' out out'
      (short_answer fault (frame_picked index w h mode (sets_for luma chroma) new ks))
  unfolding each among
  short_told list' scratch' out' size n x =
      let a = short_among w h mode (sets_for luma chroma) index old new ks (length list) (length scratch) (length out) in record {
        wrote = answer_short fault (frame_picked index w h mode (sets_for luma chroma) new ks) out out' (among_most 17 a refl) (among_not 14 fault a refl)
            (among_not 15 fault a refl) x.wrote.left;
        first = x.first;
        second = x.second;
      }

  pub short_once :
      (a b c d : List ℤ) (o₁ o₂ : List ℕ) (s₁ s₂ n₁ n₂ : ℕ) →
      WriteShortCall w h mode luma chroma index old new ks list a scratch c out o₁ s₁ n₁ →
      WriteShortCall w h mode luma chroma index old new ks list b scratch d out o₂ s₂ n₂ →
      (n₁ ≡ n₂) × (s₁ ≡ s₂) × (a ≡ b) × (c ≡ d) × (o₁ ≡ o₂)
  short_once a b c d o₁ o₂ s₁ s₂ n₁ n₂ x y = (
    x.wrote.number ∙ sym y.wrote.number,
    x.wrote.long ∙ sym y.wrote.long,
    x.first ∙ sym y.first,
    x.second ∙ sym y.second,
    x.wrote.left ∙ sym y.wrote.left,
  )
