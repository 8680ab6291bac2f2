-- The clamp's three answers, and a pixel's word from its bytes.
-- Assumes nothing.
use Rattle.std.specs.Prelude.{◌≡◌, refl, Bool, true, false, ℕ, T, ℤ, pos, negsuc, nat_abs}
use Rattle.std.proofs.Common.{sym, ap, ◌∙◌, arith, ltb-true, ltb-false, Fits}
use Rattle.std.specs.Int.Signed.{lt_z, non_neg}
use Rattle.std.specs.Int.{w8}
use Rattle.whole.specs.Row.{◌⇒◌∣◌}
use Rattle.colour.specs.declared.Rgb.{Rgb}
use Rattle.colour.specs.Colour.{clamp_byte, rgb_of, pack565, pack888, pack_of, word_of}

true_not_false : {A : Type 0} → ◌≡◌ {A = Bool} true false → A
true_not_false e = absurd (let z : ◌≡◌ {A = ℕ} 0 1 = ap (λ (b : Bool). pick b) (sym e) in omega arith)
  where
    pick : Bool → ℕ
    pick true = 1
    pick false = 0

pub clamp_low : (x : ℤ) → lt_z x (pos 0) ≡ true → 0 ≡ clamp_byte x
unfolding clamp_byte
clamp_low (pos n) h = absurd (omega (arith, ltb-true n 0 h))
clamp_low (negsuc n) h = refl

pub clamp_high : (x : ℤ) → lt_z (pos 255) x ≡ true → 255 ≡ clamp_byte x
unfolding clamp_byte
clamp_high (pos n) h = omega (arith, ltb-true 255 n h)
clamp_high (negsuc n) h = true_not_false (sym h)

pub clamp_mid : (x : ℤ) → lt_z x (pos 0) ≡ false → lt_z (pos 255) x ≡ false → T (non_neg x) × Fits w8 (nat_abs x) × (nat_abs x ≡ clamp_byte x)
unfolding clamp_byte
clamp_mid (pos n) g h = (tt, omega (arith, ltb-false 255 n h), omega (arith, ltb-false 255 n h))
clamp_mid (negsuc n) g h = true_not_false g

-- ---- the word of a pixel's bytes, on either glass

pub word_is : (glass : ℕ) (y cb cr : ℤ) (p : Rgb) (w : ℕ) → p ≡ rgb_of y cb cr → w ≡ pack_of glass p.r p.g p.b → w ≡ word_of glass y cb cr
unfolding word_of
word_is glass y cb cr p w e q = q ∙ ap (λ (c : Rgb). pack_of glass c.r c.g c.b) e

pub pack_16 : (r g b : ℕ) → pack565 r g b ≡ pack_of 0 r g b
unfolding pack_of ◌⇒◌∣◌
pack_16 r g b = refl

pub pack-32 : (r g b : ℕ) → pack888 r g b ≡ pack_of 1 r g b
unfolding pack_of ◌⇒◌∣◌
pack-32 r g b = refl
