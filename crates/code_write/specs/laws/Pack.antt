-- Packed bytes hold the bits they were packed from, and no other bytes do.
-- Assumes nothing.
use Rattle.std.specs.Prelude.{ℕ, zero, suc, ◌+◌, ◌*◌, ◌-◌, ◌/◌, ◌%◌, ◌^◌, ◌<◌, ◌≡◌, refl, Bool, true, false, List, [], ◌∷◌, ◌++◌, length, take, drop, replicate}
use Rattle.std.proofs.Common.{sym, ap, ap₂, ◌∙◌, append_assoc, append-nil, arith, pow-suc, mul_assoc, mul_comm, mul-le-mul_right, lt_of_lt_of_le, length-append}
use Rattle.std.proofs.Common.{length-take, length-drop, take-append-drop}
use Rattle.std.proofs.lemmas.List.{length-replicate}
use Rattle.bits.specs.Bits.{odd, val, num_bits, bits_of}
use Rattle.bits.specs.laws.Bit.{val_lt}
use Rattle.bits.specs.laws.Pen.{num_bits_snoc}
use Rattle.bits.specs.Bytes.{Written}
use Rattle.bits.specs.laws.Bytes.{Bytes, written_once}
use Rattle.code_write.specs.Pack.{value, filled, eights, packed}

odd_val : (b : Bool) → odd (val b) ≡ b
odd_val true = refl
odd_val false = refl

value_bits : (bs : List Bool) (k acc : ℕ) → num_bits (k + length bs) (value acc bs) ≡ num_bits k acc ++ bs
unfolding value
value_bits [] k acc = let e : k + 0 ≡ k = omega arith in ap (λ (n : ℕ). num_bits n acc) e ∙ sym (append-nil (num_bits k acc))
value_bits (b ∷ bs) k acc =
    let e : k + suc (length bs) ≡ suc k + length bs = omega arith in
    let n = acc * 2 + val b in
    ap (λ (m : ℕ). num_bits m (value n bs)) e ∙ value_bits bs (suc k) n ∙ ap (λ (l : List Bool). l ++ bs) (num_bits_snoc k acc (val b) (val_lt b))
    ∙ append_assoc (num_bits k acc) (odd (val b) ∷ []) bs ∙ ap (λ (c : Bool). num_bits k acc ++ (c ∷ bs)) (odd_val b)

value_lt : (bs : List Bool) (acc : ℕ) → value acc bs < (acc + 1) * 2 ^ length bs
unfolding value
value_lt [] acc = omega arith
value_lt (b ∷ bs) acc =
    lt_of_lt_of_le (value_lt bs (acc * 2 + val b))
    (rw (pow-suc 2 (length bs), mul_comm (2 ^ length bs) 2, ← mul_assoc (acc + 1) 2 (2 ^ length bs))
    (mul-le-mul_right (2 ^ length bs) (omega (arith, val_lt b))))

no_bits : num_bits 0 0 ≡ []
unfolding num_bits
no_bits = refl

eights_bits : (n : ℕ) (bs : List Bool) → length bs ≡ 8 * n → bits_of (eights n bs) ≡ bs
unfolding eights bits_of
eights_bits zero [] h = refl
eights_bits zero (b ∷ bs) h = absurd (omega arith)
eights_bits (suc n) bs h =
    let t : length (take 8 bs) ≡ 8 = length-take 8 bs ∙ omega arith in
    let e : 8 ≡ 0 + length (take 8 bs) = omega arith in
    let v : num_bits 8 (value 0 (take 8 bs)) ≡ take 8 bs =
    ap (λ (m : ℕ). num_bits m (value 0 (take 8 bs))) e ∙ value_bits (take 8 bs) 0 0 ∙ ap (λ (l : List Bool). l ++ take 8 bs) no_bits in
    ap₂ (λ (x y : List Bool). x ++ y) v (eights_bits n (drop 8 bs) (length-drop 8 bs ∙ omega arith)) ∙ take-append-drop 8 bs

eights_length : (n : ℕ) (bs : List Bool) → length (eights n bs) ≡ n
unfolding eights
eights_length zero bs = refl
eights_length (suc n) bs = ap suc (eights_length n (drop 8 bs))

eights_bytes : (n : ℕ) (bs : List Bool) → length bs ≡ 8 * n → Bytes (eights n bs)
unfolding eights
eights_bytes zero bs h i = omega arith
eights_bytes (suc n) bs h zero =
    let t : length (take 8 bs) ≡ 8 = length-take 8 bs ∙ omega arith in
    rw t at (value_lt (take 8 bs) 0)
eights_bytes (suc n) bs h (suc i) = eights_bytes n (drop 8 bs) (length-drop 8 bs ∙ omega arith) i

filled_length : (bs : List Bool) → length (filled bs) ≡ 8 * ((length bs + 7) / 8)
unfolding filled
filled_length bs = omega (arith, length-append bs (replicate ((8 - length bs % 8) % 8) false), length-replicate ((8 - length bs % 8) % 8) false)

pub packed_length : (bs : List Bool) → length (packed bs) ≡ (length bs + 7) / 8
unfolding packed
packed_length bs = eights_length ((length bs + 7) / 8) (filled bs)

pub packed_bytes : (bs : List Bool) → Bytes (packed bs)
unfolding packed
packed_bytes bs = eights_bytes ((length bs + 7) / 8) (filled bs) (filled_length bs)

pub packed_written : (bs : List Bool) → Written (packed bs) bs
unfolding packed filled
packed_written bs = record { pad = (8 - length bs % 8) % 8; few = omega arith; bits = eights_bits ((length bs + 7) / 8) (filled bs) (filled_length bs) }

-- so these are the only bytes that hold them
pub packed_once : (s : List ℕ) (bs : List Bool) → Bytes s → Written s bs → s ≡ packed bs
packed_once s bs h w = written_once s (packed bs) bs h (packed_bytes bs) w (packed_written bs)
