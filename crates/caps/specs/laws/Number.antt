-- Laws on little-endian numbers: read at a place of a list whose rest from there on is known; a number by its bytes, and bytes by their number.
use Rattle.std.specs.Prelude.{ℕ, ◌+◌, ◌*◌, ◌/◌, ◌%◌, ◌<◌, ◌≡◌, refl, List, [], ◌∷◌, get_or, drop}
use Rattle.std.proofs.Common.{ap, sym, ◌∙◌, arith, zero-add, mod-eq_of_lt, get_or-drop}
use Rattle.std.proofs.Math.Nat.{div-eq_of_lt, add-mul-div_left, add-mul-mod_self_left, div-div-eq-div-mul}
use Rattle.wire.specs.Le.{le16, le32, bytes16, bytes32}

-- ---- what stands at a place

pub byte_in : (d xs : List ℕ) (at k : ℕ) → drop at d ≡ xs → get_or d (at + k) 0 ≡ get_or xs k 0
byte_in d xs at k e = sym (get_or-drop at d k 0) ∙ ap (λ (z : List ℕ). get_or z k 0) e

pub le16_in : (d xs : List ℕ) (at k : ℕ) → drop at d ≡ xs → le16 d (at + k) ≡ le16 xs k
unfolding le16
le16_in d xs at k e =
    let s : at + k + 1 ≡ at + (k + 1) = omega arith in
    rw (s, byte_in d xs at k e, byte_in d xs at (k + 1) e)

pub le32_in : (d xs : List ℕ) (at k : ℕ) → drop at d ≡ xs → le32 d (at + k) ≡ le32 xs k
unfolding le32
le32_in d xs at k e =
    let s : at + k + 2 ≡ at + (k + 2) = omega arith in
    rw (s, le16_in d xs at k e, le16_in d xs at (k + 2) e)

-- ---- what a number is by its bytes

pub two_bytes : (v : ℕ) → v < 65536 → v % 256 + 256 * (v / 256 % 256) ≡ v
two_bytes v h = omega arith

low_half : (v a b : ℕ) → v / 256 ≡ a → b ≡ a / 256 → v % 256 + 256 * (a % 256) ≡ v % 65536
low_half v a b p q = omega arith

pub four_bytes : (v : ℕ) → v < 4294967296 → v % 256 + 256 * (v / 256 % 256) + 65536 * (v / 65536 % 256 + 256 * (v / 16777216 % 256)) ≡ v
four_bytes v h =
    let a : v / 65536 ≡ v / 256 / 256 = sym (div-div-eq-div-mul v 256 256) in
    let b : v / 65536 / 256 ≡ v / 16777216 = div-div-eq-div-mul v 65536 256 in
    let low : v % 256 + 256 * (v / 256 % 256) ≡ v % 65536 = low_half v (v / 256) (v / 65536) refl a in
    let high : v / 65536 % 256 + 256 * (v / 65536 / 256 % 256) ≡ v / 65536 = two_bytes (v / 65536) (omega arith) in
    rw (low, ← b, high) (omega arith)

-- ---- and what its bytes are, where it was read from bytes

-- the lowest byte, and what stands above it
low_byte : (a q : ℕ) → a < 256 → (a + 256 * q) % 256 ≡ a
low_byte a q h = add-mul-mod_self_left a 256 q ∙ mod-eq_of_lt h

above : (a q : ℕ) → a < 256 → (a + 256 * q) / 256 ≡ q
above a q h = add-mul-div_left a q (omega arith) ∙ ap (λ (n : ℕ). n + q) (div-eq_of_lt h) ∙ zero-add q

pub two_there : (a b : ℕ) → a < 256 → b < 256 → a ∷ b ∷ [] ≡ bytes16 (a + 256 * b)
unfolding bytes16
two_there a b h k = rw (low_byte a b h, above a b h, mod-eq_of_lt k)

pub four_there : (a b c d : ℕ) → a < 256 → b < 256 → c < 256 → d < 256 → a ∷ b ∷ c ∷ d ∷ [] ≡ bytes32 (a + 256 * b + 65536 * (c + 256 * d))
unfolding bytes32
four_there a b c d h k i j =
    let v = a + 256 * (b + 256 * (c + 256 * d)) in
    let e : a + 256 * b + 65536 * (c + 256 * d) ≡ v = omega arith in
    let second : v / 256 ≡ b + 256 * (c + 256 * d) = above a (b + 256 * (c + 256 * d)) h in
    let third : v / 65536 ≡ c + 256 * d = sym (div-div-eq-div-mul v 256 256) ∙ (ap (λ (n : ℕ). n / 256) second ∙ above b (c + 256 * d) k) in
    let fourth : v / 16777216 ≡ d = sym (div-div-eq-div-mul v 65536 256) ∙ (ap (λ (n : ℕ). n / 256) third ∙ above c d i) in
    rw (e, low_byte a (b + 256 * (c + 256 * d)) h, second, low_byte b (c + 256 * d) k, third, low_byte c d i, fourth, mod-eq_of_lt j)
