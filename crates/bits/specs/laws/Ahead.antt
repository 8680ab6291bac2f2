-- The bits from a place on with zeros past their end: they are what a word holds, and a number or a run of ones is read from them.
use Rattle.std.specs.Prelude.{Option, None}
use Rattle.std.specs.Prelude.{ℕ, zero, suc, ◌+◌, ◌*◌, ◌-◌, ◌/◌, ◌%◌, ◌^◌, ◌≤◌, ◌<◌, ◌≡◌, refl, Bool, true, false, List, [], ◌∷◌, ◌++◌, length, drop, take}
use Rattle.std.specs.Prelude.{get_or, replicate}
use Rattle.std.proofs.Common.{sym, ap, ap₂, subst, ◌∙◌, append-nil, arith, add-one, le_refl, mod-lt, length-drop, take-append-drop, drop_of_length-le}
use Rattle.std.proofs.Common.{drop-drop, drop-cons, shr_lt, pow-add, pow_mono, pow_pos}
use Rattle.std.proofs.Math.Decide.{dec_lt}
use Rattle.std.proofs.lemmas.List.{drop-append-le}
use Rattle.bits.specs.Bits.{got, num_bits, bits_of, ones_of, num_of}
use Rattle.bits.specs.Word.{four_of, horner, padded}
use Rattle.bits.specs.laws.Bit.{length_num_bits, length_bits_of, ones_got, got_v}
use Rattle.bits.specs.laws.Here.{num_bits_mod, num_here}
use Rattle.bits.specs.laws.Bytes.{Bytes}
use Rattle.bits.specs.laws.Pen.{bits_of_append, num_bits_shift}
use Rattle.bits.specs.laws.Word.{num_bits_split, num_bits_past, num_short, bytes_of, bytes_front, bytes_small, horner_bits, drop_bytes, four_four}

-- ---- zeros past the end

-- zeros at the end are there already
pad_zeros : (n t : ℕ) (L : List Bool) → padded n (L ++ replicate t false) ≡ padded n L
unfolding padded
pad_zeros zero t L = refl
pad_zeros (suc n) zero L = ap (padded (suc n)) (append-nil L)
pad_zeros (suc n) (suc t) [] = ap (λ (l : List Bool). false ∷ l) (pad_zeros n t [])
pad_zeros (suc n) (suc t) (b ∷ L) = ap (λ (l : List Bool). b ∷ l) (pad_zeros n (suc t) L)

-- what stands past the first n does not count
pad_front : (n : ℕ) (L X : List Bool) → n ≤ length L → padded n (L ++ X) ≡ padded n L
unfolding padded
pad_front zero L X h = refl
pad_front (suc n) [] X h = absurd (omega arith)
pad_front (suc n) (b ∷ L) X h = ap (λ (l : List Bool). b ∷ l) (pad_front n L X (omega arith))

pad_all : (n : ℕ) (L : List Bool) → length L ≡ n → padded n L ≡ L
unfolding padded
pad_all zero [] h = refl
pad_all zero (b ∷ L) h = absurd (omega arith)
pad_all (suc n) [] h = absurd (omega arith)
pad_all (suc n) (b ∷ L) h = ap (λ (l : List Bool). b ∷ l) (pad_all n L (omega arith))

pad_take : (n : ℕ) (L : List Bool) → n ≤ length L → padded n L ≡ take n L
unfolding padded
pad_take zero L h = refl
pad_take (suc n) [] h = absurd (omega arith)
pad_take (suc n) (b ∷ L) h = ap (λ (l : List Bool). b ∷ l) (pad_take n L (omega arith))

pad_less : (k n : ℕ) (L : List Bool) → k ≤ n → padded k (padded n L) ≡ padded k L
unfolding padded
pad_less zero n L h = refl
pad_less (suc k) zero L h = absurd (omega arith)
pad_less (suc k) (suc n) [] h = ap (λ (l : List Bool). false ∷ l) (pad_less k n [] (omega arith))
pad_less (suc k) (suc n) (b ∷ L) h = ap (λ (l : List Bool). b ∷ l) (pad_less k n L (omega arith))

-- ---- the word

-- the high k of k + j bits
top : (k j x : ℕ) → padded k (num_bits (k + j) x) ≡ num_bits k (x / 2 ^ j)
top k j x =
    ap (padded k) (num_bits_split k j x)
    ∙ pad_front k (num_bits k (x / 2 ^ j)) (num_bits j x) (omega (arith, length_num_bits k (x / 2 ^ j)))
    ∙ pad_all k (num_bits k (x / 2 ^ j)) (length_num_bits k (x / 2 ^ j))

-- e shifted up by t in 64 bits: its low 64 - t bits stand first, and zeros behind them
shifted_up : (e t : ℕ) → t ≤ 64 → num_bits 57 (e * 2 ^ t % 2 ^ 64 / 2 ^ 7) ≡ padded 57 (num_bits (64 - t) e)
shifted_up e t h =
    let k : 64 - t + t ≡ 64 = omega arith in
    let s : num_bits 64 (e * 2 ^ t) ≡ num_bits (64 - t) e ++ replicate t false = ap (λ (n : ℕ). num_bits n (e * 2 ^ t)) (sym k) ∙ num_bits_shift t (64 - t) e in
    sym (top 57 7 (e * 2 ^ t % 2 ^ 64))
    ∙ ap (padded 57) (num_bits_mod 64 64 (e * 2 ^ t) (le_refl 64) ∙ s)
    ∙ pad_zeros 57 t (num_bits (64 - t) e)

pub high_small : (x : ℕ) → x % 2 ^ 64 / 2 ^ 7 < 2 ^ 57
high_small x = shr_lt 57 7 (mod-lt x (pow_pos 64))

-- fewer than eight bytes
pub ahead_short : (s : List ℕ) (at r : ℕ) → Bytes s → length s < 8 → at < 8 * length s → r ≡ horner 0 s * 2 ^ (64 - 8 * length s + at) % 2 ^ 64 / 2 ^ 7 →
    num_bits 57 r ≡ padded 57 (drop at (bits_of s))
unfolding num_bits
ahead_short s at r b l h e =
    let x = horner 0 s in
    let n = 8 * length s - at in
    let k : 64 - (64 - 8 * length s + at) ≡ n = omega arith in
    let m : 0 + 8 * length s ≡ at + n = omega arith in
    let w : num_bits n x ≡ drop at (bits_of s) =
    sym (num_bits_past at n x) ∙ ap (λ (i : ℕ). drop at (num_bits i x)) (sym m) ∙ ap (λ (y : List Bool). drop at y) (horner_bits s b 0 0) in
    ap (λ (y : ℕ). num_bits 57 y) e
    ∙ shifted_up x (64 - 8 * length s + at) (omega arith)
    ∙ ap (λ (i : ℕ). padded 57 (num_bits i x)) k
    ∙ ap (padded 57) w

-- the bits from a place on, by the eight bytes from j on
ahead_eight : (s : List ℕ) (at j t : ℕ) → Bytes s → at ≡ 8 * j + t → t ≤ 64 → j + 8 ≤ length s →
    drop at (bits_of s) ≡ num_bits (64 - t) (horner 0 (bytes_of 8 s j)) ++ bits_of (drop (j + 8) s)
unfolding num_bits bytes_of
ahead_eight s at j t b ea ht h =
    let x = horner 0 (bytes_of 8 s j) in
    let rest = bits_of (drop (j + 8) s) in
    let w : num_bits 64 x ≡ bits_of (bytes_of 8 s j) = horner_bits (bytes_of 8 s j) (bytes_small 8 s j b) 0 0 in
    let f : bits_of (drop j s) ≡ num_bits 64 x ++ rest =
    ap bits_of (bytes_front 8 s j h) ∙ bits_of_append (bytes_of 8 s j) (drop (j + 8) s) ∙ ap (λ (l : List Bool). l ++ rest) (sym w) in
    let k : 64 ≡ t + (64 - t) = omega arith in
    ap (λ (n : ℕ). drop n (bits_of s)) ea
    ∙ sym (drop-drop t (8 * j) (bits_of s))
    ∙ ap (λ (l : List Bool). drop t l) (drop_bytes j s ∙ f)
    ∙ drop-append-le t (num_bits 64 x) rest (omega (arith, length_num_bits 64 x))
    ∙ ap (λ (l : List Bool). l ++ rest) (ap (λ (n : ℕ). drop t (num_bits n x)) k ∙ num_bits_past t (64 - t) x)

-- eight bytes, or the last eight
pub ahead_long : (s : List ℕ) (at j r : ℕ) → Bytes s → at < 8 * length s → 8 * j ≤ at → j + 8 ≤ length s → (j + 8 < length s → at ≤ 8 * j + 7) →
    r ≡ (four_of s j * 4294967296 + four_of s (j + 4)) * 2 ^ (at - 8 * j) % 2 ^ 64 / 2 ^ 7 → num_bits 57 r ≡ padded 57 (drop at (bits_of s))
unfolding bits_of
ahead_long s at j r b h lo hi far e =
    let x = horner 0 (bytes_of 8 s j) in
    let t = at - 8 * j in
    let rest = bits_of (drop (j + 8) s) in
    let a : at ≡ 8 * j + t = omega arith in
    let u : t ≤ 64 = elim (dec_lt (j + 8) (length s)) [ yes l ↦ omega (arith, far l) | no g ↦ omega arith ] in
    let f = ahead_eight s at j t b a u hi in
    let last : padded 57 (num_bits (64 - t) x) ≡ padded 57 (num_bits (64 - t) x ++ rest) = elim (dec_lt (j + 8) (length s)) [
      | yes l ↦ sym (pad_front 57 (num_bits (64 - t) x) rest (omega (arith, length_num_bits (64 - t) x, far l)))
      | no g ↦ sym (ap (λ (l : List ℕ). padded 57 (num_bits (64 - t) x ++ bits_of l)) (none (omega arith)) ∙ ap (padded 57) (append-nil (num_bits (64 - t) x)))
    ] in
    ap (λ (y : ℕ). num_bits 57 y) (e ∙ ap (λ (n : ℕ). n * 2 ^ t % 2 ^ 64 / 2 ^ 7) (four_four s j)) ∙ shifted_up x t u ∙ last ∙ ap (padded 57) (sym f)
  where
    none : length s ≤ j + 8 → drop (j + 8) s ≡ []
    none g = drop_of_length-le s {i = j + 8} g

-- the loop over bytes, in its own forms
pub horner_more : (s : List ℕ) (w i : ℕ) → i < length s → horner w (drop i s) ≡ horner (w * 256 + get_or s i 0) (drop (i + 1) s)
unfolding horner
horner_more s w i h = rw (drop-cons s i 0 h, ← add-one i)

pub horner_end : (s : List ℕ) (w i : ℕ) → length s ≤ i → horner w (drop i s) ≡ w
unfolding horner
horner_end s w i h = rw (drop_of_length-le s h)

-- a byte more at the low end
pub byte_grow : (i w b : ℕ) → i ≤ 6 → w < 2 ^ (8 * i) → b < 256 → (w * 256 + b < 2 ^ (8 * (i + 1))) × (w * 256 + b < 2 ^ 64)
byte_grow i w b h l k =
    let e : 8 * (i + 1) ≡ 8 * i + 8 = omega arith in
    let p : 2 ^ (8 * (i + 1)) ≡ 2 ^ (8 * i) * 2 ^ 8 = ap (λ (x : ℕ). 2 ^ x) e ∙ pow-add 2 (8 * i) 8 in
    let m : 2 ^ (8 * i) ≤ 2 ^ 48 = pow_mono {j = 48} (omega arith) in
    (omega (arith, p), omega (arith, m))

-- ---- a number from it

pub ahead_number : (B : List Bool) (at k w : ℕ) → w < 2 ^ 57 → num_bits 57 w ≡ padded 57 (drop at B) → k ≤ 57 → at + k ≤ length B →
    got (w / 2 ^ (57 - k)) (at + k) ≡ num_of k 0 at (drop at B)
ahead_number B at k w hw e hk h =
    let n = w / 2 ^ (57 - k) in
    let s : k + (57 - k) ≡ 57 = omega arith in
    let l : k ≤ length (drop at B) = omega (arith, length-drop at B) in
    let f : num_bits k n ≡ take k (drop at B) =
    sym (top k (57 - k) w) ∙ ap (λ (i : ℕ). padded k (num_bits i w)) s ∙ ap (padded k) e ∙ pad_less k 57 (drop at B) hk ∙ pad_take k (drop at B) l in
    let d : drop at B ≡ num_bits k n ++ drop (at + k) B =
    sym (take-append-drop k (drop at B)) ∙ ap₂ (λ (x y : List Bool). x ++ y) (sym f) (drop-drop k at B) in
    let p : 57 ≡ k + (57 - k) = omega arith in
    sym (num_here k n at B (drop (at + k) B) d (shr_lt k (57 - k) (subst (λ (x : ℕ). w < 2 ^ x) p hw))).0

-- a number that does not lie in the bits whole
pub number_cut : (s : List ℕ) (at k : ℕ) → length s * 8 < at + k → 0 < k → None ≡ num_of k 0 at (drop at (bits_of s))
number_cut s at k h p = sym (num_short k 0 at (drop at (bits_of s)) (omega (arith, length-drop at (bits_of s), length_bits_of s)))

-- ---- ones from it

-- all n are ones: they stand in L, and the rest follows
pub ahead_full : (n a b : ℕ) (L : List Bool) → ones_of a b (padded n L) ≡ None → (v at : ℕ) →
    (n ≤ length L) × (ones_of v at L ≡ ones_of (v + n) (at + n) (drop n L))
unfolding ones_of padded
ahead_full zero a b L e v at = (omega arith, ap₂ (λ (x y : ℕ). ones_of x y L) (omega arith) (omega arith))
ahead_full (suc n) a b [] e v at = let z : ◌≡◌ {A = ℕ} 0 1 = cc in absurd (omega arith)
ahead_full (suc n) a b (true ∷ L) e v at =
    let r = ahead_full n (a + 1) (b + 1) L e (v + 1) (at + 1) in
    (omega (arith, r.0), r.1 ∙ ap₂ (λ (x y : ℕ). ones_of x y (drop n L)) (omega arith) (omega arith))
ahead_full (suc n) a b (false ∷ L) e v at = let z : ◌≡◌ {A = ℕ} 0 1 = cc in absurd (omega arith)

-- m ones and a zero: they stand in L, or L is m ones at most
pub ahead_some : (n a b : ℕ) (L : List Bool) (w next m : ℕ) → ones_of a b (padded n L) ≡ got w next → w ≡ a + m → (v at : ℕ) →
    (m < length L → got (v + m) (at + m + 1) ≡ ones_of v at L) × (length L ≤ m → None ≡ ones_of v at L)
unfolding ones_of padded
ahead_some zero a b L w next m e q v at = let z : ◌≡◌ {A = ℕ} 0 1 = cc in absurd (omega arith)
ahead_some (suc n) a b [] w next m e q v at = ((λ h. absurd (omega arith)), λ h. refl)
ahead_some (suc n) a b (true ∷ L) w next m e q v at =
    let g = ones_got (a + 1) (b + 1) (padded n L) w next e in
    let c : w ≡ a + 1 + (m - 1) = omega (arith, g.count) in
    let p : 0 < m = omega (arith, g.count) in
    let r = ahead_some n (a + 1) (b + 1) L w next (m - 1) e c (v + 1) (at + 1) in
    ((λ h. ap₂ got (omega arith) (omega arith) ∙ r.0 (omega arith)), λ h. r.1 (omega arith))
ahead_some (suc n) a b (false ∷ L) w next m e q v at =
    let c : m ≡ 0 = omega (arith, got_v e) in
    ((λ h. ap₂ got (omega arith) (omega arith)), λ h. absurd (omega arith))

-- in the code's forms: the word's ones, and how many bits are left
module _ (s : List ℕ) (at w : ℕ) (e : num_bits 57 w ≡ padded 57 (drop at (bits_of s))) where
  pub ones_on : (n : Option (ℕ × ℕ)) → n ≡ ones_of 0 0 (drop 0 (num_bits 57 w)) → n ≡ None → (v : ℕ) →
      (at + 57 ≤ length s * 8) × (ones_of v at (drop at (bits_of s)) ≡ ones_of (v + 57) (at + 57) (drop (at + 57) (bits_of s)))
  ones_on n o g v =
      let r = ahead_full 57 0 0 (drop at (bits_of s)) (rw (← e) (sym o ∙ g)) v at in (
        omega (arith, r.0, length-drop at (bits_of s), length_bits_of s),
        r.1 ∙ ap (λ (l : List Bool). ones_of (v + 57) (at + 57) l) (drop-drop 57 at (bits_of s)),
      )

  module _ (n : Option (ℕ × ℕ)) (o : n ≡ ones_of 0 0 (drop 0 (num_bits 57 w))) (m next : ℕ) (g : n ≡ got m next) (v : ℕ) where
    found : (m < length (drop at (bits_of s)) → got (v + m) (at + m + 1) ≡ ones_of v at (drop at (bits_of s))) ×
        (length (drop at (bits_of s)) ≤ m → None ≡ ones_of v at (drop at (bits_of s)))
    found = ahead_some 57 0 0 (drop at (bits_of s)) m next m (rw (← e) (sym o ∙ g)) (omega arith) v at

    pub ones_here : m < length s * 8 - at → got (v + m) (at + m + 1) ≡ ones_of v at (drop at (bits_of s))
    ones_here h = found.0 (omega (arith, length-drop at (bits_of s), length_bits_of s))

    pub ones_past : length s * 8 - at ≤ m → None ≡ ones_of v at (drop at (bits_of s))
    ones_past h = found.1 (omega (arith, length-drop at (bits_of s), length_bits_of s))
