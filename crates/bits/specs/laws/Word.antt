-- 57 bits as one number: what is read inside them is what is read of their bits, and it ends inside them.
use Rattle.std.specs.Prelude.{None}
use Rattle.std.specs.Prelude.{ℕ, zero, suc, ◌+◌, ◌*◌, ◌-◌, ◌/◌, ◌%◌, ◌^◌, ◌≤◌, ◌<◌, ◌≡◌, refl, Bool, true, false, List, [], ◌∷◌, ◌++◌, length, drop, get_or}
use Rattle.std.specs.Prelude.{replicate}
use Rattle.std.proofs.Common.{sym, ap, ap₂, ◌∙◌, append-nil, append_assoc, arith, pow-suc, mod-lt, le_refl, zero-add, one-mul, mul-le-mul_left}
use Rattle.std.proofs.Common.{div-lt_iff_lt-mul, length-append, length-drop, drop_of_length-le, drop_at, drop-drop, drop-cons, shr-shr, pow_pos, pow_mono}
use Rattle.std.proofs.Math.Decide.{dec_lt}
use Rattle.std.proofs.Math.Nat.{div-eq_of_lt, div-eq_of_lt-le}
use Rattle.std.proofs.lemmas.List.{length-replicate, drop-append-le}
use Rattle.std.proofs.Math.Seq.{drop-append-add}
use Rattle.std.proofs.lemmas.Nat.{shl-shr, leading_length}
use Rattle.std.proofs.Math.Pow.{field, high, low, mod-mod-pow}
use Rattle.std.specs.Int.Count.{count_leading_zeros, leading_unique}
use Rattle.bits.specs.Bits.{got, odd, val, num_bits, bits_of, ones_of, num_of, gr_of, gr_bits}
use Rattle.bits.specs.Word.{four_of, front_ones, front_zeros, horner}
use Rattle.bits.specs.laws.Bit.{length_num_bits, num_put, ones_got, gr_cut, gr_cut_low, gr_got, gr_small, num_got_lt}
use Rattle.bits.specs.laws.Here.{num_bits_mod, num_there, gr_there, length_gr_bits}
use Rattle.bits.specs.laws.Lead.{ones_lead, lead_low, lead_high}
use Rattle.bits.specs.laws.Bytes.{Bytes}
use Rattle.bits.specs.laws.Pen.{bits_of_append, num_bits_shift}

-- the high bits of a number, then its low ones
pub num_bits_split : (a b n : ℕ) → num_bits (a + b) n ≡ num_bits a (n / 2 ^ b) ++ num_bits b n
unfolding num_bits
num_bits_split zero b n = let e : 0 + b ≡ b = omega arith in ap (λ (k : ℕ). num_bits k n) e
num_bits_split (suc a) b n =
    let e : suc a + b ≡ suc (a + b) = omega arith in
    let f : b + a ≡ a + b = omega arith in
    let q : n / 2 ^ (a + b) ≡ n / 2 ^ b / 2 ^ a = sym (shr-shr n b a ∙ ap (λ (x : ℕ). n / 2 ^ x) f) in
    ap (λ (k : ℕ). num_bits k n) e ∙ ap₂ (λ (x : ℕ) (l : List Bool). odd x ∷ l) q (num_bits_split a b n)

-- what stands past the first a of a + b bits
pub num_bits_past : (a b n : ℕ) → drop a (num_bits (a + b) n) ≡ num_bits b n
num_bits_past a b n =
    ap (λ (l : List Bool). drop a l) (num_bits_split a b n)
    ∙ drop_at (num_bits a (n / 2 ^ b)) (num_bits b n) a (length_num_bits a (n / 2 ^ b))

-- ---- a number in the word

-- k bits at place `at` of the 57 bits of w
num-in : (w at k : ℕ) → at + k ≤ 57 → num_of k 0 at (drop at (num_bits 57 w)) ≡ got (w / 2 ^ (57 - at - k) % 2 ^ k) (at + k)
num-in w at k h =
    let r = 57 - at - k in
    let e : 57 ≡ at + (k + r) = omega arith in
    let d : drop at (num_bits 57 w) ≡ num_bits k (w / 2 ^ r) ++ num_bits r w =
    ap (λ (n : ℕ). drop at (num_bits n w)) e ∙ num_bits_past at (k + r) w ∙ num_bits_split k r w in
    ap (λ (l : List Bool). num_of k 0 at l) d
    ∙ num_put k (w / 2 ^ r) 0 at (num_bits r w)
    ∙ ap (λ (n : ℕ). got n (at + k)) (omega arith)

pub num_short : (k acc at : ℕ) (bs : List Bool) → length bs < k → num_of k acc at bs ≡ None
unfolding num_of
num_short zero acc at bs h = absurd (omega arith)
num_short (suc k) acc at [] h = refl
num_short (suc k) acc at (b ∷ bs) h = num_short k (acc * 2 + val b) (at + 1) bs (omega arith)

-- in the code's forms
pub in_cut : (w at k : ℕ) → 57 - at < k → None ≡ num_of k 0 at (drop at (num_bits 57 w))
in_cut w at k l =
    sym (num_short k 0 at (drop at (num_bits 57 w)) (omega (arith, length-drop at (num_bits 57 w), length_num_bits 57 w)))

-- the bits before a field shifted out above, then those behind it below
field_left : (w at k : ℕ) → at + k ≤ 57 → w * 2 ^ 7 % 2 ^ 64 * 2 ^ at % 2 ^ 64 / 2 ^ 1 / 2 ^ (63 - k) ≡ w / 2 ^ (57 - at - k) % 2 ^ k
field_left w at k h =
    let r = 57 - at - k in
    let x = w * 2 ^ 7 % 2 ^ 64 in
    let down : 1 + (63 - k) ≡ 64 - k = omega arith in
    let whole : k + (64 - k) ≡ 64 = omega arith in
    let back : at + (7 + r) ≡ 64 - k = omega arith in
    let part : at + k + r ≡ 57 = omega arith in
    let a : x * 2 ^ at % 2 ^ 64 / 2 ^ 1 / 2 ^ (63 - k) ≡ x * 2 ^ at % 2 ^ 64 / 2 ^ (64 - k) =
    shr-shr (x * 2 ^ at % 2 ^ 64) 1 (63 - k) ∙ ap (λ (n : ℕ). x * 2 ^ at % 2 ^ 64 / 2 ^ n) down in
    let b : x * 2 ^ at % 2 ^ 64 / 2 ^ (64 - k) ≡ x * 2 ^ at / 2 ^ (64 - k) % 2 ^ k =
    ap (λ (n : ℕ). x * 2 ^ at % 2 ^ n / 2 ^ (64 - k)) (sym whole) ∙ field (x * 2 ^ at) k (64 - k) in
    let c : x * 2 ^ at / 2 ^ (64 - k) ≡ x / 2 ^ 7 / 2 ^ r =
    ap (λ (n : ℕ). x * 2 ^ at / 2 ^ n) (sym back) ∙ sym (shr-shr (x * 2 ^ at) at (7 + r)) ∙ ap (λ (n : ℕ). n / 2 ^ (7 + r)) (shl-shr x at)
    ∙ sym (shr-shr x 7 r) in
    let d : x / 2 ^ 7 ≡ w % 2 ^ 57 = field (w * 2 ^ 7) 57 7 ∙ ap (λ (n : ℕ). n % 2 ^ 57) (shl-shr w 7) in
    let e : w % 2 ^ 57 / 2 ^ r ≡ w / 2 ^ r % 2 ^ (at + k) = ap (λ (n : ℕ). w % 2 ^ n / 2 ^ r) (sym part) ∙ field w (at + k) r in
    a ∙ b ∙ ap (λ (n : ℕ). n % 2 ^ k) (c ∙ ap (λ (n : ℕ). n / 2 ^ r) d ∙ e) ∙ mod-mod-pow (w / 2 ^ r) at k

pub in_got : (w at k n : ℕ) → at + k ≤ 57 → n ≡ w * 2 ^ 7 % 2 ^ 64 * 2 ^ at % 2 ^ 64 / 2 ^ 1 / 2 ^ (63 - k) →
    got n (at + k) ≡ num_of k 0 at (drop at (num_bits 57 w))
in_got w at k n h e = ap (λ (x : ℕ). got x (at + k)) (e ∙ field_left w at k h) ∙ sym (num-in w at k h)

-- ---- ones in the word

-- the leading zeros of a number of k bits in a word of k + j
lead_wide : (j k c : ℕ) → c < 2 ^ k → count_leading_zeros (j + k) c ≡ j + count_leading_zeros k c
lead_wide j k c h =
    let s = leading_length k c h in
    sym (leading_unique (j + k) c (j + count_leading_zeros k c) s.0 (omega (arith, s.1)) s.2 s.3)

-- the ones that some bits begin with, read: a zero ends them, or the bits end first
front_some : (v at : ℕ) (bs : List Bool) → front_ones bs < length bs → ones_of v at bs ≡ got (v + front_ones bs) (at + front_ones bs + 1)
unfolding front_ones ones_of
front_some v at [] h = absurd (omega arith)
front_some v at (true ∷ bs) h = front_some (v + 1) (at + 1) bs (omega arith) ∙ ap₂ got (omega arith) (omega arith)
front_some v at (false ∷ bs) h = ap₂ got (omega arith) (omega arith)

front_none : (v at : ℕ) (bs : List Bool) → length bs ≤ front_ones bs → ones_of v at bs ≡ None
unfolding front_ones ones_of
front_none v at [] h = refl
front_none v at (true ∷ bs) h = front_none (v + 1) (at + 1) bs (omega arith)
front_none v at (false ∷ bs) h = absurd (omega arith)

ones_le : (bs : List Bool) → front_ones bs ≤ length bs
unfolding front_ones
ones_le [] = omega arith
ones_le (true ∷ bs) = omega (arith, ones_le bs)
ones_le (false ∷ bs) = omega arith

-- a zero behind them, and whatever follows it, does not count
front_behind : (p rest : List Bool) → front_ones (p ++ (false ∷ rest)) ≡ front_ones p
unfolding front_ones
front_behind [] rest = refl
front_behind (true ∷ p) rest = ap suc (front_behind p rest)
front_behind (false ∷ p) rest = refl

-- in the code's forms
module _ (w at : ℕ) (h : at ≤ 57) where
  past_is : drop at (num_bits 57 w) ≡ num_bits (57 - at) w
  past_is = let e : 57 ≡ at + (57 - at) = omega arith in ap (λ (n : ℕ). drop at (num_bits n w)) e ∙ num_bits_past at (57 - at) w

  past_long : length (drop at (num_bits 57 w)) ≡ 57 - at
  past_long = ap length past_is ∙ length_num_bits (57 - at) w

  -- what stands at a place, shifted up: its bits, then zeros
  up_is : num_bits 64 (w * 2 ^ 7 % 2 ^ 64 * 2 ^ at % 2 ^ 64) ≡ drop at (num_bits 57 w) ++ (replicate 7 false ++ replicate at false)
  up_is =
      let x = w * 2 ^ 7 % 2 ^ 64 in
      let r = 57 - at in
      let a : 64 ≡ r + 7 + at = omega arith in
      num_bits_mod 64 64 (x * 2 ^ at) (le_refl 64)
      ∙ ap (λ (n : ℕ). num_bits n (x * 2 ^ at)) a
      ∙ num_bits_shift at (r + 7) x
      ∙ ap (λ (l : List Bool). l ++ replicate at false)
      (num_bits_mod 64 (r + 7) (w * 2 ^ 7) (omega arith) ∙ num_bits_shift 7 r w ∙ ap (λ (l : List Bool). l ++ replicate 7 false) (sym past_is))
      ∙ append_assoc (drop at (num_bits 57 w)) (replicate 7 false) (replicate at false)

  pub in_lead : count_leading_zeros 64 (18446744073709551615 - w * 2 ^ 7 % 2 ^ 64 * 2 ^ at % 2 ^ 64) ≡ front_ones (drop at (num_bits 57 w))
  in_lead =
      let x = w * 2 ^ 7 % 2 ^ 64 * 2 ^ at % 2 ^ 64 in
      sym (ones_lead 64 x (mod-lt (w * 2 ^ 7 % 2 ^ 64 * 2 ^ at) (pow_pos 64)))
      ∙ ap front_ones up_is
      ∙ front_behind (drop at (num_bits 57 w)) (replicate 6 false ++ replicate at false)

  module _ (m : ℕ) (e : m ≡ front_ones (drop at (num_bits 57 w))) where
    pub in_few : m ≤ 57 - at
    in_few = omega (arith, e, past_long, ones_le (drop at (num_bits 57 w)))

    pub in_ones : m < 57 - at → got m (at + m + 1) ≡ ones_of 0 at (drop at (num_bits 57 w))
    in_ones l = ap₂ got (omega (arith, e)) (omega (arith, e)) ∙ sym (front_some 0 at (drop at (num_bits 57 w)) (omega (arith, e, past_long)))

    pub in_none : 57 - at ≤ m → None ≡ ones_of 0 at (drop at (num_bits 57 w))
    in_none l = sym (front_none 0 at (drop at (num_bits 57 w)) (omega (arith, e, past_long)))

    -- a GR number that begins with m ones
    pub in_gr_cut : (k : ℕ) → 57 - at < m + 1 + k → None ≡ gr_of k at (num_bits 57 w)
    in_gr_cut k l = elim (dec_lt m (57 - at)) [ yes s ↦ some s | no n ↦ sym (gr_cut k at (num_bits 57 w) (sym (in_none (omega arith)))) ]
      where
        some : m < 57 - at → None ≡ gr_of k at (num_bits 57 w)
        some s = sym (gr_cut_low k at (num_bits 57 w) m (at + m + 1) (sym (in_ones s)) (sym (in_cut w (at + m + 1) k (omega arith))))

    module _ (k b : ℕ) (hk : k ≤ 10) (l : m + 1 + k ≤ 57 - at) (f : got b (at + m + 1 + k) ≡ num_of k 0 (at + m + 1) (drop (at + m + 1) (num_bits 57 w))) where
      pub in_gr_fits : (m * 2 ^ k % 2 ^ 64 ≡ m * 2 ^ k) × (m * 2 ^ k + b < 2 ^ 31)
      in_gr_fits =
          gr_small k m b hk (omega arith) (rw (one-mul) at (num_got_lt k 0 (at + m + 1) (drop (at + m + 1) (num_bits 57 w)) b (at + m + 1 + k) (sym f)))

      pub in_gr : got (m * 2 ^ k % 2 ^ 64 + b) (at + (m + 1 + k)) ≡ gr_of k at (num_bits 57 w)
      in_gr =
          let n : at + (m + 1 + k) ≡ at + m + 1 + k = omega arith in
          rw (in_gr_fits.0, n) (sym (gr_got k at (num_bits 57 w) m (at + m + 1) b (at + m + 1 + k) (sym (in_ones (omega arith))) (sym f)))

-- what ones found in a word leave room for
pub in_place : (w at v mid : ℕ) → ones_of 0 at (drop at (num_bits 57 w)) ≡ got v mid → (mid ≤ 57) × (v < 57)
in_place w at v mid e =
    let r = ones_got 0 at (drop at (num_bits 57 w)) v mid e in
    let l = length-append (replicate r.n true) (false ∷ r.rest) in
    let a = ap length r.front in
    let n = length-replicate r.n true in
    let d = length-drop at (num_bits 57 w) in
    let k = length_num_bits 57 w in
    (omega (arith, r.place, l, a, n, d, k), omega (arith, r.count, l, a, n, d, k))

-- ---- what is read inside a word ends inside it

pub num_within : (w at k n next : ℕ) → at ≤ 57 → num_of k 0 at (drop at (num_bits 57 w)) ≡ got n next → next ≤ 57
num_within w at k n next h e =
    let t = num_there k at (num_bits 57 w) n next e in
    let l : length (drop at (num_bits 57 w)) ≡ length (num_bits k n) + length (drop next (num_bits 57 w)) =
    ap length t.2 ∙ length-append (num_bits k n) (drop next (num_bits 57 w)) in
    omega (arith, t.1, l, length_num_bits k n, length-drop at (num_bits 57 w), length-drop next (num_bits 57 w), length_num_bits 57 w)

pub gr_within : (w at k g next : ℕ) → k ≤ 10 → gr_of k at (num_bits 57 w) ≡ got g next → (next ≤ 57) × (g < 2 ^ 31)
gr_within w at k g next hk e =
    let t = gr_there k at (num_bits 57 w) g next e in
    let l : length (drop at (num_bits 57 w)) ≡ length (gr_bits k g) + length (drop next (num_bits 57 w)) =
    ap length t.1 ∙ length-append (gr_bits k g) (drop next (num_bits 57 w)) in
    let d = length-drop at (num_bits 57 w) in
    let b = length_num_bits 57 w in
    let q : g / 2 ^ k < 57 = omega (arith, l, length_gr_bits k g, d, b) in
    let p : 2 ^ k ≤ 1024 = pow_mono {j = 10} hk in
    let m : 57 * 2 ^ k ≤ 57 * 1024 = mul-le-mul_left 57 p in
    let s : g < 57 * 2 ^ k = (div-lt_iff_lt-mul (pow_pos k)).0 q in
    (omega (arith, t.0, l, length_gr_bits k g, d, length-drop next (num_bits 57 w), b), omega (arith, s, m))

-- ---- 57 bits of a byte list

-- a number's bits and a byte's behind them
byte_more : (k acc b : ℕ) → b < 256 → num_bits (k + 8) (acc * 256 + b) ≡ num_bits k acc ++ num_bits 8 b
byte_more k acc b h =
    let q : (acc * 2 ^ 8 + b) / 2 ^ 8 ≡ acc = high acc 8 h in
    let r : (acc * 2 ^ 8 + b) % 2 ^ 8 ≡ b = low acc 8 h in
    num_bits_split k 8 (acc * 256 + b)
    ∙ ap₂ (λ (x y : List Bool). x ++ y)
    (ap (λ (n : ℕ). num_bits k n) q)
    (sym (num_bits_mod 8 8 (acc * 256 + b) (le_refl 8)) ∙ ap (λ (n : ℕ). num_bits 8 n) r)

pub horner_bits : (bs : List ℕ) → Bytes bs → (k acc : ℕ) → num_bits (k + 8 * length bs) (horner acc bs) ≡ num_bits k acc ++ bits_of bs
unfolding horner bits_of
horner_bits [] h k acc = let e : k + 0 ≡ k = omega arith in ap (λ (n : ℕ). num_bits n acc) e ∙ sym (append-nil (num_bits k acc))
horner_bits (b ∷ bs) h k acc =
    let e : k + 8 * suc (length bs) ≡ k + 8 + 8 * length bs = omega arith in
    ap (λ (n : ℕ). num_bits n (horner (acc * 256 + b) bs)) e
    ∙ horner_bits bs (λ i. h (suc i)) (k + 8) (acc * 256 + b)
    ∙ ap (λ (l : List Bool). l ++ bits_of bs) (byte_more k acc b (h 0))
    ∙ append_assoc (num_bits k acc) (num_bits 8 b) (bits_of bs)

-- the bits from a byte on
pub drop_bytes : (j : ℕ) (s : List ℕ) → drop (8 * j) (bits_of s) ≡ bits_of (drop j s)
unfolding bits_of
drop_bytes zero s = refl
drop_bytes (suc j) [] = drop_of_length-le {A = Bool} [] {i = 8 * suc j} (omega arith)
drop_bytes (suc j) (b ∷ s) =
    let e : 8 * suc j ≡ length (num_bits 8 b) + 8 * j = omega (arith, length_num_bits 8 b) in
    ap (λ (n : ℕ). drop n (num_bits 8 b ++ bits_of s)) e ∙ drop-append-add (num_bits 8 b) (bits_of s) (8 * j) ∙ drop_bytes j s

-- n bytes of a list from place j on
unfoldable pub bytes_of : ℕ → List ℕ → ℕ → List ℕ
bytes_of zero s j = []
bytes_of (suc n) s j = get_or s j 0 ∷ bytes_of n s (j + 1)

pub bytes_front : (n : ℕ) (s : List ℕ) (j : ℕ) → j + n ≤ length s → drop j s ≡ bytes_of n s j ++ drop (j + n) s
unfolding bytes_of
bytes_front zero s j h = let e : j ≡ j + 0 = omega arith in ap (λ (m : ℕ). drop m s) e
bytes_front (suc n) s j h =
    let e : suc j ≡ j + 1 = omega arith in
    let f : j + 1 + n ≡ j + suc n = omega arith in
    drop-cons s j 0 (omega arith)
    ∙ ap (λ (m : ℕ). get_or s j 0 ∷ drop m s) e
    ∙ ap (λ (l : List ℕ). get_or s j 0 ∷ l) (bytes_front n s (j + 1) (omega arith) ∙ ap (λ (m : ℕ). bytes_of n s (j + 1) ++ drop m s) f)

pub bytes_small : (n : ℕ) (s : List ℕ) (j : ℕ) → Bytes s → Bytes (bytes_of n s j)
unfolding bytes_of
bytes_small zero s j b i = omega arith
bytes_small (suc n) s j b zero = b j
bytes_small (suc n) s j b (suc i) = bytes_small n s (j + 1) b i

-- the 57 bits at a place, of eight bytes read as one number
shifted : (e r q : ℕ) → r + q ≡ 7 → e * 2 ^ r % 2 ^ 64 / 2 ^ 7 ≡ e / 2 ^ q % 2 ^ 57
shifted e r q h =
    let a : e * 2 ^ r / 2 ^ 7 ≡ e / 2 ^ q =
    ap (λ (n : ℕ). e * 2 ^ r / 2 ^ n) (sym h) ∙ sym (shr-shr (e * 2 ^ r) r q) ∙ ap (λ (n : ℕ). n / 2 ^ q) (shl-shr e r) in
    field (e * 2 ^ r) 57 7 ∙ ap (λ (n : ℕ). n % 2 ^ 57) a

look_is : (s : List ℕ) → Bytes s → (at j r q : ℕ) → at ≡ 8 * j + r → r + q ≡ 7 → j + 8 ≤ length s →
    num_of 57 0 at (drop at (bits_of s)) ≡ got (horner 0 (bytes_of 8 s j) * 2 ^ r % 2 ^ 64 / 2 ^ 7) (at + 57)
unfolding num_bits bytes_of
look_is s b at j r q ea eq h =
    let bytes = bytes_of 8 s j in
    let e = horner 0 bytes in
    let rest = bits_of (drop (j + 8) s) in
    let w : num_bits 64 e ≡ bits_of bytes = horner_bits bytes (bytes_small 8 s j b) 0 0 in
    let f : bits_of (drop j s) ≡ num_bits 64 e ++ rest =
    ap bits_of (bytes_front 8 s j h) ∙ bits_of_append bytes (drop (j + 8) s) ∙ ap (λ (l : List Bool). l ++ rest) (sym w) in
    let k : 64 ≡ r + (57 + q) = omega arith in
    let d : drop r (num_bits 64 e ++ rest) ≡ num_bits 57 (e / 2 ^ q) ++ (num_bits q e ++ rest) =
    drop-append-le r (num_bits 64 e) rest (omega (arith, length_num_bits 64 e))
    ∙ ap (λ (l : List Bool). l ++ rest) (ap (λ (n : ℕ). drop r (num_bits n e)) k ∙ num_bits_past r (57 + q) e ∙ num_bits_split 57 q e)
    ∙ append_assoc (num_bits 57 (e / 2 ^ q)) (num_bits q e) rest in
    let t : drop at (bits_of s) ≡ num_bits 57 (e / 2 ^ q) ++ (num_bits q e ++ rest) =
    ap (λ (n : ℕ). drop n (bits_of s)) ea
    ∙ sym (drop-drop r (8 * j) (bits_of s))
    ∙ ap (λ (l : List Bool). drop r l) (drop_bytes j s ∙ f)
    ∙ d in
    ap (λ (l : List Bool). num_of 57 0 at l) t
    ∙ num_put 57 (e / 2 ^ q) 0 at (num_bits q e ++ rest)
    ∙ ap (λ (n : ℕ). got n (at + 57)) (last e)
  where
    last : (e : ℕ) → 0 * 2 ^ 57 + e / 2 ^ q % 2 ^ 57 ≡ e * 2 ^ r % 2 ^ 64 / 2 ^ 7
    last e = let z : 0 * 2 ^ 57 + e / 2 ^ q % 2 ^ 57 ≡ e / 2 ^ q % 2 ^ 57 = zero-add _ in z ∙ sym (shifted e r q eq)

-- eight bytes as two fours
pub four_four : (s : List ℕ) (j : ℕ) → four_of s j * 4294967296 + four_of s (j + 4) ≡ horner 0 (bytes_of 8 s j)
unfolding horner bytes_of
four_four s j =
    let a : j + 1 + 1 ≡ j + 2 = omega arith in
    let b : j + 2 + 1 ≡ j + 3 = omega arith in
    let c : j + 3 + 1 ≡ j + 4 = omega arith in
    let d : j + 4 + 2 ≡ j + 4 + 1 + 1 = omega arith in
    let f : j + 4 + 3 ≡ j + 4 + 1 + 1 + 1 = omega arith in
    rw (a, b, c, d, f) (omega arith)

pub look_four : (s : List ℕ) (at r : ℕ) → Bytes s → at / 8 + 8 ≤ length s →
    r ≡ (four_of s (at / 8) * 4294967296 + four_of s (at / 8 + 4)) * 2 ^ (at % 8) % 2 ^ 64 / 2 ^ 7 →
    got r (at + 57) ≡ num_of 57 0 at (drop at (bits_of s))
look_four s at r b h e =
    ap (λ (n : ℕ). got n (at + 57)) (e ∙ ap (λ (n : ℕ). n * 2 ^ (at % 8) % 2 ^ 64 / 2 ^ 7) (four_four s (at / 8)))
    ∙ sym (look_is s b at (at / 8) (at % 8) (7 - at % 8) (omega arith) (omega arith) h)

-- ---- the zeros that bits begin with

pub front_is : (bs : List Bool) → bs ≡ replicate (front_zeros bs) false ++ drop (front_zeros bs) bs
unfolding front_zeros
front_is [] = refl
front_is (false ∷ bs) = ap (λ (l : List Bool). false ∷ l) (front_is bs)
front_is (true ∷ bs) = refl

-- what ends them is a one
pub front_stop : (bs : List Bool) (m : ℕ) → m ≡ front_zeros bs → m < length bs → drop m bs ≡ true ∷ drop (m + 1) bs
unfolding front_zeros
front_stop [] m e h = absurd (omega arith)
front_stop (false ∷ bs) zero e h = absurd (omega arith)
front_stop (false ∷ bs) (suc m) e h =
    let f : suc (m + 1) ≡ suc m + 1 = omega arith in
    front_stop bs m (omega (arith, e)) (omega arith) ∙ ap (λ (n : ℕ). true ∷ drop n (false ∷ bs)) f
front_stop (true ∷ bs) zero e h = refl
front_stop (true ∷ bs) (suc m) e h = absurd (omega (arith, e))

front_le : (bs : List Bool) → front_zeros bs ≤ length bs
unfolding front_zeros
front_le [] = omega arith
front_le (false ∷ bs) = omega (arith, front_le bs)
front_le (true ∷ bs) = omega arith

front_lead : (k n : ℕ) → n < 2 ^ k → front_zeros (num_bits k n) ≡ count_leading_zeros k n
unfolding front_zeros num_bits count_leading_zeros
front_lead zero n h = refl
front_lead (suc k) n h = elim (dec_lt n (2 ^ k)) [ yes l ↦ under l (front_lead k n l) | no g ↦ over (omega arith) ]
  where
    p : 2 ^ suc k ≡ 2 ^ k * 2
    p = pow-suc 2 k

    under : n < 2 ^ k → front_zeros (num_bits k n) ≡ count_leading_zeros k n → front_zeros (num_bits (suc k) n) ≡ count_leading_zeros (suc k) n
    under l ih = let q : n / 2 ^ k ≡ 0 = div-eq_of_lt l in rw q (ap suc ih ∙ sym (lead_low k n l))

    over : 2 ^ k ≤ n → front_zeros (num_bits (suc k) n) ≡ count_leading_zeros (suc k) n
    over g = let q : n / 2 ^ k ≡ 1 = div-eq_of_lt-le (2 ^ k) (omega arith) (omega (arith, p)) in rw q (sym (lead_high k n g h))

-- in the code's form
pub front_in : (w : ℕ) → w < 2 ^ 57 → (7 ≤ count_leading_zeros 64 w) × (count_leading_zeros 64 w - 7 ≡ front_zeros (num_bits 57 w))
front_in w h =
    let e : count_leading_zeros 64 w ≡ 7 + count_leading_zeros 57 w = lead_wide 7 57 w h in
    let f = front_lead 57 w h in
    (omega (arith, e), omega (arith, e, f))

-- what a word begins with stands at its place
pub word_zeros : (w at : ℕ) (B : List Bool) → got w (at + 57) ≡ num_of 57 0 at (drop at B) →
    drop at B ≡ replicate (front_zeros (num_bits 57 w)) false ++ (drop (front_zeros (num_bits 57 w)) (num_bits 57 w) ++ drop (at + 57) B)
word_zeros w at B l =
    let z = front_zeros (num_bits 57 w) in
    (num_there 57 at B w (at + 57) (sym l)).2
    ∙ ap (λ (x : List Bool). x ++ drop (at + 57) B) (front_is (num_bits 57 w))
    ∙ append_assoc (replicate z false) (drop z (num_bits 57 w)) (drop (at + 57) B)

pub word_small : (w at : ℕ) (B : List Bool) → got w (at + 57) ≡ num_of 57 0 at (drop at B) → w < 2 ^ 57
word_small w at B l = (num_there 57 at B w (at + 57) (sym l)).0

pub zeros_few : (w m : ℕ) → m ≡ front_zeros (num_bits 57 w) → m ≤ 57
zeros_few w m e = omega (arith, e, front_le (num_bits 57 w), length_num_bits 57 w)
