-- A pen that takes many bits at once and puts whole bytes out: what waits may be more than a byte on the way.
use Rattle.std.specs.Prelude.{ℕ, zero, suc, ◌+◌, ◌*◌, ◌-◌, ◌/◌, ◌%◌, ◌^◌, ◌≤◌, ◌<◌, ◌≡◌, refl, Bool, true, length, drop, set, replicate}
use Rattle.std.proofs.Common.{sym, ap₂, subst, ◌∙◌, add-one, mod-eq_of_lt, mod-lt, le_refl, mul-le-mul, pow-suc, take-suc-set, pow-add, pow_mono, pow_pos}
use Rattle.std.proofs.Common.{shr-shr}
use Rattle.std.proofs.Math.Path.{ap}
use mathlib.Core.List.{List, [], ◌∷◌, ◌++◌, append_assoc, append-nil}
use native.Mathlib.Omega.{arith}
use Rattle.std.proofs.Math.ListN.{take, length-set}
use Rattle.std.proofs.lemmas.List.{replicate-append-replicate}
use Rattle.std.proofs.Math.Seq.{drop-set-lt}
use Rattle.std.proofs.Math.Arith.{digits_lt}
use Rattle.std.proofs.Math.Pow.{high, low}
use Rattle.bits.specs.Bits.{odd, bits_of, num_bits, gr_bits}
use Rattle.bits.specs.Pen.{pen_bits, Ready, Put, ReadyWide, PutWide}
use Rattle.bits.specs.laws.Bit.{length_num_bits}
use Rattle.bits.specs.laws.Gr.{gr_parts, gr_low}
use Rattle.bits.specs.laws.Here.{num_bits_mod}
use Rattle.bits.specs.laws.Pen.{later, bits_of_append}
use Rattle.bits.specs.laws.Word.{num_bits_split}
use Rattle.bits.specs.declared.Pen.{Pen}

-- n₀ bits wait at place at₀, the low ones of acc; of them n still wait at place `at`, and the others were put out
pub record Wide (before : List ℕ) (at₀ acc n₀ : ℕ) (out : List ℕ) (at n : ℕ) : Type 0 where
  pub place : at * 8 + n ≡ at₀ * 8 + n₀
  pub long : length out ≡ length before
  pub rest : drop at out ≡ drop at before
  pub bits : bits_of (take at out) ++ num_bits n acc ≡ bits_of (take at₀ before) ++ num_bits n₀ acc

-- a number's bits behind another's
two_numbers : (n k a b : ℕ) → b < 2 ^ k → num_bits (n + k) (a * 2 ^ k + b) ≡ num_bits n a ++ num_bits k b
two_numbers n k a b h =
    let x = a * 2 ^ k + b in
    num_bits_split n k x
    ∙ ap₂ (λ (s t : List Bool). s ++ t)
    (ap (λ (y : ℕ). num_bits n y) (high a k h))
    (sym (num_bits_mod k k x (le_refl k)) ∙ ap (λ (y : ℕ). num_bits k y) (low a k h))

-- how large what waits is
pub wide_fits : (p : Pen) (k v size : ℕ) → Ready size p k → k ≤ 32 →
    (1 * 2 ^ k % 2 ^ 64 ≡ 2 ^ k) × (p.acc * 2 ^ k % 2 ^ 64 ≡ p.acc * 2 ^ k) × (p.acc * 2 ^ k + v % 2 ^ k < 2 ^ 64)
wide_fits p k v size h l =
    let a : p.acc < 2 ^ p.n = h.small in
    let b : 2 ^ p.n ≤ 2 ^ 8 = pow_mono {j = 8} (omega (arith, h.few)) in
    let c : 2 ^ k ≤ 2 ^ 32 = pow_mono {j = 32} l in
    let d : p.acc * 2 ^ k ≤ 256 * 2 ^ 32 = mul-le-mul {n₂ = 256} {m₂ = 2 ^ 32} (omega arith) c in
    let e : 1 * 2 ^ k ≡ 2 ^ k = omega arith in
    let m : v % 2 ^ k < 2 ^ k = mod-lt v (pow_pos k) in
    (rw e (mod-eq_of_lt (omega arith)), mod-eq_of_lt (omega arith), omega arith)

pub wide_none : (before : List ℕ) (at acc n : ℕ) → Wide before at acc n before at n
wide_none before at acc n = record { place = refl; long = refl; rest = refl; bits = refl }

module _ (before : List ℕ) (at₀ acc n₀ : ℕ) (out : List ℕ) (at n : ℕ) (w : Wide before at₀ acc n₀ out at n) where
  -- a byte put out
  pub wide_byte : 8 ≤ n → at < length out → (x : ℕ) → x ≡ acc / 2 ^ (n - 8) % 256 → Wide before at₀ acc n₀ (set out at x) (at + 1) (n - 8)
  unfolding bits_of
  wide_byte h l x e =
      let m = n - 8 in
      let k : n ≡ 8 + m = omega arith in
      let T = bits_of (take at out) in
      let t : take (at + 1) (set out at x) ≡ take at out ++ (x ∷ []) = rw (add-one at) (take-suc-set out at x l) in
      let b : num_bits 8 x ≡ num_bits 8 (acc / 2 ^ m) = ap (λ (y : ℕ). num_bits 8 y) e ∙ num_bits_mod 8 8 (acc / 2 ^ m) (le_refl 8) in
      let c : bits_of (take (at + 1) (set out at x)) ≡ T ++ num_bits 8 (acc / 2 ^ m) =
      ap bits_of t ∙ bits_of_append (take at out) (x ∷ []) ∙ ap (λ (y : List Bool). T ++ y) (append-nil (num_bits 8 x) ∙ b) in
      record {
        place = omega (arith, w.place);
        long = length-set out at x ∙ w.long;
        rest = drop-set-lt (at + 1) out at x (omega arith) ∙ later at (at + 1) out before (omega arith) w.rest;
        bits = ap (λ (y : List Bool). y ++ num_bits m acc) c
            ∙ append_assoc T (num_bits 8 (acc / 2 ^ m)) (num_bits m acc)
            ∙ ap (λ (y : List Bool). T ++ y) (sym (num_bits_split 8 m acc))
            ∙ ap (λ (y : ℕ). T ++ num_bits y acc) (sym k)
            ∙ w.bits;
      }

-- i bytes put out: one more, and the last of n₀ bits
module _ (before : List ℕ) (at₀ acc n₀ : ℕ) (out : List ℕ) (i : ℕ) (w : Wide before at₀ acc n₀ out (at₀ + i) (n₀ - 8 * i)) where
  pub wide_turn : i < n₀ / 8 → at₀ + i < length out → (x : ℕ) → x ≡ acc / 2 ^ (n₀ - 8 * (i + 1)) % 256 →
      Wide before at₀ acc n₀ (set out (at₀ + i) x) (at₀ + (i + 1)) (n₀ - 8 * (i + 1))
  wide_turn h l x e =
      let d : n₀ - 8 * i - 8 ≡ n₀ - 8 * (i + 1) = omega arith in
      let a : at₀ + i + 1 ≡ at₀ + (i + 1) = omega arith in
      subst (λ (m : ℕ). Wide before at₀ acc n₀ (set out (at₀ + i) x) (at₀ + (i + 1)) m) d
      (subst (λ (m : ℕ). Wide before at₀ acc n₀ (set out (at₀ + i) x) m (n₀ - 8 * i - 8)) a
      (wide_byte before at₀ acc n₀ out (at₀ + i) (n₀ - 8 * i) w (omega arith) l x (e ∙ ap (λ (m : ℕ). acc / 2 ^ m % 256) (sym d))))

  pub wide_last : i ≡ n₀ / 8 → Wide before at₀ acc n₀ out (at₀ + n₀ / 8) (n₀ % 8)
  wide_last h =
      let d : n₀ - 8 * i ≡ n₀ % 8 = omega arith in
      let a : at₀ + i ≡ at₀ + n₀ / 8 = omega arith in
      subst (λ (m : ℕ). Wide before at₀ acc n₀ out (at₀ + n₀ / 8) m) d (subst (λ (m : ℕ). Wide before at₀ acc n₀ out m (n₀ - 8 * i)) a w)

-- the bits of a pen and k more, in whichever way they lie in bytes and in what waits
wide_bits : (before : List ℕ) (p : Pen) (k v acc : ℕ) (out : List ℕ) (at n : ℕ) → Wide before p.at acc (p.n + k) out at n → v < 2 ^ k →
    acc ≡ p.acc * 2 ^ k + v → (x : ℕ) → x ≡ acc % 2 ^ n → pen_bits out (record { at = at; acc = x; n = n }) ≡ pen_bits before p ++ num_bits k v
unfolding pen_bits
wide_bits before p k v acc out at n w h q x e =
    let T = bits_of (take p.at before) in
    ap (λ (y : ℕ). bits_of (take at out) ++ num_bits n y) e
    ∙ ap (λ (y : List Bool). bits_of (take at out) ++ y) (num_bits_mod n n acc (le_refl n))
    ∙ w.bits
    ∙ ap (λ (y : ℕ). T ++ num_bits (p.n + k) y) q
    ∙ ap (λ (y : List Bool). T ++ y) (two_numbers p.n k p.acc v h)
    ∙ sym (append_assoc T (num_bits p.n p.acc) (num_bits k v))

-- fewer than a byte wait
pub wide_end : (before : List ℕ) (p : Pen) (k v acc : ℕ) (out : List ℕ) (at n : ℕ) → Wide before p.at acc (p.n + k) out at n → n < 8 →
    acc ≡ p.acc * 2 ^ k + v % 2 ^ k → (x : ℕ) → x ≡ acc % 2 ^ n → Put before p out (record { at = at; acc = x; n = n }) (num_bits k v)
wide_end before p k v acc out at n w h q x e =
    record {
      few = h;
      small = rw e (mod-lt acc (pow_pos n));
      place = omega (arith, w.place, length_num_bits k v);
      long = w.long;
      rest = w.rest;
      bits = wide_bits before p k (v % 2 ^ k) acc out at n w (mod-lt v (pow_pos k)) q x e
          ∙ ap (λ (l : List Bool). pen_bits before p ++ l) (num_bits_mod k k v (le_refl k));
    }

-- ---- four bytes at once

pub one_up : (k : ℕ) → k ≤ 32 → 1 * 2 ^ k % 2 ^ 64 ≡ 2 ^ k
one_up k h =
    let m : 2 ^ k ≤ 2 ^ 32 = pow_mono {j = 32} h in
    let z : 1 * 2 ^ k ≡ 2 ^ k = omega arith in
    rw z (mod-eq_of_lt (omega arith))

-- four bytes at a place, high byte first
abbrev pub four_set : List ℕ → ℕ → ℕ → List ℕ
four_set out at v = set (set (set (set out at (v / 2 ^ 24 % 256)) (at + 1) (v / 2 ^ 16 % 256)) (at + 2) (v / 2 ^ 8 % 256)) (at + 3) (v % 256)

-- put out of n bits that wait
four_put : (before : List ℕ) (at acc n : ℕ) → 32 ≤ n → at * 8 + n ≤ length before * 8 →
    Wide before at acc n (four_set before at (acc / 2 ^ (n - 32))) (at + 4) (n - 32)
four_put before at acc n h l =
    let v = acc / 2 ^ (n - 32) in
    let o1 = set before at (v / 2 ^ 24 % 256) in
    let o2 = set o1 (at + 1) (v / 2 ^ 16 % 256) in
    let o3 = set o2 (at + 2) (v / 2 ^ 8 % 256) in
    let k1 : n - 32 + 24 ≡ n - 8 = omega arith in
    let k2 : n - 32 + 16 ≡ n - 8 - 8 = omega arith in
    let k3 : n - 32 + 8 ≡ n - 8 - 8 - 8 = omega arith in
    let k4 : n - 32 ≡ n - 8 - 8 - 8 - 8 = omega arith in
    let a2 : at + 1 + 1 ≡ at + 2 = omega arith in
    let a3 : at + 2 + 1 ≡ at + 3 = omega arith in
    let a4 : at + 3 + 1 ≡ at + 4 = omega arith in
    let w1 : Wide before at acc n o1 (at + 1) (n - 8) =
    wide_byte before at acc n before at n (wide_none before at acc n) (omega arith) (omega arith) _
    (ap (λ (x : ℕ). x % 256) (shr-shr acc (n - 32) 24 ∙ ap (λ (x : ℕ). acc / 2 ^ x) k1)) in
    let w2 : Wide before at acc n o2 (at + 2) (n - 8 - 8) =
    rw a2 at (wide_byte before at acc n o1 (at + 1) (n - 8) w1 (omega arith) (omega (arith, w1.long)) _
    (ap (λ (x : ℕ). x % 256) (shr-shr acc (n - 32) 16 ∙ ap (λ (x : ℕ). acc / 2 ^ x) k2))) in
    let w3 : Wide before at acc n o3 (at + 3) (n - 8 - 8 - 8) =
    rw a3 at (wide_byte before at acc n o2 (at + 2) (n - 8 - 8) w2 (omega arith) (omega (arith, w2.long)) _
    (ap (λ (x : ℕ). x % 256) (shr-shr acc (n - 32) 8 ∙ ap (λ (x : ℕ). acc / 2 ^ x) k3))) in
    let w4 : Wide before at acc n (four_set before at v) (at + 4) (n - 8 - 8 - 8 - 8) =
    rw a4 at (wide_byte before at acc n o3 (at + 3) (n - 8 - 8 - 8) w3 (omega arith) (omega (arith, w3.long)) _ (ap (λ (x : ℕ). acc / 2 ^ x % 256) k4)) in
    subst (λ (x : ℕ). Wide before at acc n (four_set before at v) (at + 4) x) (sym k4) w4

-- what waits and what is put behind it, as one number
module _ (before : List ℕ) (p : Pen) (k v : ℕ) (ready : ReadyWide (length before) p k) (hk : k ≤ 32) (hv : v < 2 ^ k) where
  sum_small : p.acc * 2 ^ k + v < 2 ^ (p.n + k)
  sum_small = subst (λ (x : ℕ). p.acc * 2 ^ k + v < x) (sym (pow-add 2 p.n k)) (digits_lt ready.small hv)

  sum_fits : p.acc * 2 ^ k + v < 2 ^ 64
  sum_fits = let m : 2 ^ (p.n + k) ≤ 2 ^ 64 = pow_mono {j = 64} (omega (arith, ready.few)) in omega (arith, sum_small)

  pub put_fits : (p.acc * 2 ^ k % 2 ^ 64 ≡ p.acc * 2 ^ k) × (p.acc * 2 ^ k + v < 2 ^ 64)
  put_fits = (mod-eq_of_lt (omega (arith, sum_fits)), sum_fits)

  module _ (acc : ℕ) (e : acc ≡ p.acc * 2 ^ k + v) where
    wide_put : (out : List ℕ) (at n : ℕ) → Wide before p.at acc (p.n + k) out at n → at ≡ p.at + (p.n + k) / 32 * 4 → n ≡ (p.n + k) % 32 →
        (x : ℕ) → x ≡ acc % 2 ^ n → PutWide before p out (record { at = at; acc = x; n = n }) (num_bits k v)
    wide_put out at n w ea en x ex =
        let l = length_num_bits k v in
        record {
          place = omega (arith, ea, l);
          waits = omega (arith, en, l);
          small = rw ex (mod-lt acc (pow_pos n));
          long = w.long;
          rest = w.rest;
          bits = wide_bits before p k v acc out at n w hv e x ex;
        }

    -- all of it waits
    pub put_waits : p.n + k < 32 → PutWide before p before (record { at = p.at; acc = acc; n = p.n + k }) (num_bits k v)
    put_waits h =
        wide_put before p.at (p.n + k) (wide_none before p.at acc (p.n + k)) (omega arith) (omega arith) acc (sym (mod-eq_of_lt (rw e sum_small)))

    -- four bytes are filled
    pub put_fills : 32 ≤ p.n + k → (x y : ℕ) → x ≡ acc / 2 ^ (p.n + k - 32) → y ≡ acc % 2 ^ (p.n + k - 32) →
        PutWide before p (four_set before p.at x) (record { at = p.at + 4; acc = y; n = p.n + k - 32 }) (num_bits k v)
    put_fills h x y ex ey =
        rw ex (wide_put (four_set before p.at (acc / 2 ^ (p.n + k - 32))) (p.at + 4) (p.n + k - 32)
        (four_put before p.at acc (p.n + k) h (omega (arith, ready.room))) (omega (arith, ready.few)) (omega (arith, ready.few)) y ey)

-- ---- a GR number at once

-- ones as a number
pub ones_number : (v : ℕ) → num_bits v (2 ^ v - 1) ≡ replicate v true
unfolding num_bits
ones_number zero = refl
ones_number (suc v) =
    let p : 2 ^ suc v ≡ 2 ^ v * 2 = pow-suc 2 v in
    let o : 0 < 2 ^ v = pow_pos v in
    let e : 2 ^ suc v - 1 ≡ 1 * 2 ^ v + (2 ^ v - 1) = omega (arith, p) in
    let q : (2 ^ suc v - 1) / 2 ^ v ≡ 1 = ap (λ (x : ℕ). x / 2 ^ v) e ∙ high 1 v (omega arith) in
    let r : (2 ^ suc v - 1) % 2 ^ v ≡ 2 ^ v - 1 = ap (λ (x : ℕ). x % 2 ^ v) e ∙ low 1 v (omega arith) in
    ap₂ (λ (x : ℕ) (l : List Bool). odd x ∷ l) q (sym (num_bits_mod v v (2 ^ suc v - 1) (le_refl v)) ∙ ap (λ (x : ℕ). num_bits v x) r ∙ ones_number v)

-- ones in words of 32, in the code's forms
pub ones_more_turn : (i : ℕ) → replicate (32 * i) true ++ num_bits 32 4294967295 ≡ replicate (32 * (i + 1)) true
ones_more_turn i =
    let e : 32 * i + 32 ≡ 32 * (i + 1) = omega arith in
    ap (λ (x : List Bool). replicate (32 * i) true ++ x) (ones_number 32) ∙ replicate-append-replicate (32 * i) 32 true
    ∙ ap (λ (m : ℕ). replicate m true) e

-- whatever number of ones is left
pub ones_more : (v left : ℕ) → left ≤ v → 32 < left → replicate (v - left) true ++ num_bits 32 4294967295 ≡ replicate (v - (left - 32)) true
ones_more v left h l =
    let e : v - left + 32 ≡ v - (left - 32) = omega arith in
    ap (λ (x : List Bool). replicate (v - left) true ++ x) (ones_number 32) ∙ replicate-append-replicate (v - left) 32 true
    ∙ ap (λ (m : ℕ). replicate m true) e

pub ones_fit : (left : ℕ) → left ≤ 32 → (1 ≤ 1 * 2 ^ left % 2 ^ 64) × (1 * 2 ^ left % 2 ^ 64 - 1 < 2 ^ left)
ones_fit left l = let o : 0 < 2 ^ left = pow_pos left in rw (one_up left l) (omega arith, omega arith)

pub ones_end_turn : (v i : ℕ) → i ≡ v / 32 → replicate (32 * i) true ++ num_bits (v % 32) (1 * 2 ^ (v % 32) % 2 ^ 64 - 1) ≡ replicate v true
ones_end_turn v i h =
    let left = v % 32 in
    let e : 32 * i + left ≡ v = omega arith in
    ap (λ (x : ℕ). replicate (32 * i) true ++ num_bits left (x - 1)) (one_up left (omega arith))
    ∙ ap (λ (x : List Bool). replicate (32 * i) true ++ x) (ones_number left) ∙ replicate-append-replicate (32 * i) left true
    ∙ ap (λ (m : ℕ). replicate m true) e

-- whatever number of ones is left
pub ones_end : (v left : ℕ) → left ≤ v → left ≤ 32 → replicate (v - left) true ++ num_bits left (1 * 2 ^ left % 2 ^ 64 - 1) ≡ replicate v true
ones_end v left h l =
    let e : v - left + left ≡ v = omega arith in
    ap (λ (x : ℕ). replicate (v - left) true ++ num_bits left (x - 1)) (one_up left l)
    ∙ ap (λ (x : List Bool). replicate (v - left) true ++ x) (ones_number left) ∙ replicate-append-replicate (v - left) left true
    ∙ ap (λ (m : ℕ). replicate m true) e

-- in the code's forms: few ones
module _ (k n v : ℕ) (e : v ≡ n / 2 ^ k) (hv : v < 22) (hk : k ≤ 10) where
  some : 0 < 2 ^ v
  some = pow_pos v

  most : 2 ^ v ≤ 2 ^ 21
  most = pow_mono {j = 21} (omega arith)

  pub one_ones : 1 * 2 ^ v % 2 ^ 64 ≡ 2 ^ v
  one_ones = let z : 1 * 2 ^ v ≡ 2 ^ v = omega arith in rw z (mod-eq_of_lt (omega (arith, most)))

  room : (2 ^ v - 1) * 2 ^ (k + 1) ≤ 2 ^ 21 * 2 ^ 11
  room =
      let b : 2 ^ (k + 1) ≤ 2 ^ 11 = pow_mono {j = 11} (omega arith) in
      mul-le-mul {n₂ = 2 ^ 21} {m₂ = 2 ^ 11} (omega (arith, most)) b

  pub one_shift : (2 ^ v - 1) * 2 ^ (k + 1) % 2 ^ 64 ≡ (2 ^ v - 1) * 2 ^ (k + 1)
  one_shift = mod-eq_of_lt (omega (arith, room))

  pub one_sum : (2 ^ v - 1) * 2 ^ (k + 1) + n % 2 ^ k < 2 ^ 64
  one_sum =
      let b : 2 ^ (k + 1) ≤ 2 ^ 11 = pow_mono {j = 11} (omega arith) in
      omega (arith, room, gr_low k n, b)

  pub gr_one : num_bits (v + (k + 1)) ((2 ^ v - 1) * 2 ^ (k + 1) + n % 2 ^ k) ≡ gr_bits k n
  gr_one =
      two_numbers v (k + 1) (2 ^ v - 1) (n % 2 ^ k) (gr_low k n)
      ∙ ap (λ (l : List Bool). l ++ num_bits (k + 1) (n % 2 ^ k)) (ones_number v ∙ ap (λ (m : ℕ). replicate m true) e)
      ∙ gr_parts k n (2 ^ k) refl
