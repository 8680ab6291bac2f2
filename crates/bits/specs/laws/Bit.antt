-- Laws of the bits.
use Rattle.std.specs.Prelude.{Some, None}
use Rattle.std.specs.Prelude.{ℕ, zero, suc, ◌+◌, ◌*◌, ◌-◌, ◌/◌, ◌%◌, ◌^◌, ◌≤◌, ◌<◌, ◌≡◌, refl, Bool, true, false, List, [], ◌∷◌, ◌++◌, length, drop, get_or}
use Rattle.std.specs.Prelude.{replicate, eqb}
use Rattle.std.proofs.Common.{sym, ap, ap₂, ◌∙◌, arith, add-one, one-add, length-append, drop_of_length-le, length-drop, get_or-append-add, drop-cons, lit<}
use Rattle.std.proofs.Common.{pow-suc, mul-le-mul, mod-eq_of_lt, one-mul, lt_of_lt_of_le, mul-le-mul_right, mod-lt, add-mul, mul_assoc, mul_comm, pow_mono}
use Rattle.std.proofs.Math.Decide.{dec_lt}
use Rattle.std.proofs.Math.ListN.{get_or-append}
use Rattle.std.proofs.lemmas.List.{length-replicate}
use Rattle.std.proofs.lemmas.Nat.{mod-pow-add}
use Rattle.bits.specs.Bits.{got, odd, val, num_bits, bits_of, ones_of, num_of, gr_of}

pub length_num_bits : (k n : ℕ) → length (num_bits k n) ≡ k
unfolding num_bits
length_num_bits zero n = refl
length_num_bits (suc k) n = ap suc (length_num_bits k n)

pub length_bits_of : (s : List ℕ) → length (bits_of s) ≡ 8 * length s
unfolding bits_of
length_bits_of [] = refl
length_bits_of (b ∷ bs) = omega (arith, length-append (num_bits 8 b) (bits_of bs), length_num_bits 8 b, length_bits_of bs)

-- the bit at i of k bits of n
pub num_bits_at : (k n i : ℕ) → i < k → get_or (num_bits k n) i false ≡ odd (n / 2 ^ (k - suc i))
unfolding num_bits
num_bits_at zero n i h = absurd (omega arith)
num_bits_at (suc k) n zero h = ap (λ (j : ℕ). odd (n / 2 ^ j)) (omega arith)
num_bits_at (suc k) n (suc i) h = num_bits_at k n i (omega arith) ∙ ap (λ (j : ℕ). odd (n / 2 ^ j)) (omega arith)

-- the bit at i of a byte list is the code's
pub bits_of_at : (s : List ℕ) (i : ℕ) → i < 8 * length s → get_or (bits_of s) i false ≡ odd (get_or s (i / 8) 0 / 2 ^ (7 - i % 8))
unfolding bits_of
bits_of_at [] i h = absurd (omega arith)
bits_of_at (b ∷ bs) i h = elim (dec_lt i 8) [ yes lt ↦ first lt | no ge ↦ later (omega arith) (λ j g. bits_of_at bs j g) ]
  where
    first : i < 8 → get_or (num_bits 8 b ++ bits_of bs) i false ≡ odd (get_or (b ∷ bs) (i / 8) 0 / 2 ^ (7 - i % 8))
    first lt =
        let e : i / 8 ≡ 0 = omega arith in
        let m : 7 - i % 8 ≡ 8 - suc i = omega arith in
        rw (e, m) (get_or-append (num_bits 8 b) (bits_of bs) false i (rw length_num_bits lt) ∙ num_bits_at 8 b i lt)

    later :
        8 ≤ i → ((j : ℕ) → j < 8 * length bs → get_or (bits_of bs) j false ≡ odd (get_or bs (j / 8) 0 / 2 ^ (7 - j % 8))) →
        get_or (num_bits 8 b ++ bits_of bs) i false ≡ odd (get_or (b ∷ bs) (i / 8) 0 / 2 ^ (7 - i % 8))
    later ge ih =
        let j = i - 8 in
        let e : i / 8 ≡ suc (j / 8) = omega arith in
        let m : i % 8 ≡ j % 8 = omega arith in
        let p : i ≡ length (num_bits 8 b) + j = omega (arith, length_num_bits 8 b) in
        rw (e, m) (ap (λ (x : ℕ). get_or (num_bits 8 b ++ bits_of bs) x false) p ∙ get_or-append-add (num_bits 8 b) (bits_of bs) j false ∙ ih j (omega arith))

suc_sub_one : (k : ℕ) → suc k - 1 ≡ k
suc_sub_one k = omega arith

-- ---- a step of each walk, at a place of B

pub ones_more : (B : List Bool) (v at : ℕ) → at < length B → get_or B at false ≡ true → ones_of v at (drop at B) ≡ ones_of (v + 1) (at + 1) (drop (at + 1) B)
unfolding ones_of
ones_more B v at h e = rw (drop-cons B at false h, e, ← add-one at)

pub ones_stop : (B : List Bool) (v at : ℕ) → at < length B → get_or B at false ≡ false → ones_of v at (drop at B) ≡ got v (at + 1)
unfolding ones_of
ones_stop B v at h e = rw (drop-cons B at false h, e)

pub ones_cut : (B : List Bool) (v at : ℕ) → length B ≤ at → ones_of v at (drop at B) ≡ None
unfolding ones_of
ones_cut B v at h = rw (drop_of_length-le B h)

pub num_more :
    (B : List Bool) (k acc at : ℕ) → at < length B → num_of (suc k) acc at (drop at B) ≡ num_of k (acc * 2 + val (get_or B at false)) (at + 1) (drop (at + 1) B)
unfolding num_of
num_more B k acc at h = rw (drop-cons B at false h, ← add-one at)

pub num_end : (B : List Bool) (acc at : ℕ) → num_of 0 acc at (drop at B) ≡ got acc at
unfolding num_of
num_end B acc at = refl

-- the same in the code's form, k > 0 and k - 1
pub num_step :
    (B : List Bool) (k acc at : ℕ) → 0 < k → at < length B →
    num_of k acc at (drop at B) ≡ num_of (k - 1) (acc * 2 + val (get_or B at false)) (at + 1) (drop (at + 1) B)
num_step B zero acc at p h = absurd (omega arith)
num_step B (suc k) acc at p h = rw (suc_sub_one k) (num_more B k acc at h)

pub num_cut : (B : List Bool) (k acc at : ℕ) → 0 < k → length B ≤ at → num_of k acc at (drop at B) ≡ None
unfolding num_of
num_cut B zero acc at p h = absurd (omega arith)
num_cut B (suc k) acc at p h = rw (drop_of_length-le B h)

-- a bit more at the low end
pub grow : (j n b : ℕ) → n < 2 ^ j → b < 2 → n * 2 + b < 2 ^ suc j
grow j n b h l = rw (pow-suc 2 j) (omega arith)

pub val_lt : (b : Bool) → val b < 2
val_lt true = omega arith
val_lt false = omega arith

pub digit_lt : {r : ℕ} (b : Bool) → r ≡ val b → r < 2
digit_lt b e = rw e (val_lt b)

pub val_odd : (n : ℕ) → val (odd n) ≡ n % 2
val_odd n = go (n % 2) (mod-lt n (lit< tt))
  where
    go : (r : ℕ) → r < 2 → val (eqb r 1) ≡ r
    go zero h = refl
    go (suc zero) h = refl
    go (suc (suc r)) h = absurd (omega arith)

-- a digit moves past a place
pub place : (acc b p : ℕ) → (acc * 2 + b) * p ≡ acc * (p * 2) + b * p
place acc b p = rw (add-mul, mul_assoc, mul_comm 2 p)

-- ---- writing, then reading

pub num_put : (k n acc at : ℕ) (rest : List Bool) → num_of k acc at (num_bits k n ++ rest) ≡ got (acc * 2 ^ k + n % 2 ^ k) (at + k)
unfolding num_of num_bits
num_put zero n acc at rest = ap₂ got (omega arith) (omega arith)
num_put (suc k) n acc at rest =
    let b = val (odd (n / 2 ^ k)) in
    let v : b ≡ n / 2 ^ k % 2 = val_odd (n / 2 ^ k) in
    let m : n % 2 ^ suc k ≡ (n / 2 ^ k % 2) * 2 ^ k + n % 2 ^ k = rw (← one-add k) (mod-pow-add n 1 k) in
    num_put k n (acc * 2 + b) (at + 1) rest ∙ ap₂ got (rw (v, m, pow-suc 2 k, place acc (n / 2 ^ k % 2) (2 ^ k)) (omega arith)) (omega arith)

pub ones_put : (n v at : ℕ) (rest : List Bool) → ones_of v at (replicate n true ++ (false ∷ rest)) ≡ got (v + n) (at + n + 1)
unfolding ones_of
ones_put zero v at rest = ap₂ got (omega arith) (omega arith)
ones_put (suc n) v at rest = ones_put n (v + 1) (at + 1) rest ∙ ap₂ got (omega arith) (omega arith)

-- ---- reading, then writing

same_got : {p q : ℕ × ℕ} → Some p ≡ Some q → p ≡ q
same_got e = cc

pub got_v : {v w a b : ℕ} → got v a ≡ got w b → v ≡ w
got_v e = ap (λ (p : ℕ × ℕ). p.0) (same_got e)

pub got_at : {v w a b : ℕ} → got v a ≡ got w b → a ≡ b
got_at e = ap (λ (p : ℕ × ℕ). p.1) (same_got e)

pub record Ones (v at : ℕ) (bs : List Bool) (w next : ℕ) : Type 0 where
  pub n : ℕ
  pub rest : List Bool
  pub count : w ≡ v + n
  pub place : next ≡ at + n + 1
  pub front : bs ≡ replicate n true ++ (false ∷ rest)

pub ones_got : (v at : ℕ) (bs : List Bool) (w next : ℕ) → ones_of v at bs ≡ got w next → Ones v at bs w next
unfolding ones_of
ones_got v at [] w next e = let z : ◌≡◌ {A = ℕ} 0 1 = cc in absurd (omega arith)
ones_got v at (true ∷ bs) w next e =
    let r = ones_got (v + 1) (at + 1) bs w next e in
    record {
      n = suc r.n;
      rest = r.rest;
      count = omega (arith, r.count);
      place = omega (arith, r.place);
      front = ap (λ (l : List Bool). true ∷ l) r.front;
    }
ones_got v at (false ∷ bs) w next e =
    record { n = 0; rest = bs; count = sym (got_v e) ∙ omega arith; place = sym (got_at e) ∙ omega arith; front = refl }

pub num_got_lt : (k acc at : ℕ) (bs : List Bool) (w next : ℕ) → num_of k acc at bs ≡ got w next → w < (acc + 1) * 2 ^ k
unfolding num_of
num_got_lt zero acc at bs w next e = omega (arith, got_v e)
num_got_lt (suc k) acc at [] w next e = let z : ◌≡◌ {A = ℕ} 0 1 = cc in absurd (omega arith)
num_got_lt (suc k) acc at (b ∷ bs) w next e =
    lt_of_lt_of_le (num_got_lt k (acc * 2 + val b) (at + 1) bs w next e)
    (rw (pow-suc 2 k, mul_comm (2 ^ k) 2, ← mul_assoc) (mul-le-mul_right (2 ^ k) (omega (arith, val_lt b))))

pub ones_got_le : (v at : ℕ) (bs : List Bool) (w next : ℕ) → ones_of v at bs ≡ got w next → w < v + length bs
ones_got_le v at bs w next e =
    let r = ones_got v at bs w next e in
    let l : length bs ≡ r.n + suc (length r.rest) =
    ap length r.front ∙ length-append (replicate r.n true) (false ∷ r.rest)
    ∙ ap (λ (m : ℕ). m + suc (length r.rest)) (length-replicate r.n true) in
    omega (arith, r.count, l)

-- ---- a GR number by its two parts

pub gr_cut : (k at : ℕ) (B : List Bool) → ones_of 0 at (drop at B) ≡ None → gr_of k at B ≡ None
gr_cut k at B e = rw e

pub gr_cut_low : (k at : ℕ) (B : List Bool) (v mid : ℕ) → ones_of 0 at (drop at B) ≡ got v mid → num_of k 0 mid (drop mid B) ≡ None → gr_of k at B ≡ None
gr_cut_low k at B v mid e f = rw (e, f)

pub gr_got :
    (k at : ℕ) (B : List Bool) (v mid b next : ℕ) → ones_of 0 at (drop at B) ≡ got v mid → num_of k 0 mid (drop mid B) ≡ got b next →
    gr_of k at B ≡ got (v * 2 ^ k + b) next
gr_got k at B v mid b next e f = rw (e, f)

-- a GR number of at most 65,535 bytes and k at most 10 is small
pub gr_small : (k v b : ℕ) → k ≤ 10 → v < 2 ^ 20 → b < 2 ^ k → (v * 2 ^ k % 2 ^ 64 ≡ v * 2 ^ k) × (v * 2 ^ k + b < 2 ^ 31)
gr_small k v b hk hv hb =
    let p : 2 ^ k ≤ 1024 = pow_mono {j = 10} hk in
    let m : v * 2 ^ k ≤ 1048575 * 1024 = mul-le-mul {n₂ = 1048575} {m₂ = 1024} (omega arith) p in
    (mod-eq_of_lt (omega arith), omega arith)

pub gr_bounds :
    (k at : ℕ) (s : List ℕ) (v mid b next : ℕ) → k ≤ 10 → length s ≤ 65535 → ones_of 0 at (drop at (bits_of s)) ≡ got v mid →
    num_of k 0 mid (drop mid (bits_of s)) ≡ got b next → (v * 2 ^ k % 2 ^ 64 ≡ v * 2 ^ k) × (v * 2 ^ k + b < 2 ^ 31)
gr_bounds k at s v mid b next hk hs e f =
    gr_small k v b hk
    (omega (arith, ones_got_le 0 at (drop at (bits_of s)) v mid e, length-drop at (bits_of s), length_bits_of s))
    (rw (one-mul) at (num_got_lt k 0 mid (drop mid (bits_of s)) b next f))
