-- Reading at a place of a bit list: what stands there decides what is read, and what is read says what stands there.
use Rattle.std.specs.Prelude.{Option, None}
use Rattle.std.specs.Prelude.{ℕ, zero, suc, ◌+◌, ◌*◌, ◌-◌, ◌/◌, ◌%◌, ◌^◌, ◌≤◌, ◌<◌, ◌≡◌, refl, Bool, true, false, List, [], ◌∷◌, ◌++◌, eqb, length, drop}
use Rattle.std.specs.Prelude.{replicate}
use Rattle.std.proofs.Common.{sym, ap, ap₂, ◌∙◌, append_assoc, arith, add-one, mul-le-mul_left, div-lt_iff_lt-mul, mod-eq_of_lt, div-add-mod', pow-suc}
use Rattle.std.proofs.Common.{length-drop, length-append, drop-drop, pow_mono, pow_pos}
use Rattle.std.proofs.lemmas.List.{length-replicate}
use Rattle.std.proofs.Math.Seq.{drop-append_seam}
use Rattle.std.proofs.Math.Pow.{high, low, field, mod-mod-pow}
use Rattle.bits.specs.Bits.{got, bits_of, odd, val, num_bits, ones_of, num_of, gr_bits, gr_of, then_bits, then_low}
use Rattle.bits.specs.laws.Bit.{length_bits_of, length_num_bits, num_put, ones_put, ones_got, got_v, got_at, gr_got, place}

-- what stands past p
pub past : (at : ℕ) (B p rest : List Bool) → drop at B ≡ p ++ rest → drop (at + length p) B ≡ rest
past at B p rest e = sym (drop-drop (length p) at B) ∙ ap (λ (l : List Bool). drop (length p) l) e ∙ drop-append_seam p rest

pub num_here :
    (k n at : ℕ) (B rest : List Bool) → drop at B ≡ num_bits k n ++ rest → n < 2 ^ k → (num_of k 0 at (drop at B) ≡ got n (at + k)) × (drop (at + k) B ≡ rest)
num_here k n at B rest e h =
    (rw e (num_put k n 0 at rest ∙ ap (λ (m : ℕ). got m (at + k)) (omega (arith, mod-eq_of_lt h))), rw length_num_bits at (past at B (num_bits k n) rest e))

pub length_gr_bits : (k n : ℕ) → length (gr_bits k n) ≡ n / 2 ^ k + 1 + k
unfolding gr_bits
length_gr_bits k n = length-append (replicate (n / 2 ^ k) true) (false ∷ num_bits k n) ∙ omega (arith, length-replicate (n / 2 ^ k) true, length_num_bits k n)

pub gr_here :
    (k n at : ℕ) (B rest : List Bool) → drop at B ≡ gr_bits k n ++ rest →
    (gr_of k at B ≡ got n (at + length (gr_bits k n))) × (drop (at + length (gr_bits k n)) B ≡ rest)
unfolding gr_bits
gr_here k n at B rest e =
    let q = n / 2 ^ k in
    let e₁ : drop at B ≡ replicate q true ++ (false ∷ (num_bits k n ++ rest)) = e ∙ append_assoc (replicate q true) (false ∷ num_bits k n) rest in
    let e₂ : drop at B ≡ (replicate q true ++ (false ∷ [])) ++ (num_bits k n ++ rest) =
    e₁ ∙ sym (append_assoc (replicate q true) (false ∷ []) (num_bits k n ++ rest)) in
    let l : length (replicate q true ++ (false ∷ [])) ≡ q + 1 = length-append (replicate q true) (false ∷ []) ∙ omega (arith, length-replicate q true) in
    let s : at + q + 1 ≡ at + length (replicate q true ++ (false ∷ [])) = omega (arith, l) in
    let m : drop (at + q + 1) B ≡ num_bits k n ++ rest = ap (λ (x : ℕ). drop x B) s ∙ past at B (replicate q true ++ (false ∷ [])) (num_bits k n ++ rest) e₂ in
    let o : ones_of 0 at (drop at B) ≡ got q (at + q + 1) = rw e₁ (ones_put q 0 at (num_bits k n ++ rest) ∙ ap (λ (x : ℕ). got x (at + q + 1)) (omega arith)) in
    let r : num_of k 0 (at + q + 1) (drop (at + q + 1) B) ≡ got (n % 2 ^ k) (at + q + 1 + k) =
    rw m (num_put k n 0 (at + q + 1) rest ∙ ap (λ (x : ℕ). got x (at + q + 1 + k)) (omega arith)) in (
      gr_got k at B q (at + q + 1) (n % 2 ^ k) (at + q + 1 + k) o r
          ∙ ap₂ got (div-add-mod' n (2 ^ k)) (omega (arith, length_gr_bits k n)),
      past at B (gr_bits k n) rest e,
    )

-- ---- and back

-- the low bits of a number are those of its remainder
mod_odd : (x i : ℕ) → 0 < i → odd (x % 2 ^ i) ≡ odd x
mod_odd x zero h = absurd (omega arith)
mod_odd x (suc i) h = let e : x % 2 ^ suc i % 2 ≡ x % 2 = rw (← add-one i) (mod-mod-pow x i 1) in ap (λ (r : ℕ). eqb r 1) e

pub num_bits_mod : (k j n : ℕ) → j ≤ k → num_bits j (n % 2 ^ k) ≡ num_bits j n
unfolding num_bits
num_bits_mod k zero n h = refl
num_bits_mod k (suc j) n h =
    let i = k - j in
    let e : k ≡ i + j = omega arith in
    ap₂ (λ (b : Bool) (l : List Bool). b ∷ l)
    (ap (λ (x : ℕ). odd (n % 2 ^ x / 2 ^ j)) e ∙ ap odd (field n i j) ∙ mod_odd (n / 2 ^ j) i (omega arith))
    (num_bits_mod k j n (omega arith))

odd_val : (b : Bool) → odd (val b) ≡ b
odd_val true = refl
odd_val false = refl

val_small : (b : Bool) (p n : ℕ) → n < p → val b * p + n < p * 2
val_small true p n h = omega arith
val_small false p n h = omega arith

pub record NumBack (k acc at : ℕ) (bs : List Bool) (w next : ℕ) : Type 0 where
  pub n : ℕ
  pub rest : List Bool
  pub small : n < 2 ^ k
  pub count : w ≡ acc * 2 ^ k + n
  pub place : next ≡ at + k
  pub front : bs ≡ num_bits k n ++ rest

pub num_back : (k acc at : ℕ) (bs : List Bool) (w next : ℕ) → num_of k acc at bs ≡ got w next → NumBack k acc at bs w next
unfolding num_of num_bits
num_back zero acc at bs w next e =
    record { n = 0; rest = bs; small = omega arith; count = omega (arith, got_v e); place = omega (arith, got_at e); front = refl }
num_back (suc k) acc at [] w next e = let z : ◌≡◌ {A = ℕ} 0 1 = cc in absurd (omega arith)
num_back (suc k) acc at (b ∷ bs) w next e =
    let r = num_back k (acc * 2 + val b) (at + 1) bs w next e in
    let h : (val b * 2 ^ k + r.n) / 2 ^ k ≡ val b = high (val b) k r.small in
    let l : (val b * 2 ^ k + r.n) % 2 ^ k ≡ r.n = low (val b) k r.small in
    let low_bits : num_bits k r.n ≡ num_bits k (val b * 2 ^ k + r.n) =
    ap (λ (x : ℕ). num_bits k x) (sym l) ∙ num_bits_mod k k (val b * 2 ^ k + r.n) (omega arith) in
    record {
      n = val b * 2 ^ k + r.n;
      rest = r.rest;
      small = rw (pow-suc 2 k) (val_small b (2 ^ k) r.n r.small);
      count = r.count ∙ rw (pow-suc 2 k, place acc (val b) (2 ^ k)) (omega arith);
      place = omega (arith, r.place);
      front = ap₂ (λ (x : Bool) (y : List Bool). x ∷ y) (sym (ap odd h ∙ odd_val b)) (r.front ∙ ap (λ (y : List Bool). y ++ r.rest) low_bits);
    }

-- a number read at a place
num_flat :
    (k at : ℕ) (B : List Bool) (n next m : ℕ) (rest : List Bool) → m < 2 ^ k → n ≡ 0 * 2 ^ k + m → next ≡ at + k → drop at B ≡ num_bits k m ++ rest →
    (n < 2 ^ k) × (next ≡ at + k) × (drop at B ≡ num_bits k n ++ drop next B)
num_flat k at B n next m rest h c p f =
    let v : n ≡ m = omega arith in
    let d : drop (at + k) B ≡ rest = rw length_num_bits at (past at B (num_bits k m) rest f) in
    (rw v h, p, rw (v, p, d) f)

pub num_there :
    (k at : ℕ) (B : List Bool) (n next : ℕ) → num_of k 0 at (drop at B) ≡ got n next →
    (n < 2 ^ k) × (next ≡ at + k) × (drop at B ≡ num_bits k n ++ drop next B)
num_there k at B n next e =
    let r = num_back k 0 at (drop at B) n next e in
    num_flat k at B n next r.n r.rest r.small r.count r.place r.front

gr_flat :
    (k at : ℕ) (B : List Bool) (g next v mid b m : ℕ) (rest : List Bool) → v ≡ 0 + m → mid ≡ at + m + 1 → drop at B ≡ replicate m true ++ (false ∷ rest) →
    b < 2 ^ k → next ≡ mid + k → drop mid B ≡ num_bits k b ++ drop next B → v * 2 ^ k + b ≡ g →
    (next ≡ at + length (gr_bits k g)) × (drop at B ≡ gr_bits k g ++ drop next B)
unfolding gr_bits
gr_flat k at B g next v mid b m rest cv cp fr hb np nf eg =
    let q₀ : g / 2 ^ k ≡ v = rw (← eg) (high v k hb) in
    let q : g / 2 ^ k ≡ m = omega (arith, q₀) in
    let low_bits : num_bits k g ≡ num_bits k b = rw (← eg) (sym (num_bits_mod k k (v * 2 ^ k + b) (omega arith)) ∙ ap (λ (x : ℕ). num_bits k x) (low v k hb)) in
    let e₂ : drop at B ≡ (replicate m true ++ (false ∷ [])) ++ rest = fr ∙ sym (append_assoc (replicate m true) (false ∷ []) rest) in
    let l : length (replicate m true ++ (false ∷ [])) ≡ m + 1 = length-append (replicate m true) (false ∷ []) ∙ omega (arith, length-replicate m true) in
    let s : mid ≡ at + length (replicate m true ++ (false ∷ [])) = omega (arith, l, cp) in
    let d : rest ≡ num_bits k b ++ drop next B = sym (past at B (replicate m true ++ (false ∷ [])) rest e₂) ∙ ap (λ (x : ℕ). drop x B) (sym s) ∙ nf in
    (omega (arith, length_gr_bits k g, q, np, cp), fr ∙ rw (q, low_bits, append_assoc) (ap (λ (y : List Bool). replicate m true ++ (false ∷ y)) d))

gr_last :
    (k at : ℕ) (B : List Bool) (g next v mid b nx : ℕ) → ones_of 0 at (drop at B) ≡ got v mid → num_of k 0 mid (drop mid B) ≡ got b nx → v * 2 ^ k + b ≡ g →
    nx ≡ next → (next ≡ at + length (gr_bits k g)) × (drop at B ≡ gr_bits k g ++ drop next B)
gr_last k at B g next v mid b nx o f eg en =
    let r = ones_got 0 at (drop at B) v mid o in
    let t = num_there k mid B b next (f ∙ ap (λ (x : ℕ). got b x) en) in
    gr_flat k at B g next v mid b r.n r.rest r.count r.place r.front t.0 t.1 t.2 eg

-- a GR number read at a place
pub gr_there : (k at : ℕ) (B : List Bool) (g next : ℕ) → gr_of k at B ≡ got g next → (next ≡ at + length (gr_bits k g)) ×
    (drop at B ≡ gr_bits k g ++ drop next B)
gr_there k at B g next e = first (ones_of 0 at (drop at B)) refl e
  where
    last :
        (v mid : ℕ) → ones_of 0 at (drop at B) ≡ got v mid → (b : Option (ℕ × ℕ)) → num_of k 0 mid (drop mid B) ≡ b → then_low k v b ≡ got g next →
        (next ≡ at + length (gr_bits k g)) × (drop at B ≡ gr_bits k g ++ drop next B)
    last v mid o None f e' = let z : ◌≡◌ {A = ℕ} 0 1 = cc in absurd (omega arith)
    last v mid o (got b nx) f e' = gr_last k at B g next v mid b nx o f (got_v e') (got_at e')

    first : (o : Option (ℕ × ℕ)) → ones_of 0 at (drop at B) ≡ o → then_bits k B o ≡ got g next → (next ≡ at + length (gr_bits k g)) ×
        (drop at B ≡ gr_bits k g ++ drop next B)
    first None o e' = let z : ◌≡◌ {A = ℕ} 0 1 = cc in absurd (omega arith)
    first (got v mid) o e' = last v mid o (num_of k 0 mid (drop mid B)) refl e'

-- a GR number in at most 65,535 bytes is below 2 ^ 31
pub gr_lt : (k at : ℕ) (s : List ℕ) (g next : ℕ) → k ≤ 10 → length s ≤ 65535 → gr_of k at (bits_of s) ≡ got g next → g < 2 ^ 31
gr_lt k at s g next hk hs e =
    let r = gr_there k at (bits_of s) g next e in
    let l : length (drop at (bits_of s)) ≡ length (gr_bits k g) + length (drop next (bits_of s)) =
    ap length r.1 ∙ length-append (gr_bits k g) (drop next (bits_of s)) in
    let q : g / 2 ^ k < 524280 = omega (arith, l, length_gr_bits k g, length-drop at (bits_of s), length_bits_of s) in
    let p : 2 ^ k ≤ 1024 = pow_mono {j = 10} hk in
    let m : 524280 * 2 ^ k ≤ 524280 * 1024 = mul-le-mul_left 524280 p in
    let h : g < 524280 * 2 ^ k = (div-lt_iff_lt-mul (pow_pos k)).0 q in
    omega arith
