-- How many bits the code of a list can have whose last 64 places are within 3,072 when folded and whose other places are within 1,024: 519,712, which is
-- 64,964 bytes. A place costs 79 bits at most, though one GR number may have 2,048 ones: such a number raises krp, so that the next have few. The ones
-- are paid from krp's distance to 80. The last 64 places pay for themselves. So such a list needs no measuring where there is room for that many bytes.
-- Assumes nothing.
use Rattle.std.specs.Prelude.{◌≡◌, Bool, true, false, List, [], ◌∷◌, map, ltb, leb, eqb, ℤ, pos, negsuc, nat_abs, drop, get_or}
use Rattle.std.proofs.Math.Path.{refl}
use Rattle.std.proofs.Common.{sym, ◌∙◌, ap, subst, div-mul-le_self, mul-le-mul_left, arith, leb-false, length-append, length-drop, pow_pos, pow_mono}
use Rattle.std.proofs.Common.{get_or-drop}
use Prim.Native.Nat.{ℕ, zero, suc, ◌+◌, ◌*◌, ◌-◌, ◌/◌, ◌^◌, ◌≤◌, ◌<◌, min}
use Rattle.std.proofs.Math.Decide.{dec_lt}
use Rattle.std.proofs.Math.ListN.{length, get_or-eq_default}
use Rattle.std.proofs.lemmas.List.{length-map}
use Rattle.whole.specs.Row.{◌⇒◌∣◌}
use Rattle.bits.specs.laws.Gr.{gr_len}
use Rattle.code.specs.Code.{kr_next, kr_after, size, zeros_of, item_of, item_bits, item_used, item_kp, item_krp, code_f, code_of}
use Rattle.code.specs.Fold.{fold_z}
use Rattle.code.specs.laws.Code.{code_item}
use Rattle.code.specs.laws.Fold.{fold_at}
use Rattle.code.specs.laws.Steps.{kr_le, kp_one_le, kp_two_le, size_fit}
use Rattle.code.specs.declared.element.Item.{Item}
use Rattle.code.specs.declared.element.Item.TheVariants.{Full, Run, Single, Twin}
use Rattle.code_write.specs.Write.{bytes_of}
use Rattle.code_write.specs.laws.Write.{bytes_length, is_range, Fine}
use Rattle.code_write.specs.laws.Span.{Slight}
use Rattle.code_write.specs.laws.Item.{size_full, size_single, size_twin, size_run}

-- ---- one GR number

-- what krp holds in store
store : ℕ → ℕ
store krp = 28 * min (80 - krp) 72

store_most : (krp : ℕ) → store krp ≤ 2016
unfolding store
store_most krp = omega arith

-- the ones of g, where kr is j or more
fewer : (krp g j : ℕ) → j ≤ krp / 8 → g / 2 ^ (krp / 8) * 2 ^ j ≤ g
fewer krp g j h =
    let a : g / 2 ^ (krp / 8) * 2 ^ j ≤ g / 2 ^ (krp / 8) * 2 ^ (krp / 8) = mul-le-mul_left (g / 2 ^ (krp / 8)) (pow_mono h) in
    let b = div-mul-le_self g (2 ^ (krp / 8)) in omega arith

-- the ones can be paid at once
ones_few : (krp g : ℕ) → krp ≤ 80 → g ≤ 2048 → g / 2 ^ (krp / 8) ≤ store krp + 56
unfolding store
ones_few krp g h l = by (dec_lt krp 8) (dec_lt krp 32) (dec_lt krp 64)
  where
    by : Dec (krp < 8) → Dec (krp < 32) → Dec (krp < 64) → g / 2 ^ (krp / 8) ≤ store krp + 56
    by (yes a) b c = omega (arith, fewer krp g 0 (omega arith))
    by (no a) (yes b) c = omega (arith, fewer krp g 1 (omega arith))
    by (no a) (no b) (yes c) = omega (arith, fewer krp g 4 (omega arith))
    by (no a) (no b) (no c) = omega (arith, fewer krp g 8 (omega arith))

-- and with what is left in store they cost 56 at most
ones_paid : (krp g : ℕ) → krp ≤ 80 → g ≤ 2048 → g / 2 ^ (krp / 8) + store (kr_after krp g) ≤ store krp + 56
unfolding store kr_after kr_next
ones_paid krp g h l = go (g / 2 ^ (krp / 8)) (ones_few krp g h l)
  where
    go : (v : ℕ) → v ≤ store krp + 56 → v + store (kr_next krp v) ≤ store krp + 56
    go zero m = omega arith
    go (suc zero) m = omega arith
    go (suc (suc v)) m = omega arith

-- the whole number
gr_paid : (krp g : ℕ) → krp ≤ 80 → g ≤ 2048 → gr_len (krp / 8) g + store (kr_after krp g) ≤ store krp + 67
gr_paid krp g h l = omega (arith, ones_paid krp g h l)

gr_crude : (krp g : ℕ) → krp ≤ 80 → gr_len (krp / 8) g ≤ g + 11
gr_crude krp g h = omega (arith, fewer krp g 0 (omega arith))

-- ---- one item

-- an item of a list is one of four
item_is : (two : Bool) (kp : ℕ) (l : List ℕ) (P : Item → Type 0) → P Full → (zeros_of l < length l → P (Run (zeros_of l) (get_or l (zeros_of l) 0))) →
    P (Single (get_or l 0 0)) → P (Twin (get_or l 0 0) (get_or l 1 0)) → P (item_of two kp l)
unfolding item_of ◌⇒◌∣◌
item_is two kp l P full run single twin = go (ltb kp 8) two (leb (min (2 ^ (kp / 8)) (length l)) (zeros_of l)) refl
  where
    it : Bool → Bool → Bool → Item
    it b two c = b ⇒ (two ⇒ Twin (get_or l 0 0) (get_or l 1 0) ∣ Single (get_or l 0 0)) ∣ c ⇒ Full ∣ Run (zeros_of l) (get_or l (zeros_of l) 0)

    go : (b two c : Bool) → leb (min (2 ^ (kp / 8)) (length l)) (zeros_of l) ≡ c → P (it b two c)
    go true true c e = twin
    go true false c e = single
    go false two true e = full
    go false two false e = run (let m = leb-false (min (2 ^ (kp / 8)) (length l)) (zeros_of l) e in omega arith)

-- the bits of what is left after some places
abbrev Rest : ℕ → Bool → List ℕ → (ℕ → ℕ → ℕ) → Type 0
Rest f two l most = (kp krp u : ℕ) → kp ≤ 80 → krp ≤ 80 → length (code_f f two kp krp (drop u l)) ≤ most krp u

-- a list's bits are its first item's, and the rest's
module _ (f : ℕ) (two : Bool) (kp krp : ℕ) (l : List ℕ) (some : 0 < length l) (most : ℕ) where
  abbrev Fits : Item → Type 0
  Fits it = length (item_bits kp krp it) + length (code_f f two (item_kp kp it) (item_krp krp it) (drop (item_used kp it) l)) ≤ most

  item_fits : Fits (item_of two kp l) → length (code_f (suc f) two kp krp l) ≤ most
  item_fits h =
      let it = item_of two kp l in
      let a = length-append (item_bits kp krp it) (code_f f two (item_kp kp it) (item_krp krp it) (drop (item_used kp it) l)) in
      let e = ap length (code_item f two kp krp l some) in
      omega (arith, h, a, e)

  module _ (hp : kp ≤ 80) (hr : krp ≤ 80) (m : ℕ → ℕ → ℕ) (rest : Rest f two l m) where
    full_fits : ((u : ℕ) → 0 < u → 1 + m krp u ≤ most) → Fits Full
    unfolding item_kp item_krp item_used
    full_fits h = omega (arith, size_full kp krp Full refl, rest (min 80 (kp + 4)) krp (2 ^ (kp / 8)) (omega arith) hr, h (2 ^ (kp / 8)) (pow_pos (kp / 8)))

    run_fits : (z v : ℕ) → 12 + gr_len (krp / 8) ((v - 1) / 2) + m (kr_after krp ((v - 1) / 2)) (suc z) ≤ most → Fits (Run z v)
    unfolding item_kp item_krp item_used
    run_fits z v h =
        let g = (v - 1) / 2 in
        omega (arith, size_run kp krp (Run z v) z v refl, h, rest (kp - 6) (kr_after krp g) (suc z) (omega arith) (kr_le krp g hr))

    single_fits : (v : ℕ) → gr_len (krp / 8) v + m (kr_after krp v) 1 ≤ most → Fits (Single v)
    unfolding item_kp item_krp item_used
    single_fits v h = omega (arith, size_single kp krp (Single v) v refl, h, rest _ (kr_after krp v) 1 (kp_one_le kp v hp) (kr_le krp v hr))

    twin_fits : (a b : ℕ) → gr_len (krp / 8) (a + b) + size (a + b) + m (kr_after krp (a + b)) 2 ≤ most → Fits (Twin a b)
    unfolding item_kp item_krp item_used
    twin_fits a b h = omega (arith, size_twin kp krp (Twin a b) a b refl, h, rest _ (kr_after krp (a + b)) 2 (kp_two_le kp a b hp) (kr_le krp (a + b) hr))

-- ---- all items

-- within M, but for the last t places
abbrev pub Below : ℕ → ℕ → List ℕ → Type 0
Below M t l = (i : ℕ) → i + t < length l → get_or l i 0 ≤ M

below_drop : (M t u : ℕ) (l : List ℕ) → Below M t l → Below M t (drop u l)
below_drop M t u l h i k = subst (λ (n : ℕ). n ≤ M) (sym (get_or-drop u l i 0)) (h (u + i) (omega (arith, length-drop u l)))

past : (l : List ℕ) (i : ℕ) → length l ≤ i → get_or l i 0 ≡ 0
past l i h = get_or-eq_default l 0 h

-- a place of at most 3,072 pays for itself: 3,096 bits, whatever krp is
abbrev alone : ℕ → ℕ
alone n = 3096 * n

-- the others have 79 bits each, and the last of them 1,024 more, for where it makes a pair with one of the last 64
shared : ℕ → ℕ
shared n = 3096 * min n 64 + 1024 * min (n - 64) 1 + 79 * (n - 64)

shared_few : (n : ℕ) → n ≤ 64 → shared n ≡ alone n
unfolding shared
shared_few n h = omega arith

shared_many : (n : ℕ) → 64 < n → shared n ≡ 194112 + 79 * n
unfolding shared
shared_many n h = omega arith

shared_more : (n u : ℕ) → 64 < n → 0 < u → shared (n - u) + 79 ≤ shared n
shared_more n u h l = by (n - u) (omega arith) (dec_lt 64 (n - u))
  where
    by : (k : ℕ) → k < n → Dec (64 < k) → shared k + 79 ≤ shared n
    by k lt (yes d) = omega (arith, shared_many k d, shared_many n h)
    by k lt (no d) = omega (arith, shared_few k (omega arith), shared_many n h)

-- into the last 64
shared_end : (n u : ℕ) → 64 < n → n ≤ u + 63 → (shared (n - u) ≡ alone (n - u)) × (alone (n - u) + 4199 ≤ shared n)
shared_end n u h l = (shared_few (n - u) (omega arith), omega (arith, shared_many n h))

module _ (f : ℕ) (two : Bool) (kp krp : ℕ) (l : List ℕ) (some : 0 < length l) (hp : kp ≤ 80) (hr : krp ≤ 80) (b : Below 3072 0 l) where
  value : ℕ
  value = get_or l (zeros_of l) 0

  a0 : ℕ
  a0 = get_or l 0 0

  a1 : ℕ
  a1 = get_or l 1 0

  run_most : zeros_of l < length l → gr_len (krp / 8) ((value - 1) / 2) ≤ 1547
  unfolding value
  run_most h = omega (arith, gr_crude krp ((value - 1) / 2) hr, b (zeros_of l) (omega arith))

  pair_most : (M : ℕ) → a0 ≤ M → M ≤ 3072 → gr_len (krp / 8) (a0 + a1) + size (a0 + a1) ≤ M + 24 + 3072 * min (length l - 1) 1
  unfolding a0 a1
  pair_most M h k = by (dec_lt 1 (length l))
    where
      by : Dec (1 < length l) → gr_len (krp / 8) (a0 + a1) + size (a0 + a1) ≤ M + 24 + 3072 * min (length l - 1) 1
      by (yes d) = let e = b 1 (omega arith) in omega (arith, gr_crude krp (a0 + a1) hr, e, size_fit (a0 + a1) 13 (omega arith))
      by (no d) = let e = past l 1 (omega arith) in omega (arith, gr_crude krp (a0 + a1) hr, e, size_fit (a0 + a1) 13 (omega arith))

  alone_step : Rest f two l (λ krp u. alone (length l - u)) → length (code_f (suc f) two kp krp l) ≤ alone (length l)
  unfolding value a0 a1
  alone_step rest =
      let n = length l in
      let m : ℕ → ℕ → ℕ = λ krp u. alone (n - u) in
      item_fits f two kp krp l some (alone n) (item_is two kp l (Fits f two kp krp l some (alone n))
      (full_fits f two kp krp l some (alone n) hp hr m rest (λ u h. omega arith))
      (λ h. run_fits f two kp krp l some (alone n) hp hr m rest (zeros_of l) value (omega (arith, run_most h)))
      (single_fits f two kp krp l some (alone n) hp hr m rest a0 (omega (arith, gr_crude krp a0 hr, b 0 (omega arith))))
      (twin_fits f two kp krp l some (alone n) hp hr m rest a0 a1 (omega (arith, pair_most 3072 (b 0 (omega arith)) (omega arith)))))

  -- with some places before the last 64: what the first place can be, and what is left in krp's store
  module _ (more : 64 < length l) (c : Below 1024 64 l) (back : Rest f two l (λ krp u. alone (length l - u)))
      (rest : Rest f two l (λ krp u. shared (length l - u) + store krp)) where
    shared_step : length (code_f (suc f) two kp krp l) ≤ shared (length l) + store krp
    unfolding value a0 a1
    shared_step =
        let n = length l in
        let most = shared n + store krp in
        let m : ℕ → ℕ → ℕ = λ krp u. shared (n - u) + store krp in
        item_fits f two kp krp l some most (item_is two kp l (Fits f two kp krp l some most)
        (full_fits f two kp krp l some most hp hr m rest (λ u h. omega (arith, shared_more n u more h)))
        (λ h. run_fits f two kp krp l some most hp hr m rest (zeros_of l) value (run h (dec_lt (zeros_of l + 64) n)))
        (single_fits f two kp krp l some most hp hr m rest a0 single)
        (pair (dec_lt 65 n)))
      where
        single : gr_len (krp / 8) a0 + (shared (length l - 1) + store (kr_after krp a0)) ≤ shared (length l) + store krp
        single = let e = c 0 (omega arith) in omega (arith, gr_paid krp a0 hr (omega arith), shared_more (length l) 1 more (omega arith))

        run : zeros_of l < length l → Dec (zeros_of l + 64 < length l) →
            12 + gr_len (krp / 8) ((value - 1) / 2) + (shared (length l - suc (zeros_of l)) + store (kr_after krp ((value - 1) / 2)))
            ≤ shared (length l) + store krp
        run h (yes d) =
            let e = c (zeros_of l) d in
            omega (arith, gr_paid krp ((value - 1) / 2) hr (omega arith), shared_more (length l) (suc (zeros_of l)) more (omega arith))
        run h (no d) =
            let e = shared_end (length l) (suc (zeros_of l)) more (omega arith) in
            omega (arith, e.0, e.1, run_most h, store_most (kr_after krp ((value - 1) / 2)))

        pair : Dec (65 < length l) → Fits f two kp krp l some (shared (length l) + store krp) (Twin a0 a1)
        pair (yes d) =
            let e = c 0 (omega arith) in
            let g = c 1 (omega arith) in
            twin_fits f two kp krp l some (shared (length l) + store krp) hp hr (λ krp u. shared (length l - u) + store krp) rest a0 a1
            (omega (arith, gr_paid krp (a0 + a1) hr (omega arith), size_fit (a0 + a1) 12 (omega arith), shared_more (length l) 2 more (omega arith)))
        pair (no d) =
            twin_fits f two kp krp l some (shared (length l) + store krp) hp hr (λ krp u. alone (length l - u)) back a0 a1
            (omega (arith, pair_most 1024 (c 0 (omega arith)) (omega arith), (shared_end (length l) 2 more (omega arith)).1))

all_alone : (f : ℕ) (two : Bool) (kp krp : ℕ) (l : List ℕ) → kp ≤ 80 → krp ≤ 80 → Below 3072 0 l → length (code_f f two kp krp l) ≤ alone (length l)
unfolding code_f
all_alone zero two kp krp l hp hr b = omega arith
all_alone (suc f) two kp krp [] hp hr b = omega arith
all_alone (suc f) two kp krp (x ∷ xs) hp hr b = alone_step f two kp krp (x ∷ xs) (omega arith) hp hr b (λ kp krp u hp hr.
    omega (arith, length-drop u (x ∷ xs), all_alone f two kp krp (drop u (x ∷ xs)) hp hr (below_drop 3072 0 u (x ∷ xs) b)))

all_shared : (f : ℕ) (two : Bool) (kp krp : ℕ) (l : List ℕ) → kp ≤ 80 → krp ≤ 80 → Below 3072 0 l → Below 1024 64 l →
    length (code_f f two kp krp l) ≤ shared (length l) + store krp
unfolding code_f
all_shared zero two kp krp l hp hr b c = omega arith
all_shared (suc f) two kp krp l hp hr b c =
    by (dec_lt 64 (length l)) (λ kp krp u hp hr. subst (λ (n : ℕ). length (code_f f two kp krp (drop u l)) ≤ shared n + store krp) (length-drop u l)
    (all_shared f two kp krp (drop u l) hp hr (below_drop 3072 0 u l b) (below_drop 1024 64 u l c)))
  where
    by : Dec (64 < length l) → Rest f two l (λ krp u. shared (length l - u) + store krp) → length (code_f (suc f) two kp krp l) ≤ shared (length l) + store krp
    by (no d) rest = omega (arith, shared_few (length l) (omega arith), all_alone (suc f) two kp krp l hp hr b)
    by (yes d) rest = shared_step f two kp krp l (omega arith) hp hr b d c
        (λ kp krp u hp hr. subst (λ (n : ℕ). length (code_f f two kp krp (drop u l)) ≤ alone n) (length-drop u l)
        (all_alone f two kp krp (drop u l) hp hr (below_drop 3072 0 u l b))) rest

-- 4,096 places
pub code_most : (two : Bool) (l : List ℕ) → length l ≡ 4096 → Below 3072 0 l → Below 1024 64 l → length (code_of two l) ≤ 519712
unfolding code_of
code_most two l n b c =
    omega (arith, all_shared (length l) two 8 8 l (omega arith) (omega arith) b c, shared_many (length l) (omega arith), store_most 8)

-- ---- the bytes of a component

fold_few : (z : ℤ) → fold_z z ≤ 2 * nat_abs z
unfolding fold_z
fold_few (pos n) = omega arith
fold_few (negsuc n) = omega arith

module _ (zs : List ℤ) (s : Slight zs) where
  front_folded : (k : ℕ) → k < 4032 → get_or (map fold_z zs) k 0 ≤ 1024
  front_folded k h = omega (arith, fold_at zs k, fold_few (get_or zs k (pos 0)), s.front k h)

  folded : (k : ℕ) → Dec (k < 4032) → k < 4096 → get_or (map fold_z zs) k 0 ≤ 3072
  folded k (yes d) h = omega (arith, front_folded k d)
  folded k (no d) h = omega (arith, fold_at zs k, fold_few (get_or zs k (pos 0)), s.last k (omega arith) h)

  pub slight_few : (mode : ℕ) → length (bytes_of mode zs) ≤ 64964
  slight_few mode =
      let n = length-map zs fold_z in
      let c = code_most (eqb mode 4) (map fold_z zs) (n ∙ s.long) (λ i h. folded i (dec_lt i 4032) (omega arith)) (λ i h. front_folded i (omega arith)) in
      omega (arith, c, bytes_length mode zs)

  slight_near : (i : ℕ) → Dec (i < 4032) → Dec (i < 4096) → nat_abs (get_or zs i (pos 0)) ≤ 32767
  slight_near i (yes a) b = omega (arith, s.front i a)
  slight_near i (no a) (yes b) = omega (arith, s.last i (omega arith) b)
  slight_near i (no a) (no b) =
      let past : length zs ≤ i = omega (arith, s.long) in
      rw (get_or-eq_default zs (pos 0) past) (omega arith)

  pub slight_fine : (mode : ℕ) → Fine mode zs
  slight_fine mode = record { range = is_range zs (λ i. slight_near i (dec_lt i 4032) (dec_lt i 4096)); small = omega (arith, slight_few mode) }
