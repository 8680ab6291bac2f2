-- One grey pixel, ten equal quantisers a set: its samples, its lists and their differences are all 0, so nothing is refused, in both modes; with luma's 6 and
-- chroma's 6, and with 6 and 7.
-- Assumes nothing.
use Prim.Native.Nat.{ℕ, zero, suc, ◌+◌, ◌*◌, ◌-◌, ◌/◌, ◌%◌, ◌^◌, min, ◌≤◌, ◌<◌}
use Rattle.std.specs.Prelude.{◌≡◌, true, false, List, [], ◌∷◌, ℤ, pos, negsuc, ◌*ℤ◌, length, get_or, replicate}
use Rattle.std.proofs.Math.Path.{refl}
use Rattle.std.proofs.Common.{ap, sym, ◌∙◌, subst, arith, ext_get_or, le-leb}
use Rattle.std.proofs.lemmas.List.{length-replicate}
use Rattle.whole.specs.Row.{◌⇒◌∣◌}
use Rattle.whole.specs.laws.Row.{passes, goes_on}
use Rattle.whole.specs.laws.Near.{Near, sub_near, wide_near}
use Rattle.whole.specs.Tab.{at, table}
use Rattle.whole.specs.laws.Tab.{AllNear, tab_near, length_tab, at_tab}
use Rattle.bands.specs.Bands.{QuantGood, band_of, ll3, sums_of, sums_fault, summed, scale_at, scale_fault, range_fault, coefficients_fault}
use Rattle.bands.specs.laws.Band.{band_below}
use Rattle.bands.specs.laws.Range.{each_all, sum_near}
use Rattle.bands.specs.laws.Part.{seam_near}
use Rattle.bands.specs.Rounding.{round_z, round_at, diff_at, differences, rounded_by}
use Rattle.colour.specs.Colour.{luma_z, cb_z, cr_z}
use Rattle.wave_forth.specs.laws.Forth.{forth_near}
use Rattle.wire.specs.Mode.{is_mode}
use Rattle.wire.specs.laws.Mode.{is_1, is_4}
use Rattle.code_write.specs.Write.{bytes_of}
use Rattle.code.specs.Cases.{first}
use Rattle.code_write.specs.Cases.{CodeSent}
use Rattle.code_write.specs.laws.Cases.{write_cases}
use Rattle.tile_forth.specs.TileForth.{component_of, bytes_at, sample_at, rounded_of}
use Rattle.frame_pieces.specs.Parts.{cols_of, tiles_no}
use Rattle.quants.specs.Quants.{alike, same, quant_for, one_for}
use Rattle.quants.specs.declared.Quants.{Quants}
use Rattle.frame_write.specs.Encode.{list_of, part_refusal}
use Rattle.frame_write.specs.Sets.{tile_refusal_over, refusals_over, PictureOver}
use Rattle.frame_write.specs.laws.Encode.{list_long}
use Rattle.frame_readback.specs.laws.OurTiles.{Sendable}

abbrev pub grey : List ℕ
grey = 128 ∷ 128 ∷ 128 ∷ []

-- ten of one value
abbrev pub tens : ℕ → List ℕ
tens v = replicate 10 v

abbrev pub sixes : List ℕ
sixes = replicate 10 6

abbrev pub sets_by : ℕ → ℕ → Quants
sets_by a b = record { luma = record { v = tens a }; chroma = record { v = tens b } }

same_at : (v n i : ℕ) → i < n → get_or (replicate n v) i 0 ≡ v
same_at v zero i h = absurd (omega arith)
same_at v (suc n) zero h = refl
same_at v (suc n) (suc i) h = same_at v n i (omega arith)

-- a quantiser that leaves 0 what it is, rounded and scaled
record Fine (v : ℕ) : Type 0 where
  low : 6 ≤ v
  high : v ≤ 15
  round : round_z v (pos 0) ≡ pos 0
  scale : pos 0 *ℤ pos (2 ^ (v - 1)) ≡ pos 0

fine_6 : Fine 6
fine_6 = record { low = omega arith; high = omega arith; round = refl; scale = refl }

fine_7 : Fine 7
fine_7 = record { low = omega arith; high = omega arith; round = refl; scale = refl }

quants : (v : ℕ) → Fine v → QuantGood (tens v)
quants v f =
    let a = f.low in
    let b = f.high in
    record { low = λ i h. omega (arith, same_at v 10 i h); high = λ i h. omega (arith, same_at v 10 i h) }

picture : (a b : ℕ) → Fine a → Fine b → PictureOver grey 1 1 (sets_by a b)
picture a b f g = record {
  wide = omega arith;
  wider = omega arith;
  high = omega arith;
  higher = omega arith;
  pixels = refl;
  luma = quants a f;
  chroma = quants b g;
}

-- ---- all zeros, said by bounds of 0

nothing : (z : ℤ) → Near 0 z → z ≡ pos 0
nothing (pos zero) h = refl
nothing (pos (suc n)) h = absurd (omega (arith, h.near))
nothing (negsuc n) h = absurd (omega (arith, h.near))

none : (z : ℤ) → z ≡ pos 0 → Near 0 z
none z e = subst (Near 0) (sym e) (record { near = omega arith })

grey_0 : (c : ℕ) → c < 3 → component_of c 128 128 128 ≡ pos 0
unfolding component_of luma_z cb_z cr_z ◌⇒◌∣◌
grey_0 zero h = refl
grey_0 (suc zero) h = refl
grey_0 (suc (suc zero)) h = refl
grey_0 (suc (suc (suc c))) h = absurd (omega arith)

edge_0 : (k : ℕ) → min k (1 - 1) ≡ 0
edge_0 k = omega arith

sample_0 : (c tx ty i : ℕ) → c < 3 → sample_at grey 1 1 tx ty c i ≡ pos 0
unfolding sample_at bytes_at
sample_0 c tx ty i h = rw (edge_0 (64 * tx + i % 64), edge_0 (64 * ty + i / 64)) (grey_0 c h)

round_0 : (v : ℕ) → Fine v → (xs : List ℤ) (k : ℕ) → AllNear 0 xs → round_at (tens v) (at xs) k ≡ pos 0
round_0 v f xs k n = rw (same_at v 10 (band_of k) (band_below k), nothing (at xs k) (n.all k)) f.round

diff_0 : (f : ℕ → ℤ) → ((k : ℕ) → Near 0 (f k)) → (i : ℕ) → Near 0 (diff_at f i)
unfolding diff_at
diff_0 f n zero = n 0
diff_0 f n (suc i) = sub_near (n (suc i)) (n i)

rounded_0 : (v : ℕ) → Fine v → (xs : List ℤ) → AllNear 0 xs → AllNear 0 (rounded_by (tens v) xs)
unfolding rounded_by differences
rounded_0 v f xs n =
    let T = table 4096 (round_at (tens v) (at xs)) in
    let t = tab_near 4096 (round_at (tens v) (at xs)) (λ k. none _ (round_0 v f xs k n)) in
    seam_near T (table 64 (diff_at (ll3 T))) (length_tab 4096 _) (length_tab 64 _) t
    (λ i h. subst (Near 0) (sym (at_tab 64 (diff_at (ll3 T)) i h)) (diff_0 (ll3 T) (λ k. t.all (4032 + k)) i))

list_0 : (v : ℕ) → Fine v → (c k : ℕ) → c < 3 → AllNear 0 (list_of grey 1 1 (tens v) k c)
unfolding list_of rounded_of
list_0 v f c k h =
    rounded_0 v f _
    (forth_near (table 4096 (sample_at grey 1 1 (k % cols_of 1) (k / cols_of 1) c))
    (tab_near 4096 _ (λ i. none _ (sample_0 c (k % cols_of 1) (k / cols_of 1) i h))))

zero_at : (n i : ℕ) → get_or (replicate n (pos 0)) i (pos 0) ≡ pos 0
zero_at zero i = refl
zero_at (suc n) zero = refl
zero_at (suc n) (suc i) = zero_at n i

first_at : (i : ℕ) → at (first (pos 0)) i ≡ pos 0
first_at zero = refl
first_at (suc i) = zero_at 4095 i

zeros : (zs : List ℤ) → length zs ≡ 4096 → AllNear 0 zs → zs ≡ first (pos 0)
zeros zs l n = ext_get_or (pos 0) zs (first (pos 0)) (l ∙ ap suc (sym (length-replicate 4095 (pos 0)))) (λ i h. nothing (at zs i) (n.all i) ∙ sym (first_at i))

-- ---- nothing is refused

wide : {z : ℤ} → Near 0 z → Near 32767 z
wide h = wide_near (omega arith) h

sums_0 : (xs : List ℤ) → AllNear 0 xs → (i : ℕ) → Near 0 (sums_of xs i)
unfolding sums_of
sums_0 xs n i = wide_near (omega arith) (sum_near (ll3 xs) (i + 1) (λ k h. n.all (4032 + k)))

scale_0 : (v : ℕ) → Fine v → (xs : List ℤ) → AllNear 0 xs → (k : ℕ) → scale_at (tens v) (at xs) k ≡ pos 0
scale_0 v f xs n k = rw (same_at v 10 (band_of k) (band_below k), nothing (at xs k) (n.all k)) f.scale

judged_0 : (v : ℕ) → Fine v → (zs : List ℤ) → length zs ≡ 4096 → AllNear 0 zs → 0 ≡ coefficients_fault (tens v) zs
unfolding coefficients_fault range_fault sums_fault scale_fault summed
judged_0 v f zs l n =
    let s = seam_near zs (table 64 (sums_of zs)) l (length_tab 64 _) n (λ i h. subst (Near 0) (sym (at_tab 64 (sums_of zs) i h)) (sums_0 zs n i)) in
    goes_on _ _ _ (sym (passes _ _ _ _ (each_all (at zs) (length zs) (λ i h. wide (n.all i))) refl))
    (goes_on _ _ _ (sym (passes _ _ _ _ (each_all (sums_of zs) 64 (λ i h. wide (sums_0 zs n i))) refl))
    (passes _ _ _ _ (each_all (scale_at (tens v) (at (summed zs))) 4096 (λ i h. wide (none _ (scale_0 v f (summed zs) s i)))) refl))

bytes_3 : (mode : ℕ) → CodeSent mode (0x00 ∷ 0x00 ∷ 0x00 ∷ []) (first (pos 0)) → (zs : List ℤ) → length zs ≡ 4096 → AllNear 0 zs → length (bytes_of mode zs) ≡ 3
bytes_3 mode s zs l n = ap (λ (xs : List ℤ). length (bytes_of mode xs)) (zeros zs l n) ∙ ap length s.bytes

module _ (mode : ℕ) (s : CodeSent mode (0x00 ∷ 0x00 ∷ 0x00 ∷ []) (first (pos 0))) where
  part_0 : (v : ℕ) → Fine v → (c k : ℕ) → c < 3 → 0 ≡ part_refusal mode (tens v) (list_of grey 1 1 (tens v) k c)
  unfolding part_refusal
  part_0 v f c k h =
      let zs = list_of grey 1 1 (tens v) k c in
      let l = list_long grey 1 1 (tens v) k c in
      let n = list_0 v f c k h in
      goes_on _ _ _ (sym (judged_0 v f zs l n)) (passes _ _ _ _ (le-leb (length (bytes_of mode zs)) 65535 (omega (arith, bytes_3 mode s zs l n))) refl)

  module _ (a b : ℕ) (f : Fine a) (g : Fine b) where
    none_0 : (n i : ℕ) → 0 ≡ refusals_over grey 1 1 mode (sets_by a b) n i
    unfolding refusals_over tile_refusal_over quant_for ◌⇒◌∣◌
    none_0 zero i = refl
    none_0 (suc n) i =
        goes_on _ _ _
        (sym (goes_on _ _ _ (sym (part_0 a f 0 i (omega arith))) (goes_on _ _ _ (sym (part_0 b g 1 i (omega arith))) (part_0 b g 2 i (omega arith)))))
        (none_0 n (i + 1))

    sendable : is_mode mode ≡ true → Sendable grey 1 1 mode (sets_by a b)
    sendable m = record { picture = picture a b f g; luma = refl; chroma = refl; allowed = m; none = none_0 (tiles_no 1 1) 0 }

-- what the read-back asks, met in both modes: with one set for both, and with two that differ
pub sendable_1 : Sendable grey 1 1 1 (one_for sixes)
sendable_1 = sendable 1 write_cases.zeros.0 6 6 fine_6 fine_6 is_1

pub sendable_4 : Sendable grey 1 1 4 (one_for sixes)
sendable_4 = sendable 4 write_cases.zeros.1 6 6 fine_6 fine_6 is_4

pub two_sendable_1 : Sendable grey 1 1 1 (sets_by 6 7)
two_sendable_1 = sendable 1 write_cases.zeros.0 6 7 fine_6 fine_7 is_1

pub two_sendable_4 : Sendable grey 1 1 4 (sets_by 6 7)
two_sendable_4 = sendable 4 write_cases.zeros.1 6 7 fine_6 fine_7 is_4

pub two_differ : same (sets_by 6 7) ≡ false
unfolding same alike
two_differ = refl
