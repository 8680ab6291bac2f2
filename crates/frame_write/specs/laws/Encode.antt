-- Laws of what the frame writer refuses: places of tiles, sizes of components and tiles, and the sizing loop.
-- Assumes nothing.
use Prim.Native.Nat.{ℕ, zero, suc, ◌+◌, ◌*◌, ◌-◌, ◌/◌, ◌%◌, ◌≤◌, ◌<◌}
use Rattle.std.specs.Prelude.{◌≡◌, Bool, true, false, List, eqb, ℤ, pos, nat_abs, get_or, Ok, Err, Result}
use Rattle.std.proofs.Math.Path.{refl, ap, subst}
use Rattle.std.proofs.Common.{sym, ◌∙◌, div-lt_iff_lt-mul, mod-lt, mul_comm}
use native.Mathlib.Omega.{arith}
use Rattle.std.proofs.Math.Decide.{dec_lt}
use Rattle.std.proofs.Math.Nat.{sub-zero}
use borrow.Author.Tests.{leb-true}
use Rattle.std.proofs.Math.ListN.{length, length-append, get_or-eq_default}
use Rattle.whole.specs.Row.{◌⇒◌∣◌, ◌⨟◌}
use Rattle.whole.specs.laws.Row.{held, both, stops, goes_on, passes}
use Rattle.whole.specs.Tab.{at}
use Rattle.wire.specs.Refusal.{refusal_number}
use Rattle.wire.specs.laws.Refusal.{number_pos}
use Rattle.wire.specs.declared.Refusal.{Refusal}
use Rattle.frame_layout.specs.Bytes.{Tile, tile_len, tile_of, tiles_of}
use Rattle.frame_layout.specs.laws.Here.{tile_length}
use Rattle.bands.specs.Bands.{QuantGood, coefficients_fault, range_fault, all_in}
use Rattle.bands.specs.laws.Range.{all_each}
use Rattle.code_write.specs.Write.{bytes_of, all_in_range, code_fault, Measures}
use Rattle.code_write.specs.laws.Write.{is_range}
use Rattle.frame_pieces.specs.Parts.{cols_of, tiles_no}
use Rattle.frame_pieces.specs.laws.Parts.{tile_parts, tiles_step_length, few_tiles}
use Rattle.tile_forth.specs.laws.TileForth.{rounded_of_length}
use Rattle.frame_write.specs.Encode.{list_of, tile_part, part_refusal}
use Rattle.frame_write.specs.Sets.{list_over, part_over, stop_over, tile_over, tile_refusal_over}
use Rattle.frame_write.specs.Picked.{stops_of}
use Rattle.quants.specs.Quants.{quant_for, chroma_index}
use Rattle.quants.specs.declared.Quants.{Quants}
use Rattle.frame_write.specs.laws.Stops.{stops_step}

-- ---- what the sizing pass says, by the two cases: it refuses, or it does not

module _ (f n : ℕ) where
  pub sizes_none : (r : Refusal) → refusal_number r ≡ f → Measures f n (Err r)
  sizes_none r e = record { number = e; size = λ z. absurd (number_pos r z) }

  pub sizes_done : (k : ℕ) → 0 ≡ f → k ≡ n → Measures f n (Ok k)
  sizes_done k e l = record { number = e; size = λ z. l }

-- ---- where a tile stands

place : (w h k c r : ℕ) → 1 ≤ c → 64 * c ≤ w + 63 → 64 * r ≤ h + 63 → k < c * r → (64 * (k % c) < w) × (64 * (k / c) < h)
place w h k c r p a b l =
    let x : k % c < c = mod-lt k {m = c} (omega arith) in
    let y : k / c < r = (div-lt_iff_lt-mul {k = c} {x = k} {y = r} (omega arith)).1 (subst (λ (z : ℕ). k < z) (mul_comm c r) l) in
    (omega arith, omega arith)

pub place_good : (w h k : ℕ) → 1 ≤ w → k < tiles_no w h → (64 * (k % cols_of w) < w) × (64 * (k / cols_of w) < h)
unfolding tiles_no cols_of
place_good w h k a l = place w h k ((w + 63) / 64) ((h + 63) / 64) (omega arith) (omega arith) (omega arith) l

pub few : (w h : ℕ) → w ≤ 4096 → h ≤ 2048 → tiles_no w h ≤ 2048
unfolding tiles_no cols_of
few w h a b = few_tiles ((w + 63) / 64) ((h + 63) / 64) w h (omega arith) (omega arith) a b

-- ---- a component

-- either set is good
pub for_good : (q : Quants) (c : ℕ) → QuantGood q.luma.v → QuantGood q.chroma.v → QuantGood (quant_for q c).v
unfolding quant_for ◌⇒◌∣◌
for_good q c l k = by (eqb c 0)
  where
    by : (t : Bool) → QuantGood (t ⇒ q.luma ∣ q.chroma).v
    by true = l
    by false = k

pub list_long : (p : List ℕ) (w h : ℕ) (q : List ℕ) (k c : ℕ) → length (list_of p w h q k c) ≡ 4096
unfolding list_of
list_long p w h q k c = rounded_of_length p w h q (k % cols_of w) (k / cols_of w) c

-- what is not refused has its coefficients in range
pub judged_range : (q : List ℕ) (zs : List ℤ) → 0 ≡ coefficients_fault q zs → all_in_range zs ≡ true
unfolding coefficients_fault range_fault
judged_range q zs e =
    let a = (held (all_in (at zs) (length zs)) 9 0 0 (λ z. omega arith) (both _ _ e).0).0 in
    is_range zs (λ i. within i (dec_lt i (length zs)) a)
  where
    within : (i : ℕ) → Dec (i < length zs) → all_in (at zs) (length zs) ≡ true → nat_abs (get_or zs i (pos 0)) ≤ 32767
    within i (yes l) a = (all_each (at zs) (length zs) a i l).near
    within i (no l) a = subst (λ (z : ℤ). nat_abs z ≤ 32767) (sym (get_or-eq_default zs (pos 0) (omega arith))) (omega arith)

module _ (mode : ℕ) (q : List ℕ) (zs : List ℤ) where
  pub part_small : 0 ≡ part_refusal mode q zs → length (bytes_of mode zs) ≤ 65535
  unfolding part_refusal
  part_small e = leb-true (length (bytes_of mode zs)) 65535 (held _ _ _ _ (λ z. omega arith) (both _ _ e).1).0

  pub part_range : 0 ≡ part_refusal mode q zs → all_in_range zs ≡ true
  unfolding part_refusal
  part_range e = judged_range q zs (both _ _ e).0

  pub part_judged : (r : Refusal) → refusal_number r ≡ coefficients_fault q zs → Measures (part_refusal mode q zs) (length (bytes_of mode zs)) (Err r)
  unfolding part_refusal
  part_judged r e = sizes_none _ _ r (stops _ _ _ (λ z. number_pos r (e ∙ z)) e)

  -- behind the reader's 9 the component writer's own is silent
  same_six : 0 ≡ coefficients_fault q zs → code_fault mode zs ≡ part_refusal mode q zs
  unfolding part_refusal code_fault
  same_six e = goes_on _ _ _ (sym e) (sym (passes _ _ _ _ (judged_range q zs e) refl))

  pub part_measured : 0 ≡ coefficients_fault q zs → (r : Result ℕ Refusal) → Measures (code_fault mode zs) (length (bytes_of mode zs)) r →
      Measures (part_refusal mode q zs) (length (bytes_of mode zs)) r
  part_measured e r m = record { number = m.number ∙ same_six e; size = m.size }

-- ---- a tile: the first of three refusals, or the three sizes together

module _ (a b c n : ℕ) (r : Refusal) where
  pub first-of : refusal_number r ≡ a → Measures (a ⨟ (b ⨟ c)) n (Err r)
  first-of e = sizes_none _ _ r (stops _ _ _ (λ z. number_pos r (e ∙ z)) e)

  pub second-of : 0 ≡ a → refusal_number r ≡ b → Measures (a ⨟ (b ⨟ c)) n (Err r)
  second-of z e = sizes_none _ _ r (goes_on _ _ _ (sym z) (stops _ _ _ (λ y. number_pos r (e ∙ y)) e))

  pub third_of : 0 ≡ a → 0 ≡ b → refusal_number r ≡ c → Measures (a ⨟ (b ⨟ c)) n (Err r)
  third_of z y e = sizes_none _ _ r (goes_on _ _ _ (sym z) (goes_on _ _ _ (sym y) e))

module _ (p : List ℕ) (w h mode : ℕ) (q : Quants) where
  pub tile_long :
      (k : ℕ) →
      tile_len (tile_over p w h mode q k) ≡ 19 + length (part_over p w h mode q k 0) + length (part_over p w h mode q k 1) + length (part_over p w h mode q k 2)
  unfolding tile_over
  tile_long k = tile_parts (chroma_index q) (k % cols_of w) (k / cols_of w) (part_over p w h mode q k 0) (part_over p w h mode q k 1)
      (part_over p w h mode q k 2)

  pub tile_sized :
      (k x y z n : ℕ) →
      Measures (stop_over p w h mode q k 0) (length (part_over p w h mode q k 0)) (Ok x) →
      Measures (stop_over p w h mode q k 1) (length (part_over p w h mode q k 1)) (Ok y) →
      Measures (stop_over p w h mode q k 2) (length (part_over p w h mode q k 2)) (Ok z) →
      n ≡ 19 + x + y + z → Measures (tile_refusal_over p w h mode q k) (tile_len (tile_over p w h mode q k)) (Ok n)
  unfolding tile_refusal_over
  tile_sized k x y z n a b c e =
      sizes_done _ _ n (goes_on _ _ _ (sym a.number) (goes_on _ _ _ (sym b.number) c.number))
      (omega (arith, tile_long k, a.size refl, b.size refl, c.size refl))

  pub tile_small : (k : ℕ) → 0 ≡ tile_refusal_over p w h mode q k → tile_len (tile_over p w h mode q k) ≤ 196624
  unfolding tile_refusal_over tile_part
  tile_small k e =
      let a = both _ _ e in
      let b = both _ _ a.1 in
      let x = part_small mode (quant_for q 0).v (list_over p w h q k 0) a.0 in
      let y = part_small mode (quant_for q 1).v (list_over p w h q k 1) b.0 in
      let z = part_small mode (quant_for q 2).v (list_over p w h q k 2) b.1 in
      omega (arith, tile_long k)

-- a part that is sized and not refused
pub part_sized :
    (mode : ℕ) (q : List ℕ) (zs : List ℤ) (k : ℕ) → Measures (part_refusal mode q zs) (length (bytes_of mode zs)) (Ok k) → k ≤ 65535
part_sized mode q zs k m = let a = m.size refl in let b = part_small mode q zs m.number in omega arith

-- ---- the sizing loop: what is left to refuse, and the bytes so far

pub record Sizing (tile : ℕ → Tile) (stop : ℕ → ℕ) (n i total : ℕ) : Type 0 where
  pub rest : stops_of stop n 0 ≡ stops_of stop (n - i) i
  pub sum : total + length (tiles_of tile (n - i) i) ≡ length (tiles_of tile n 0)
  pub small : total ≤ i * 196624

module _ (tile : ℕ → Tile) (stop : ℕ → ℕ) where
  pub sizing_start : (n : ℕ) → Sizing tile stop n 0 0
  sizing_start n = record { rest = rw sub-zero; sum = rw sub-zero (omega arith); small = omega arith }

  pub sizing_ends : (n i total : ℕ) → n ≤ i → Sizing tile stop n i total →
      Measures (stops_of stop n 0) (length (tiles_of tile n 0)) (Ok total)
  unfolding stops_of tiles_of
  sizing_ends n i total l s =
      let z : n - i ≡ 0 = omega arith in
      sizes_done _ _ total (sym (s.rest ∙ ap (λ (k : ℕ). stops_of stop k i) z))
      (omega (arith, subst (λ (k : ℕ). total + length (tiles_of tile k i) ≡ length (tiles_of tile n 0)) z s.sum))

  module _ (n i total : ℕ) (l : i < n) (s : Sizing tile stop n i total) where
    pub sizing_stops : (r : Refusal) → refusal_number r ≡ stop i → Measures (stops_of stop n 0) (length (tiles_of tile n 0)) (Err r)
    sizing_stops r e = sizes_none _ _ r (stops _ _ _ (λ z. number_pos r (e ∙ z)) e ∙ sym (s.rest ∙ stops_step stop n i l))

    pub sizing_next : (k : ℕ) → Measures (stop i) (tile_len (tile i)) (Ok k) → (0 ≡ stop i → tile_len (tile i) ≤ 196624) →
        Sizing tile stop n (i + 1) (total + k) × (total + k ≤ (i + 1) * 196624)
    sizing_next k m most =
        let e = m.size refl in
        let t = most m.number in
        let u = tiles_step_length tile n i l in
        let a = s.sum in
        let b = s.small in
        let c : total + k ≤ (i + 1) * 196624 = omega arith in
        (record { rest = s.rest ∙ (stops_step stop n i l ∙ sym (goes_on _ _ _ (sym m.number) refl)); sum = omega arith; small = c }, c)

  -- the bytes of tiles that are not refused
  module _ (most : (i : ℕ) → 0 ≡ stop i → tile_len (tile i) ≤ 196624) where
    pub stops_small : (n i : ℕ) → 0 ≡ stops_of stop n i → length (tiles_of tile n i) ≤ n * 196624
    unfolding stops_of tiles_of
    stops_small zero i e = omega arith
    stops_small (suc n) i e =
        let b = both _ _ e in
        let s = most i b.0 in
        let more = stops_small n (i + 1) b.1 in
        let t = tile_length (tile i) in
        let a = length-append (tile_of (tile i)) (tiles_of tile n (i + 1)) in
        omega arith

    pub sized_small : (n k : ℕ) → n ≤ 2048 → Measures (stops_of stop n 0) (length (tiles_of tile n 0)) (Ok k) →
        (k ≡ length (tiles_of tile n 0)) × (k ≤ 402685952)
    sized_small n k l m =
        let a = m.size refl in
        let b = stops_small n 0 m.number in
        (a, omega arith)
