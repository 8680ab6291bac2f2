-- The quantisers of a checked tileset are good, and where they stand.
use Rattle.std.specs.Prelude.{ℕ, zero, suc, ◌+◌, ◌*◌, ◌/◌, ◌%◌, ◌≤◌, ◌<◌, ◌≡◌, List, [], ◌∷◌, drop}
use Rattle.std.proofs.Math.Path.{ap}
use Rattle.std.proofs.Common.{sym, ◌∙◌, arith, length-take, length-drop, get_or-drop, leb-true}
use Rattle.std.proofs.Math.ListN.{length, get_or, take}
use Rattle.std.proofs.Math.Seq.{get_or-take}
use Rattle.whole.specs.laws.Row.{held}
use Rattle.frame_layout.specs.Reader.{halves_fault, set_at, quant_count, set_fault, tiles_fault, tile_count, data_of}
use Rattle.frame_blocks.specs.Blocks.{set_front}
use Rattle.frame_blocks.specs.laws.Blocks.{quants_each, set_good, set_goes_on}
use Rattle.bands.specs.Bands.{quant_of, QuantGood}
use Rattle.frame_blocks.specs.Judged.{judged, in_set, SetSound}
use Rattle.whole.specs.Row.{◌⨟◌}

not_0 : (k : ℕ) → 0 ≡ suc k → ⊥
not_0 k e = omega arith

-- a byte of two quantisers without a fault
halves_good : (b : ℕ) → 0 ≡ halves_fault b → (6 ≤ b % 16) × ((6 ≤ b / 16) × (b / 16 ≤ 15))
unfolding halves_fault
halves_good b e =
    let p = held _ _ _ _ (not_0 6) e in
    let q = held _ _ _ _ (not_0 6) p.1 in
    let r = held _ _ _ _ (not_0 6) q.1 in
    (leb-true _ _ p.0, (leb-true _ _ q.0, leb-true _ _ r.0))

low_half : (b : ℕ) → b % 16 ≤ 15
low_half b = omega arith

-- every value of bytes without a fault is from 6 to 15
values_good :
    (xs : List ℕ) → ((i : ℕ) → i < length xs → 0 ≡ halves_fault (get_or xs i 0)) → (i : ℕ) → i < length xs + length xs →
    (6 ≤ get_or (quant_of xs) i 0) × (get_or (quant_of xs) i 0 ≤ 15)
unfolding quant_of
values_good [] g i l = absurd (omega arith)
values_good (b ∷ bs) g zero l = ((halves_good b (g 0 (omega arith))).0, low_half b)
values_good (b ∷ bs) g (suc zero) l = let p = (halves_good b (g 0 (omega arith))).1 in (p.0, p.1)
values_good (b ∷ bs) g (suc (suc i)) l = values_good bs (λ k m. g (suc k) (omega arith)) i (omega arith)

module _ (m : List ℕ) (at : ℕ) (s : SetSound m at) (j : ℕ) (l : j < quant_count m at) where
  -- set j lies in the message
  pub set_fits : at + (22 + 5 * j) + 5 ≤ length m
  set_fits = omega (arith, s.good.there, s.good.size)

  -- and its ten values are good
  pub set_values : QuantGood (quant_of (set_at m at j))
  unfolding set_at
  set_values =
      let a = at + (22 + 5 * j) in
      let five = take 5 (drop a m) in
      let len : length five ≡ 5 = simp (length-take, length-drop) (omega (arith, set_fits)) in
      let good = values_good five
      (λ i k.
      let e : get_or five i 0 ≡ get_or m (at + 22 + (5 * j + i)) 0 =
      get_or-take 5 (drop a m) i 0 (omega arith) ∙ (get_or-drop a m i 0 ∙ ap (λ (z : ℕ). get_or m z 0) (omega arith)) in
      quants_each m (5 * quant_count m at) (at + 22) (5 * j + i) s.quants (omega arith) ∙ ap halves_fault (sym e)) in
      record { low = λ i k. (good i (omega arith)).0; high = λ i k. (good i (omega arith)).1 }

pub set_sound : (et : ℕ) (m : List ℕ) (at : ℕ) → at ≤ length m → 0 ≡ set_front et m at → SetSound m at
set_sound et m at l e = let g = set_good m at l et e in record { good = g.0; quants = g.1 }

-- a tileset's first fault: its front's, then its tiles'
pub set-fault :
    (w h et : ℕ) (m : List ℕ) (at : ℕ) →
    set_fault judged w h et m at ≡ (set_front et m at ⨟ tiles_fault (in_set et m at) w h (quant_count m at) (data_of m at) (tile_count m at) 0)
unfolding in_set
set-fault w h et m at = set_goes_on judged w h et m at

-- the set that was read, by the index that was read
pub set_is : (m : List ℕ) (at j i : ℕ) (v : List ℕ) → v ≡ quant_of (take 5 (drop (at + (22 + 5 * j)) m)) → j ≡ i → v ≡ quant_of (set_at m at i)
unfolding set_at
set_is m at j i v e x = e ∙ ap (λ (z : ℕ). quant_of (take 5 (drop (at + (22 + 5 * z)) m))) x
