-- What a passed check gives, block by block, and how a tileset's fault goes on with its tiles.
use Rattle.std.specs.Prelude.{ℕ, zero, suc, ◌+◌, ◌*◌, ◌-◌, ◌≤◌, ◌<◌, ◌≡◌, refl, Bool, true, List, length, get_or, take, drop, leb, eqb, Result, IsErrAnd}
use Rattle.std.proofs.Common.{ap, sym, ◌∙◌, arith, add_assoc, length-drop, get_or-drop}
use Rattle.std.proofs.Math.Seq.{get_or-take, length-take-le}
use borrow.Author.Tests.{leb-true, eqb-true}
use Rattle.whole.specs.Row.{◌⨟◌}
use Rattle.whole.specs.laws.Row.{held, both, stops, goes_on}
use Rattle.wire.specs.Refusal.{refusal_number, number_of}
use Rattle.wire.specs.laws.Refusal.{number_pos, number_on}
use Rattle.wire.specs.declared.Refusal.{Refusal}
use Rattle.frame_layout.specs.Reader.{block_judge, size_at, fixed_head, least_head, codec_fault, begin_fault, region_judge, region_fault, rect_count, set_judge}
use Rattle.frame_layout.specs.Reader.{set_fault, halves_fault, quants_fault, quant_count, set_at, tile_count, data_of, tiles_fault}
use Rattle.frame_blocks.specs.Blocks.{set_fields, set_front, RegionGood, SetGood}

not_0 : (k : ℕ) → 0 ≡ suc k → ⊥
not_0 k e = omega arith

-- what a `?` hands on is the first fault, where that is what it found
pub handed_first : {A : Type 0} (answer : Result A Refusal) (refusal : Refusal) (f b : ℕ) → IsErrAnd answer (λ r. r ≡ refusal) →
    refusal_number refusal ≡ f → number_of answer ≡ (f ⨟ b)
handed_first answer refusal f b h e = stops f b (number_of answer) (λ z. number_pos refusal (e ∙ z)) (number_on answer refusal h ∙ e)

pub head_good : (kind is : ℕ) (t : Bool) (size room : ℕ) → 0 ≡ block_judge kind is t size room → (t ≡ true) × (size ≤ room)
unfolding block_judge
head_good kind is t size room e =
    let a = (held _ _ _ _ (not_0 2) e).1 in
    let b = held _ _ _ _ (not_0 3) a in
    let c = held _ _ _ _ (not_0 0) b.1 in
    (b.0, leb-true _ _ c.0)

module _ (m : List ℕ) (at : ℕ) (l : at ≤ length m) where
  pub fixed_good : (kind size : ℕ) → 0 ≡ fixed_head kind size m at → (size_at m at ≡ size) × (at + size ≤ length m)
  unfolding fixed_head
  fixed_good kind size e =
      let a = (held _ _ _ _ (not_0 0) e).1 in
      let g = head_good kind _ (eqb (size_at m at) size) (size_at m at) (length m - at) a in
      let s = eqb-true _ _ g.0 in
      (s, omega arith)

  pub least_good : (kind least : ℕ) → 0 ≡ least_head kind least m at → (least ≤ size_at m at) × (at + size_at m at ≤ length m)
  unfolding least_head
  least_good kind least e =
      let a = held _ _ _ _ (not_0 0) e in
      let r = leb-true 6 (length m - at) a.0 in
      let g = head_good kind _ (leb least (size_at m at)) (size_at m at) (length m - at) a.1 in
      (leb-true _ _ g.0, omega arith)

  pub region_sized : (flags : ℕ) → 0 ≡ least_head 0xCCC6 15 m at → 0 ≡ region_judge flags (rect_count m at) (size_at m at) → RegionGood m at
  unfolding region_judge
  region_sized flags h e =
      let a = (held _ _ _ _ (not_0 4) e).1 in
      let b = held _ _ _ _ (not_0 5) a in
      let c = held _ _ _ _ (not_0 3) b.1 in
      record { there = (least_good 0xCCC6 15 h).1; count = leb-true _ _ b.0; size = eqb-true _ _ c.0 }

  pub region_good : 0 ≡ region_fault m at → RegionGood m at
  unfolding region_fault
  region_good e =
      let a = both _ _ e in
      let b = both _ _ a.1 in
      region_sized _ a.0 (both _ _ b.1).0

  pub set_sized : (et : ℕ) → 0 ≡ least_head 0xCCC7 22 m at → 0 ≡ set_fields et m at → SetGood m at
  unfolding set_fields set_judge
  set_sized et h e =
      let a = (held _ _ _ _ (not_0 4) e).1 in
      let b = (held _ _ _ _ (not_0 4) a).1 in
      let c = (held _ _ _ _ (not_0 4) b).1 in
      let d = (held _ _ _ _ (not_0 4) c).1 in
      let f = held _ _ _ _ (not_0 5) d in
      let g = held _ _ _ _ (not_0 3) f.1 in
      record { there = (least_good 0xCCC7 22 h).1; count = leb-true _ _ f.0; size = eqb-true _ _ g.0 }

  pub set_good : (et : ℕ) → 0 ≡ set_front et m at → SetGood m at × (0 ≡ quants_fault m (5 * quant_count m at) (at + 22))
  unfolding set_front
  set_good et e =
      let a = both _ _ e in
      let b = both _ _ a.1 in
      let c = both _ _ b.1 in
      (set_sized et a.0 c.0, c.1)

pub begin_good : (m : List ℕ) → 0 ≡ begin_fault m 0 → 14 ≤ length m
unfolding begin_fault
begin_good m e = let g = fixed_good m 0 (omega arith) 0xCCC4 14 (both _ _ e).0 in omega arith

-- ---- quantisers

pub quants_stop : (m : List ℕ) (k at i x : ℕ) → i < k → (x ≡ 0 → ⊥) → x ≡ halves_fault (get_or m (at + i) 0) → x ≡ quants_fault m (k - i) (at + i)
unfolding quants_fault
quants_stop m k at i x l f e =
    let s : k - i ≡ suc (k - (i + 1)) = omega arith in
    rw s (stops _ _ _ (λ z. f (e ∙ z)) e)

pub quants_go_on :
    (m : List ℕ) (k at i : ℕ) → i < k → halves_fault (get_or m (at + i) 0) ≡ 0 → quants_fault m (k - i) (at + i) ≡ quants_fault m (k - (i + 1)) (at + (i + 1))
unfolding quants_fault
quants_go_on m k at i l f =
    let s : k - i ≡ suc (k - (i + 1)) = omega arith in
    rw s (sym (goes_on _ _ _ f (rw add_assoc)))

pub quants_end : (m : List ℕ) (k at i : ℕ) → k ≤ i → 0 ≡ quants_fault m (k - i) (at + i)
unfolding quants_fault
quants_end m k at i l = let z : k - i ≡ 0 = omega arith in rw z refl

-- the bytes of the part that a walk goes over
pub part_byte : (m : List ℕ) (k at i : ℕ) → i < k → get_or (take (at + k - at) (drop at m)) i 0 ≡ get_or m (at + i) 0
part_byte m k at i l = get_or-take (at + k - at) (drop at m) i 0 (omega arith) ∙ get_or-drop at m i 0

pub part_long : (m : List ℕ) (k at : ℕ) → at + k ≤ length m → length (take (at + k - at) (drop at m)) ≡ k
part_long m k at l = length-take-le (at + k - at) (drop at m) (let d = length-drop at m in omega arith) ∙ omega arith

-- every byte of a checked row of quantisers is good
pub quants_each : (m : List ℕ) (k at i : ℕ) → 0 ≡ quants_fault m k at → i < k → 0 ≡ halves_fault (get_or m (at + i) 0)
unfolding quants_fault
quants_each m zero at i e l = absurd (omega arith)
quants_each m (suc k) at zero e l = (both _ _ e).0 ∙ ap (λ (z : ℕ). halves_fault (get_or m z 0)) (omega arith)
quants_each m (suc k) at (suc i) e l =
    quants_each m k (at + 1) i (both _ _ e).1 (omega arith) ∙ ap (λ (z : ℕ). halves_fault (get_or m z 0)) (omega arith)

-- ---- a tileset goes on with its tiles

pub then_assoc : (a b c : ℕ) → (a ⨟ (b ⨟ c)) ≡ ((a ⨟ b) ⨟ c)
unfolding ◌⨟◌
then_assoc zero b c = refl
then_assoc (suc a) b c = refl

pub set_goes_on :
    (comp : ℕ → List ℕ → List ℕ → ℕ) (w h et : ℕ) (m : List ℕ) (at : ℕ) →
    set_fault comp w h et m at
    ≡ (set_front et m at ⨟ tiles_fault (λ j code. comp et (set_at m at j) code) w h (quant_count m at) (data_of m at) (tile_count m at) 0)
unfolding set_fault set_front set_fields
set_goes_on comp w h et m at =
    let t = tiles_fault (λ j code. comp et (set_at m at j) code) w h (quant_count m at) (data_of m at) (tile_count m at) 0 in
    let s = set_fields et m at in
    let q = quants_fault m (5 * quant_count m at) (at + 22) in
    ap (λ (z : ℕ). least_head 0xCCC7 22 m at ⨟ (codec_fault m at ⨟ z)) (then_assoc s q t)
    ∙ (ap (λ (z : ℕ). least_head 0xCCC7 22 m at ⨟ z) (then_assoc (codec_fault m at) (s ⨟ q) t)
    ∙ then_assoc (least_head 0xCCC7 22 m at) (codec_fault m at ⨟ (s ⨟ q)) t)
