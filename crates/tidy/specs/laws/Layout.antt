-- The first fault of a frame by any judge of components: its front's, its tiles', its end's; and what a message has whose layout is in order.
use Rattle.std.specs.Prelude.{ℕ, zero, suc, ◌+◌, ◌≤◌, ◌≡◌, refl, length}
use Rattle.std.proofs.Math.Path.{ap, sym}
use Rattle.std.proofs.Common.{◌∙◌, arith}
use mathlib.Core.List.{List}
use Rattle.whole.specs.Row.{◌⨟◌}
use Rattle.whole.specs.laws.Row.{both, stops, goes_on}
use Rattle.frame_layout.specs.Reader.{begin_fault, region_fault, end_fault, frame_fault, codes_fault, tile_fault, tiles_fault, size_at, set_place, end_place}
use Rattle.frame_layout.specs.Reader.{quant_count}
use Rattle.frame_layout.specs.Reader.{set_at, tile_count, data_of}
use Rattle.frame_blocks.specs.Blocks.{set_front}
use Rattle.frame_blocks.specs.Tiles.{tile_front}
use Rattle.frame_blocks.specs.laws.Blocks.{set_goes_on}
use Rattle.frame_blocks.specs.laws.Tiles.{tile_goes_on, tile_sound}
use Rattle.frame.specs.Frame.{front_fault}
use Rattle.frame.specs.laws.Frame.{FrontGood, front_good}
use Rattle.session.specs.declared.Session.{Session}
use Rattle.tidy.specs.Tidy.{layout_for}
use Rattle.tidy.specs.Put.{AllWhole, Laid}

regroup : (b r s t e : ℕ) → (b ⨟ (r ⨟ ((s ⨟ t) ⨟ e))) ≡ ((b ⨟ (r ⨟ s)) ⨟ (t ⨟ e))
unfolding ◌⨟◌
regroup zero zero zero t e = refl
regroup zero zero (suc s) t e = refl
regroup zero (suc r) s t e = refl
regroup (suc b) r s t e = refl

-- the tiles of the message's tileset, by a judge of components
unfoldable pub tiles_by : (ℕ → List ℕ → List ℕ → ℕ) → ℕ → ℕ → ℕ → List ℕ → ℕ
tiles_by comp w h et m =
    tiles_fault (λ (j : ℕ) (code : List ℕ). comp et (set_at m (set_place m) j) code) w h (quant_count m (set_place m)) (data_of m (set_place m))
    (tile_count m (set_place m)) 0

pub parts_by : (comp : ℕ → List ℕ → List ℕ → ℕ) (w h et : ℕ) (m : List ℕ) →
    frame_fault comp w h et m ≡ (front_fault et m ⨟ (tiles_by comp w h et m ⨟ end_fault m (end_place m)))
unfolding frame_fault front_fault tiles_by
parts_by comp w h et m =
    ap (λ (z : ℕ). begin_fault m 0 ⨟ (region_fault m 14 ⨟ (z ⨟ end_fault m (end_place m)))) (set_goes_on comp w h et m (set_place m))
    ∙ regroup (begin_fault m 0) (region_fault m 14) (set_front et m (set_place m)) (tiles_by comp w h et m) (end_fault m (end_place m))

-- what a message without a fault has
pub record Parts (comp : ℕ → List ℕ → List ℕ → ℕ) (w h et : ℕ) (m : List ℕ) : Type 0 where
  pub front : 0 ≡ front_fault et m
  pub good : FrontGood m
  pub tiles : 0 ≡ tiles_by comp w h et m
  pub last : 0 ≡ end_fault m (end_place m)

pub parts_good : (comp : ℕ → List ℕ → List ℕ → ℕ) (w h et : ℕ) (m : List ℕ) → 0 ≡ frame_fault comp w h et m → Parts comp w h et m
parts_good comp w h et m e =
    let a = both (front_fault et m) (tiles_by comp w h et m ⨟ end_fault m (end_place m)) (e ∙ parts_by comp w h et m) in
    let b = both (tiles_by comp w h et m) (end_fault m (end_place m)) a.1 in
    record { front = a.0; good = front_good et m a.0; tiles = b.0; last = b.1 }

-- a walk without a fault goes over whole tiles
pub all_whole : (judge : ℕ → List ℕ → ℕ) (w h q : ℕ) (d : List ℕ) (n at : ℕ) → at ≤ length d → 0 ≡ tiles_fault judge w h q d n at → AllWhole n d at
unfolding tiles_fault AllWhole
all_whole judge w h q d zero at l e = tt
all_whole judge w h q d (suc n) at l e =
    let p = both (tile_fault judge w h q d at) (tiles_fault judge w h q d n (at + size_at d at)) e in
    let s = tile_sound judge w h q d at l p.0 in
    (s.good.whole, all_whole judge w h q d n (at + size_at d at) s.good.whole.there p.1)

pub laid : (comp : ℕ → List ℕ → List ℕ → ℕ) (w h et : ℕ) (m : List ℕ) → Parts comp w h et m → Laid m
unfolding tiles_by
laid comp w h et m p = record { front = p.good; tiles = all_whole _ w h _ (data_of m (set_place m)) (tile_count m (set_place m)) 0 (omega arith) p.tiles }

-- ---- every code taken for good

abbrev pub any_code : ℕ → List ℕ → ℕ
any_code j code = 0

none_after : (a : ℕ) → a ≡ (a ⨟ (0 ⨟ (0 ⨟ 0)))
unfolding ◌⨟◌
none_after zero = refl
none_after (suc a) = refl

-- a tile's front is all of it
pub front_alone : (w h q : ℕ) (d : List ℕ) (at : ℕ) → tile_front w h q d at ≡ tile_fault any_code w h q d at
unfolding codes_fault
front_alone w h q d at = none_after (tile_front w h q d at) ∙ sym (tile_goes_on any_code w h q d at)

-- the layout by its calls
module _ (s : Session) (m : List ℕ) (f : ℕ) (ef : f ≡ front_fault s.mode m) where
  pub layout_front : (f ≡ 0 → ⊥) → f ≡ layout_for s m
  unfolding layout_for
  layout_front k = stops _ _ _ (λ z. k (ef ∙ z)) ef ∙ sym (parts_by (λ (et : ℕ) (five code : List ℕ). 0) s.width s.height s.mode m)

  module _ (z : f ≡ 0) (size : ℕ) (es : size ≡ size_at m 14) (g : ℕ)
      (eg : g ≡ tiles_fault any_code s.width s.height (quant_count m (14 + size)) (data_of m (14 + size)) (tile_count m (14 + size)) 0) where
    place_is : 14 + size ≡ set_place m
    unfolding set_place
    place_is = ap (λ (k : ℕ). 14 + k) es

    tiles_are : g ≡ tiles_by (λ (et : ℕ) (five code : List ℕ). 0) s.width s.height s.mode m
    unfolding tiles_by
    tiles_are = eg ∙ ap (λ (k : ℕ). tiles_fault any_code s.width s.height (quant_count m k) (data_of m k) (tile_count m k) 0) place_is

    pub layout_tiles : (g ≡ 0 → ⊥) → g ≡ layout_for s m
    unfolding layout_for
    layout_tiles k =
        goes_on _ _ _ (sym ef ∙ z) (stops _ _ _ (λ x. k (tiles_are ∙ x)) tiles_are)
        ∙ sym (parts_by (λ (et : ℕ) (five code : List ℕ). 0) s.width s.height s.mode m)

    pub layout_end : g ≡ 0 → (last r : ℕ) → last ≡ size_at m (14 + size) → r ≡ end_fault m (14 + size + last) → r ≡ layout_for s m
    unfolding layout_for end_place
    layout_end k last r el er =
        let p : 14 + size + last ≡ set_place m + size_at m (set_place m) = ap (λ (x : ℕ). 14 + size + x) el ∙ ap (λ (x : ℕ). x + size_at m x) place_is in
        goes_on _ _ _ (sym ef ∙ z) (goes_on _ _ _ (sym tiles_are ∙ k) (er ∙ ap (end_fault m) p))
        ∙ sym (parts_by (λ (et : ℕ) (five code : List ℕ). 0) s.width s.height s.mode m)
