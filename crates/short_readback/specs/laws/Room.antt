-- A frame of listed tiles, none of them twice, fits where a full frame of any picture does.
-- Assumes nothing.
use Rattle.std.specs.Prelude.{ℕ, zero, suc, ◌+◌, ◌*◌, ◌≤◌, ◌≡◌, Bool, true, false, List, length, get_or}
use Rattle.std.proofs.Common.{arith, length-append}
use Rattle.whole.specs.Row.{◌⇒◌∣◌}
use Rattle.bits.specs.laws.Bytes.{Bytes}
use Rattle.bands.specs.Bands.{QuantGood}
use Rattle.quants.specs.Quants.{same, sets_of, chroma_index}
use Rattle.quants.specs.declared.Quants.{Quants}
use Rattle.frame_layout.specs.Bytes.{Tile, tile_len, tile_of, tiles_of}
use Rattle.frame_layout.specs.laws.Here.{tile_length}
use Rattle.frame_pieces.specs.Parts.{tiles_no}
use Rattle.frame_pieces.specs.laws.Parts.{frame_long, count_is, tens_of}
use Rattle.frame_write.specs.Sets.{tile_over}
use Rattle.frame_write.specs.Picked.{frame_picked}
use Rattle.frame_write.specs.laws.Encode.{tile_small}
use Rattle.bounds.specs.laws.Refuses.{tile_taken}

index_small : (q : Quants) → chroma_index q ≤ 1
unfolding chroma_index ◌⇒◌∣◌
index_small q = by (same q)
  where
    by : (t : Bool) → (t ⇒ 0 ∣ 1) ≤ 1
    by true = omega arith
    by false = omega arith

-- tiles of at most so many bytes each
tiles_fit : (tile : ℕ → Tile) → ((j : ℕ) → tile_len (tile j) ≤ 196624) → (n i : ℕ) → length (tiles_of tile n i) ≤ 196624 * n
unfolding tiles_of
tiles_fit tile most zero i = omega arith
tiles_fit tile most (suc n) i =
    omega (arith, length-append (tile_of (tile i)) (tiles_of tile n (i + 1)), tile_length (tile i), most i, tiles_fit tile most n (i + 1))

pub short_fits :
    (index w h mode : ℕ) (q : Quants) (p ks : List ℕ) → Bytes p → QuantGood q.luma.v → QuantGood q.chroma.v → length q.luma.v ≡ 10 →
    length q.chroma.v ≡ 10 → length ks ≤ tiles_no w h → length (frame_picked index w h mode q p ks) ≤ 77 + 196624 * tiles_no w h
unfolding frame_picked
short_fits index w h mode q p ks b g c l k few =
    let t : ℕ → Tile = λ i. tile_over p w h mode q (get_or ks i 0) in
    omega (
      arith,
      frame_long index w h mode (sets_of q) (length ks) (tens_of q l k) t,
      tiles_fit t (λ i. tile_small p w h mode q (get_or ks i 0) (tile_taken p w h mode q b g c (get_or ks i 0))) (length ks) 0,
      count_is q l k,
      index_small q,
    )
