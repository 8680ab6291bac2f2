-- Laws of the writing pass: what a tile that is not refused allows, and what stands when a tile and the frame have been put.
-- Assumes nothing.
use Rattle.std.specs.Prelude.{ℕ, ◌+◌, ◌-◌, ◌/◌, ◌%◌, ◌≤◌, ◌≡◌, List, length}
use Rattle.std.proofs.Math.Path.{ap₂}
use Rattle.std.proofs.Common.{◌∙◌}
use Rattle.whole.specs.laws.Row.{both}
use Rattle.wire.specs.Le.{patch}
use Rattle.quants.specs.Quants.{chroma_index}
use Rattle.quants.specs.declared.Quants.{Quants}
use Rattle.frame_layout.specs.Bytes.{tile_len, tile_of}
use Rattle.frame_pieces.specs.Parts.{head_of, filled, cols_of}
use Rattle.frame_pieces.specs.laws.Parts.{tile-put}
use Rattle.frame_write.specs.Sets.{part_over, stop_over, tile_over, tile_refusal_over}

-- each component of a tile that is not refused
pub record TileFine (p : List ℕ) (w h mode : ℕ) (q : Quants) (k : ℕ) : Type 0 where
  pub y : 0 ≡ stop_over p w h mode q k 0
  pub cb : 0 ≡ stop_over p w h mode q k 1
  pub cr : 0 ≡ stop_over p w h mode q k 2

module _ (p : List ℕ) (w h mode : ℕ) (q : Quants) where
  pub tile_fine : (k : ℕ) → 0 ≡ tile_refusal_over p w h mode q k → TileFine p w h mode q k
  unfolding tile_refusal_over
  tile_fine k e = let a = both _ _ e in let b = both _ _ a.1 in record { y = a.0; cb = b.0; cr = b.1 }

  -- o1 .. o4 are the output after the head and after each code; b, c, e the places behind each code
  pub tile_stands :
      (o o1 o2 o3 o4 o5 : List ℕ) (k cols at b c e ic : ℕ) → cols ≡ cols_of w → ic ≡ chroma_index q → at ≤ length o →
      o1 ≡ patch o at (head_of ic (k % cols) (k / cols) 0 0 0 0) →
      o2 ≡ patch o1 (at + 19) (part_over p w h mode q k 0) → b ≡ at + 19 + length (part_over p w h mode q k 0) →
      o3 ≡ patch o2 b (part_over p w h mode q k 1) → c ≡ b + length (part_over p w h mode q k 1) →
      o4 ≡ patch o3 c (part_over p w h mode q k 2) → e ≡ c + length (part_over p w h mode q k 2) →
      o5 ≡ filled o4 at (e - at) (b - (at + 19)) (c - b) (e - c) →
      (o5 ≡ patch o at (tile_of (tile_over p w h mode q k))) × (e ≡ at + tile_len (tile_over p w h mode q k))
  unfolding tile_over
  tile_stands o o1 o2 o3 o4 o5 k cols at b c e ic ec ei l p1 p2 eb p3 ecb p4 ee p5 =
      tile-put o o1 o2 o3 o4 o5 (part_over p w h mode q k 0) (part_over p w h mode q k 1) (part_over p w h mode q k 2) (chroma_index q) (k % cols_of w)
      (k / cols_of w)
      at b c e l (p1 ∙ ap₂ (λ (i n : ℕ). patch o at (head_of i (k % n) (k / n) 0 0 0 0)) ei ec) p2 eb p3 ecb p4 ee p5
