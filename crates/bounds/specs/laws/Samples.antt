-- The samples of a pixel are within 4,096, and so are all of a tile.
-- Assumes nothing.
use Rattle.std.specs.Prelude.{Bool, List, ℕ, ◌<◌, eqb, ◌+ℤ◌, ◌-ℤ◌, ◌*ℤ◌}
use Rattle.std.proofs.Math.Bool.{true, false}
use Rattle.std.proofs.Common.{arith}
use Rattle.std.proofs.Math.IntN.{pos, neg_ℤ}
use Rattle.whole.specs.Row.{◌⇒◌∣◌}
use Rattle.whole.specs.laws.Near.{Near}
use Rattle.whole.specs.Tab.{table}
use Rattle.whole.specs.laws.Tab.{AllNear, tab_near}
use Rattle.bits.specs.laws.Bytes.{Bytes}
use Rattle.colour.specs.Colour.{luma_z, cb_z, cr_z, luma_of, cb_of, cr_of, cut11}
use Rattle.tile_forth.specs.TileForth.{component_of, bytes_at, sample_at}
use Rattle.bounds.specs.laws.Gap.{whole, negated, atom, plus, minus, times, floored, bounded}

module _ (r g b : ℕ) (hr : r < 256) (hg : g < 256) (hb : b < 256) where
  luma_size : Near 4096 (luma_of r g b)
  unfolding luma_z
  luma_size =
      let s = pos 19595 *ℤ pos r +ℤ pos 38470 *ℤ pos g +ℤ pos 7471 *ℤ pos b in
      let f = floored 2048 (plus (plus (times 19595 (whole r)) (times 38470 (whole g))) (times 7471 (whole b))) (omega arith) in
      bounded (minus (atom (cut11 s)) (whole 4096)) (omega (arith, f.0, f.1)) (omega (arith, f.0, f.1))

  cb_size : Near 4096 (cb_of r g b)
  unfolding cb_z
  cb_size =
      let s = neg_ℤ (pos 11071) *ℤ pos r -ℤ pos 21736 *ℤ pos g +ℤ pos 32807 *ℤ pos b in
      let f = floored {x = s} 2048 (plus (minus (negated (times 11071 (whole r))) (times 21736 (whole g))) (times 32807 (whole b))) (omega arith) in
      bounded (atom (cut11 s)) (omega (arith, f.0, f.1)) (omega (arith, f.0, f.1))

  cr_size : Near 4096 (cr_of r g b)
  unfolding cr_z
  cr_size =
      let s = pos 32756 *ℤ pos r -ℤ pos 27429 *ℤ pos g -ℤ pos 5327 *ℤ pos b in
      let f = floored 2048 (minus (minus (times 32756 (whole r)) (times 27429 (whole g))) (times 5327 (whole b))) (omega arith) in
      bounded (atom (cut11 s)) (omega (arith, f.0, f.1)) (omega (arith, f.0, f.1))

  component_size : (c : ℕ) → Near 4096 (component_of c r g b)
  unfolding component_of ◌⇒◌∣◌
  component_size c = go (eqb c 0) (eqb c 1)
    where
      go : (s t : Bool) → Near 4096 (s ⇒ luma_of r g b ∣ t ⇒ cb_of r g b ∣ cr_of r g b)
      go true t = luma_size
      go false true = cb_size
      go false false = cr_size

-- the samples of a tile of a picture whose places are bytes
pub samples_near : (pixels : List ℕ) (w h tx ty c : ℕ) → Bytes pixels → AllNear 4096 (table 4096 (sample_at pixels w h tx ty c))
unfolding sample_at bytes_at
samples_near pixels w h tx ty c p = tab_near 4096 (sample_at pixels w h tx ty c) (λ k. component_size _ _ _ (p _) (p _) (p _) c)
