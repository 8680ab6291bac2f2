-- Laws of a tile on the writer's way.
-- Assumes nothing.
use Rattle.std.specs.Prelude.{ℕ, ◌+◌, ◌*◌, ◌/◌, ◌%◌, ◌≤◌, ◌<◌, ◌≡◌, Bool, true, false, List, eqb, ℤ, pos, length, set}
use Rattle.std.proofs.Common.{zero-le, sym, ap, subst, ◌∙◌, arith, length-set, below_more}
use Rattle.std.proofs.Math.Decide.{dec_lt}
use Rattle.std.proofs.Math.ListN.{get_or-eq_default}
use Rattle.whole.specs.Row.{◌⇒◌∣◌}
use Rattle.whole.specs.laws.Near.{Near}
use Rattle.whole.specs.Tab.{at, table}
use Rattle.whole.specs.laws.Tab.{AllNear, row_in, is_tab}
use Rattle.whole.specs.laws.Put.{put_new}
use Rattle.colour.specs.Colour.{luma_of, cb_of, cr_of}
use Rattle.colour.specs.laws.Near.{luma_near, cb_near, cr_near}
use Rattle.wave_forth.specs.Forth.{tile_forth}
use Rattle.bands.specs.laws.Rounding.{rounded_length}
use Rattle.tile_forth.specs.TileForth.{component_of, edge, pixel_place, bytes_at, sample_at, rounded_of}

-- ---- one pixel

pub component_near : (c r g b : ℕ) → r < 256 → g < 256 → b < 256 → Near 16384 (component_of c r g b)
unfolding component_of ◌⇒◌∣◌
component_near c r g b hr hg hb = go (eqb c 0) (eqb c 1)
  where
    go : (s t : Bool) → Near 16384 (s ⇒ luma_of r g b ∣ t ⇒ cb_of r g b ∣ cr_of r g b)
    go true t = luma_near r g b hr hg hb
    go false true = cb_near r g b hr hg hb
    go false false = cr_near r g b hr hg hb

-- the column or row taken is one of the picture's
pub edge_in : (n k : ℕ) → 1 ≤ n → edge n k < n
edge_in n k h = omega arith

-- a pixel's three bytes lie within the picture's
pub pixel_in : (w h x y : ℕ) → x < w → y < h → pixel_place w x y + 3 ≤ 3 * (w * h)
pixel_in w h x y p q = omega (arith, row_in y h w q)

-- the pixel of column x in row j of a tile, by the place where the row starts
pub row_sample : (pixels : List ℕ) (w h tx ty c j x p : ℕ) → x < 64 → p ≡ 3 * (edge h (64 * ty + j) * w) + 3 * edge w (64 * tx + x) →
    bytes_at pixels c p ≡ sample_at pixels w h tx ty c (64 * j + x)
unfolding sample_at
row_sample pixels w h tx ty c j x p l e =
    let a : (64 * j + x) % 64 ≡ x = omega arith in
    let b : (64 * j + x) / 64 ≡ j = omega arith in
    let f : p ≡ pixel_place w (edge w (64 * tx + x)) (edge h (64 * ty + j)) = omega arith in
    rw (a, b) (ap (bytes_at pixels c) f)

-- ---- filling the list

-- the first i places hold f, and nothing of the list is far off
pub record Loaded (f : ℕ → ℤ) (i : ℕ) (xs : List ℤ) : Type 0 where
  pub len : length xs ≡ 4096
  pub done : (k : ℕ) → k < i → at xs k ≡ f k
  pub near : (k : ℕ) → k < i → Near 16384 (f k)

pub loaded_none : (f : ℕ → ℤ) (xs : List ℤ) → length xs ≡ 4096 → Loaded f 0 xs
loaded_none f xs l = record { len = l; done = λ k h. absurd (omega arith); near = λ k h. absurd (omega arith) }

pub loaded_more : (f : ℕ → ℤ) (i : ℕ) (xs : List ℤ) (v : ℤ) → i < 4096 → v ≡ f i → Near 16384 v → Loaded f i xs → Loaded f (i + 1) (set xs i v)
loaded_more f i xs v h e n d = record {
  len = length-set xs i v ∙ d.len;
  done = put_new (λ k. k) f xs i v (omega (arith, d.len)) (λ k l. omega arith) e d.done;
  near = below_more (λ k. Near 16384 (f k)) i d.near (subst (Near 16384) e n);
}

pub loaded_list : (f : ℕ → ℤ) (xs : List ℤ) → Loaded f 4096 xs → xs ≡ table 4096 f
loaded_list f xs d = is_tab 4096 f xs d.len d.done

pub loaded_near : (f : ℕ → ℤ) (xs : List ℤ) → Loaded f 4096 xs → AllNear 16384 xs
loaded_near f xs d = record { all = λ k. place k (dec_lt k 4096) }
  where
    place : (k : ℕ) → Dec (k < 4096) → Near 16384 (at xs k)
    place k (yes h) = subst (Near 16384) (sym (d.done k h)) (d.near k h)
    place k (no h) = subst (Near 16384) (sym (get_or-eq_default xs (pos 0) {n = k} (omega (arith, d.len)))) (record { near = zero-le })

-- ---- the list

pub rounded_of_length : (pixels : List ℕ) (w h : ℕ) (q : List ℕ) (tx ty c : ℕ) → length (rounded_of pixels w h q tx ty c) ≡ 4096
unfolding rounded_of
rounded_of_length pixels w h q tx ty c = rounded_length q (tile_forth (table 4096 (sample_at pixels w h tx ty c)))
