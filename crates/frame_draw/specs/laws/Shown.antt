-- The picture after the listed tiles, by coordinates.
use Rattle.std.specs.Prelude.{ℕ, ◌+◌, ◌*◌, ◌/◌, ◌%◌, ◌≤◌, ◌<◌, ◌≡◌, Bool, true, false, length, eqb}
use Rattle.std.proofs.Math.Path.{refl, ap, subst⁻¹}
use Rattle.std.proofs.Common.{◌∙◌}
use mathlib.Core.List.{List, [], ◌∷◌}
use Rattle.std.proofs.Math.ListN.{get_or}
use Rattle.whole.specs.Row.{◌!◌⨾◌, ◌⇒◌∣◌}
use Rattle.frame_layout.specs.Bytes.{Tile}
use Rattle.frame_draw.specs.Draw.{in_region, tile_drawn, shown}
use Rattle.frame_draw.specs.laws.Pixels.{pixel, tile_past, tile_length}
use Rattle.frame_draw.specs.Shown.{tiles_drawn, in_tile, Found, found, none, or_else, last_tile, word_in}

-- one tile's word, then those of the tiles after it
word_step : (words : Tile → ℕ → ℕ) (px py : ℕ) (t : Tile) (f : Found) (b : Bool) (old : ℕ) →
    word_in words px py f (b ⇒ words t (64 * (py % 64) + px % 64) ∣ old) ≡ word_in words px py (or_else f (b ⇒ found t ∣ none)) old
unfolding word_in or_else ◌⇒◌∣◌
word_step words px py t (found u) b old = refl
word_step words px py t none true old = refl
word_step words px py t none false old = refl

-- the region's test before the tile's, or behind it
swap : (a b c : Bool) (new old : ℕ) → ((a ! false ⨾ b ! false ⨾ c) ⇒ new ∣ old) ≡ (c ⇒ ((a ! false ⨾ b) ⇒ new ∣ old) ∣ old)
unfolding ◌!◌⨾◌ ◌⇒◌∣◌
swap true true true new old = refl
swap true true false new old = refl
swap true false true new old = refl
swap true false false new old = refl
swap false true true new old = refl
swap false true false new old = refl
swap false false true new old = refl
swap false false false new old = refl

-- outside the region nothing is new
same_outside : (c : Bool) (f : ℕ → ℕ) (new old : ℕ) → (c ⇒ f (c ⇒ new ∣ old) ∣ (c ⇒ new ∣ old)) ≡ (c ⇒ f new ∣ old)
unfolding ◌⇒◌∣◌
same_outside true f new old = refl
same_outside false f new old = refl

either : (b : Bool) (v : ℕ) → v ≡ (b ⇒ v ∣ v)
unfolding ◌⇒◌∣◌
either true v = refl
either false v = refl

module _ (rects : List ℕ) (n : ℕ) (words : Tile → ℕ → ℕ) (w h : ℕ) where
  -- one tile's part in a pixel
  one_tile :
      (t : Tile) (pic : List ℕ) (px py : ℕ) → px < w → py < h → h * w ≤ length pic →
      get_or (tile_drawn rects n (words t) w h t.x t.y pic) (py * w + px) 0
      ≡ (in_region rects n px py ⇒ (in_tile t px py ⇒ words t (64 * (py % 64) + px % 64) ∣ get_or pic (py * w + px) 0) ∣ get_or pic (py * w + px) 0)
  unfolding shown in_tile
  one_tile t pic px py in-w in_h room =
      pixel rects n (words t) w h t.x t.y px py in-w pic in_h room
      ∙ swap (eqb (px / 64) t.x) (eqb (py / 64) t.y) (in_region rects n px py) (words t (64 * (py % 64) + px % 64)) (get_or pic (py * w + px) 0)

  -- "the last such tile in message order decides"
  pub tiles_pixel :
      (ts : List Tile) (pic : List ℕ) (px py : ℕ) → px < w → py < h → h * w ≤ length pic →
      get_or (tiles_drawn rects n words w h ts pic) (py * w + px) 0
      ≡ (in_region rects n px py ⇒ word_in words px py (last_tile ts px py) (get_or pic (py * w + px) 0) ∣ get_or pic (py * w + px) 0)
  unfolding tiles_drawn last_tile word_in
  tiles_pixel [] pic px py in-w in_h room = either (in_region rects n px py) (get_or pic (py * w + px) 0)
  tiles_pixel (t ∷ ts) pic px py in-w in_h room =
      let old = get_or pic (py * w + px) 0 in
      let on = in_region rects n px py in
      let one = tile_drawn rects n (words t) w h t.x t.y pic in
      let new : get_or one (py * w + px) 0 ≡ (on ⇒ (in_tile t px py ⇒ words t (64 * (py % 64) + px % 64) ∣ old) ∣ old) = one_tile t pic px py in-w in_h room in
      tiles_pixel ts one px py in-w in_h (subst⁻¹ (λ (k : ℕ). h * w ≤ k) (tile_length rects n (words t) w h t.x t.y pic) room)
      ∙ (ap (λ (v : ℕ). on ⇒ word_in words px py (last_tile ts px py) v ∣ v) new
      ∙ (same_outside on (word_in words px py (last_tile ts px py)) _ old
      ∙ ap (λ (v : ℕ). on ⇒ v ∣ old) (word_step words px py t (last_tile ts px py) (in_tile t px py) old)))

  -- "words past width x height are never changed"
  pub tiles_past : (ts : List Tile) (pic : List ℕ) (i : ℕ) → h * w ≤ i → get_or (tiles_drawn rects n words w h ts pic) i 0 ≡ get_or pic i 0
  unfolding tiles_drawn
  tiles_past [] pic i l = refl
  tiles_past (t ∷ ts) pic i l = tiles_past ts _ i l ∙ tile_past rects n (words t) w h t.x t.y pic i l

  pub tiles_length : (ts : List Tile) (pic : List ℕ) → length (tiles_drawn rects n words w h ts pic) ≡ length pic
  unfolding tiles_drawn
  tiles_length [] pic = refl
  tiles_length (t ∷ ts) pic = tiles_length ts _ ∙ tile_length rects n (words t) w h t.x t.y pic
