-- A tile that differs: its filled-up bytes do exactly if some pixel of the tile inside the picture does, and exactly if some row of its bytes in the
-- picture does.
use Rattle.std.specs.Prelude.{ℕ, zero, suc, ◌+◌, ◌*◌, ◌-◌, ◌/◌, ◌%◌, ◌≤◌, ◌<◌, min, ◌≡◌, Bool, true, false, List, length, get_or, eqb}
use Rattle.std.proofs.Math.Path.{refl, ap, sym}
use Rattle.std.proofs.Common.{subst, ◌∙◌, mod-lt, div-lt_iff_lt-mul, mul_comm, mul-zero, mul-le-mul, eqb-true, eq-eqb, ne_eqb}
use Rattle.std.proofs.Math.Bool.{not}
use native.Mathlib.Omega.{arith}
use Rattle.std.proofs.Math.Nat.{div-add-mod'}
use Rattle.std.proofs.Math.Arith.{digits_lt}
use Rattle.std.proofs.lemmas.Bool.{not-false}
use Rattle.whole.specs.laws.Row.{passes, fails}
use Rattle.whole.specs.laws.Tab.{row_in}
use Rattle.frame_pieces.specs.Parts.{cols_of, tiles_no}
use Rattle.frame_pieces.specs.laws.Parts.{some_cols}
use Rattle.tile_forth.specs.TileForth.{edge, pixel_place}
use Rattle.plan.specs.Plan.{all_below, tile_column, tile_row, filled_at, changed_tile, Pictures}
use Rattle.plan.specs.Facts.{Unchanged, PixelOf, SameByte, SamePixel}
use Rattle.plan.specs.Runs.{same_byte, same_run, same_rows, RowsIn}
use Rattle.plan.specs.laws.All.{same_test, all_none, all_next, all_is, is_all}

-- ---- what `changed_tile` says

abbrev filled_same : List ℕ → List ℕ → ℕ → ℕ → ℕ → Bool
filled_same old new w h k = all_below (λ j. eqb (filled_at old w h k j) (filled_at new w h k j)) 12288

filled_is : (old new : List ℕ) (w h k : ℕ) → filled_same old new w h k ≡ true → Unchanged old new w h k
filled_is old new w h k e j l = eqb-true _ _ (all_is _ 12288 e j l)

is_filled : (old new : List ℕ) (w h k : ℕ) → Unchanged old new w h k → filled_same old new w h k ≡ true
is_filled old new w h k s = is_all _ 12288 (λ j l. eq-eqb _ _ (s j l))

pub unchanged_is : (old new : List ℕ) (w h k : ℕ) → changed_tile old new w h k ≡ false → Unchanged old new w h k
unfolding changed_tile
unchanged_is old new w h k e = filled_is old new w h k (not-false (filled_same old new w h k) e)

pub is_unchanged : (old new : List ℕ) (w h k : ℕ) → Unchanged old new w h k → changed_tile old new w h k ≡ false
unfolding changed_tile
is_unchanged old new w h k s = ap not (is_filled old new w h k s)

-- ---- where a tile stands

pub column_in : (w k : ℕ) → 1 ≤ w → 64 * tile_column w k < w
unfolding cols_of
column_in w k h = let m = mod-lt k (some_cols w h) in omega arith

pub row_is_in : (w h k : ℕ) → 1 ≤ w → k < tiles_no w h → 64 * tile_row w k < h
unfolding tiles_no cols_of
row_is_in w h k l t =
    let m = mul_comm (cols_of w) (cols_of h) in
    let r : k / cols_of w < cols_of h = (div-lt_iff_lt-mul (some_cols w l)).1 (omega arith) in
    omega arith

-- a pixel of the tile, so many columns and rows from its first: its place, from the tile's first pixel on
pub from_first : (w x y d r c : ℕ) → pixel_place w (x + d) (y + r) + c ≡ (pixel_place w x y + r * (3 * w)) + (3 * d + c)
from_first w x y d r c = omega arith

module _ (w h k : ℕ) (wide : 1 ≤ w) (there : k < tiles_no w h) where
  -- byte 192 r + 3 d + c of the filled-up tile is byte c of pixel (d, r), where that lies in the picture
  filled-at :
      (p : List ℕ) (d r c : ℕ)
      → d < 64
      → c < 3
      → 64 * tile_column w k + d < w
      → 64 * tile_row w k + r < h
      → filled_at p w h k (192 * r + 3 * d + c) ≡ get_or p (pixel_place w (64 * tile_column w k + d) (64 * tile_row w k + r) + c) 0
  unfolding filled_at
  filled-at p d r c l t a b =
      let j : (192 * r + 3 * d + c) / 3 % 64 ≡ d = omega arith in
      let i : (192 * r + 3 * d + c) / 192 ≡ r = omega arith in
      let e : (192 * r + 3 * d + c) % 3 ≡ c = omega arith in
      let u : edge w (64 * tile_column w k + d) ≡ 64 * tile_column w k + d = omega arith in
      let v : edge h (64 * tile_row w k + r) ≡ 64 * tile_row w k + r = omega arith in
      rw (j, i, e, u, v)

  pixels-same :
      (old new : List ℕ) → Unchanged old new w h k → (x y : ℕ) → PixelOf w h k x y → SamePixel old new w x y
  pixels-same old new s x y i c t =
      let d = x - 64 * tile_column w k in
      let r = y - 64 * tile_row w k in
      let ex : 64 * tile_column w k + d ≡ x = omega arith in
      let ey : 64 * tile_row w k + r ≡ y = omega arith in
      let l : d < 64 = omega arith in
      let m : r < 64 = omega arith in
      let a : 64 * tile_column w k + d < w = omega (arith, i.inside_x) in
      let b : 64 * tile_row w k + r < h = omega (arith, i.inside_y) in
      let q = sym (filled-at old d r c l t a b) ∙ s (192 * r + 3 * d + c) (omega arith) ∙ filled-at new d r c l t a b in
      rw (ex, ey) at q

  same_pixels :
      (old new : List ℕ) → ((x y : ℕ) → PixelOf w h k x y → SamePixel old new w x y) → Unchanged old new w h k
  unfolding filled_at
  same_pixels old new s j l =
      let a = column_in w k wide in
      let b = row_is_in w h k wide there in
      s (edge w (64 * tile_column w k + j / 3 % 64)) (edge h (64 * tile_row w k + j / 192))
      (record { inside_x = omega arith; inside_y = omega arith; column = omega arith; row = omega arith }) (j % 3) (omega arith)

  -- filled-up bytes differ exactly if some pixel of the tile inside the picture does: the repeated column and row lie in the same tile
  pub filled-same :
      (old new : List ℕ)
      → (Unchanged old new w h k → (x y : ℕ) → PixelOf w h k x y → SamePixel old new w x y)
      × (((x y : ℕ) → PixelOf w h k x y → SamePixel old new w x y) → Unchanged old new w h k)
  filled-same old new = (pixels-same old new, same_pixels old new)

-- ---- the rows of a tile that lie in the picture

run_is : (a b : List ℕ) (at n : ℕ) → same_run a b at n ≡ true → (i : ℕ) → i < n → SameByte a b (at + i)
unfolding same_run
run_is a b at n e i l = eqb-true _ _ (all_is (same_byte a b at) n e i l)

is_run : (a b : List ℕ) (at n : ℕ) → ((i : ℕ) → i < n → SameByte a b (at + i)) → same_run a b at n ≡ true
unfolding same_run
is_run a b at n s = is_all (same_byte a b at) n (λ i l. eq-eqb _ _ (s i l))

some_factor : (m n j : ℕ) → j < m * n → 0 < n
some_factor m zero j l = let z = mul-zero m in absurd (omega arith)
some_factor m (suc n) j l = omega arith

last_row : (rows n : ℕ) → 1 ≤ rows → (rows - 1) * n + n ≡ rows * n
last_row zero n h = absurd (omega arith)
last_row (suc r) n h = let e : suc r - 1 ≡ r = omega arith in rw e (omega arith)

module _ (old new : List ℕ) (w h k : ℕ) (p : Pictures w h old new) (there : k < tiles_no w h) where
  abbrev x : ℕ
  x = 64 * tile_column w k

  abbrev y : ℕ
  y = 64 * tile_row w k

  abbrev wide_in : ℕ
  wide_in = 3 * min (w - x) 64

  abbrev high_in : ℕ
  high_in = min (h - y) 64

  -- they do lie in it
  pub rows_in : (q : List ℕ) → length q ≡ 3 * (w * h) → RowsIn q (pixel_place w x y) (3 * w) wide_in high_in
  rows_in q e =
      let a = column_in w k p.size.wide in
      let b = row_is_in w h k p.size.wide there in
      record { some = omega arith; row = λ r l. let m = row_in (y + r) h w (omega arith) in omega (arith, e, mul_comm w h, m) }

  rows_filled : same_rows old new (pixel_place w x y) (3 * w) wide_in high_in ≡ true → Unchanged old new w h k
  unfolding same_rows
  rows_filled e = (filled-same w h k p.size.wide there old new).1 pixel
    where
      pixel : (u v : ℕ) → PixelOf w h k u v → SamePixel old new w u v
      pixel u v i c z =
          let d = u - x in
          let r = v - y in
          let eu : x + d ≡ u = omega arith in
          let ev : y + r ≡ v = omega arith in
          let t = all_is _ high_in e r (omega (arith, i.inside_y)) in
          let s = run_is old new (pixel_place w x y + r * (3 * w)) wide_in t (3 * d + c) (omega (arith, i.inside_x)) in
          let q = rw (sym (from_first w x y d r c)) at s in
          rw (eu, ev) at q

  filled_rows : Unchanged old new w h k → same_rows old new (pixel_place w x y) (3 * w) wide_in high_in ≡ true
  unfolding same_rows
  filled_rows s = is_all _ high_in (λ r l. is_run old new (pixel_place w x y + r * (3 * w)) wide_in (byte r l))
    where
      byte : (r : ℕ) → r < high_in → (i : ℕ) → i < wide_in → SameByte old new (pixel_place w x y + r * (3 * w) + i)
      byte r l i m =
          let d = i / 3 in
          let c = i % 3 in
          let e : 3 * d + c ≡ i = omega arith in
          let q = (filled-same w h k p.size.wide there old new).0 s (x + d) (y + r)
          (record { inside_x = omega arith; inside_y = omega arith; column = omega arith; row = omega arith }) c (omega arith) in
          let z = rw (from_first w x y d r c) at q in
          rw e at z

  -- comparing them is comparing the filled-up tile
  pub rows_changed : not (same_rows old new (pixel_place w x y) (3 * w) wide_in high_in) ≡ changed_tile old new w h k
  unfolding changed_tile
  rows_changed =
      ap not (same_test _ _ (λ e. is_filled old new w h k (rows_filled e)) (λ e. filled_rows (filled_is old new w h k e)))

-- ---- rows with nothing between them are one run

module _ (a b : List ℕ) (at n rows : ℕ) where
  split_run : same_run a b at (rows * n) ≡ true → same_rows a b at n n rows ≡ true
  unfolding same_rows
  split_run e =
      is_all _ rows
      (λ r l. is_run a b (at + r * n) n
      (λ i m. let q : at + (r * n + i) ≡ at + r * n + i = omega arith in rw q at (run_is a b at (rows * n) e (r * n + i) (digits_lt l m))))

  join_runs : same_rows a b at n n rows ≡ true → same_run a b at (rows * n) ≡ true
  unfolding same_rows
  join_runs e = is_run a b at (rows * n) byte
    where
      byte : (j : ℕ) → j < rows * n → SameByte a b (at + j)
      byte j l =
          let p : 0 < n = some_factor rows n j l in
          let d = div-add-mod' j n in
          let q : at + j / n * n + j % n ≡ at + j = omega arith in
          rw q at (run_is a b (at + j / n * n) n (all_is _ rows e (j / n) ((div-lt_iff_lt-mul p).1 l)) (j % n) (mod-lt j p))

  pub joined : (step : ℕ) → n ≡ step → same_run a b at (rows * n) ≡ same_rows a b at step n rows
  joined step e = same_test _ _ split_run join_runs ∙ ap (λ (s : ℕ). same_rows a b at s n rows) e

-- which lies within a list where they do
pub joined_in : (a : List ℕ) (at step n rows : ℕ) → n ≡ step → RowsIn a at step n rows → at + rows * n ≤ length a
joined_in a at step n rows e i =
    let q : (rows - 1) * n + n ≡ rows * n = last_row rows n i.some in
    let l = subst (λ (s : ℕ). at + (rows - 1) * s + n ≤ length a) (sym e) (i.row (rows - 1) (omega (arith, i.some))) in
    omega arith

-- ---- the walk along a run

module _ (a b : List ℕ) (at : ℕ) where
  pub run_none : true ≡ same_run a b at 0
  unfolding same_run
  run_none = all_none (same_byte a b at)

  pub run_next : (i : ℕ) (s : Bool) → s ≡ same_run a b at i → SameByte a b (at + i) → s ≡ same_run a b at (i + 1)
  unfolding same_run
  run_next i s e q = passes _ _ _ _ (eq-eqb _ _ q) e ∙ sym (all_next (same_byte a b at) i)

  pub run_broken : (i : ℕ) → (SameByte a b (at + i) → ⊥) → false ≡ same_run a b at (i + 1)
  unfolding same_run
  run_broken i q = fails _ _ _ _ (ne_eqb _ _ q) refl ∙ sym (all_next (same_byte a b at) i)

-- ---- the same, by the columns and the sides that calls gave

-- the first pixel of tile k lies in the picture, and its place is a small number
pub record Corner (w h k n : ℕ) : Type 0 where
  pub some : 1 ≤ n
  pub x_in : 64 * (k % n) < w
  pub y_in : 64 * (k / n) < h
  pub small : 64 * (k / n) * w + 64 * (k % n) ≤ 8388608

module _ (old new : List ℕ) (w h k : ℕ) (p : Pictures w h old new) (there : k < tiles_no w h) (n : ℕ) (e : n ≡ cols_of w) where
  pub corner : Corner w h k n
  corner =
      let a = column_in w k p.size.wide in
      let b = row_is_in w h k p.size.wide there in
      let m = row_in (64 * tile_row w k) h w b in
      let s = mul-le-mul {n₂ = 2048} {m₂ = 4096} p.size.higher p.size.wider in
      rw e (record { some = some_cols w p.size.wide; x_in = a; y_in = b; small = omega arith })

  module _ (wi hi : ℕ) (f : wi ≡ min (w - 64 * (k % n)) 64) (g : hi ≡ min (h - 64 * (k / n)) 64) where
    pub rows_there : (q : List ℕ) → length q ≡ 3 * (w * h) → RowsIn q (3 * (64 * (k / n) * w + 64 * (k % n))) (3 * w) (3 * wi) hi
    rows_there q l = rw (f, g, e) (rows_in old new w h k p there q l)

    pub tile_changed :
        (r : Bool) → r ≡ same_rows old new (3 * (64 * (k / n) * w + 64 * (k % n))) (3 * w) (3 * wi) hi → not r ≡ changed_tile old new w h k
    tile_changed r s = ap not s ∙ rw (f, g, e) (rows_changed old new w h k p there)
