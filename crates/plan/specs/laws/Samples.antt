-- A tile that does not differ has the same samples in both pictures, and so the same lists: what a short frame may leave out.
use Rattle.std.specs.Prelude.{ℕ, ◌+◌, ◌*◌, ◌/◌, ◌%◌, ◌<◌, ◌≡◌, false, List, get_or}
use Rattle.std.proofs.Common.{sym, ◌∙◌}
use native.Mathlib.Omega.{arith}
use Rattle.whole.specs.Tab.{table}
use Rattle.whole.specs.laws.Tab.{length_tab, at_tab, is_tab}
use Rattle.tile_forth.specs.TileForth.{edge, pixel_place, bytes_at, sample_at, rounded_of}
use Rattle.plan.specs.Plan.{tile_column, tile_row, filled_at, changed_tile}
use Rattle.plan.specs.Facts.{Unchanged}
use Rattle.plan.specs.laws.Same.{unchanged_is}

module _ (w h k : ℕ) where
  -- where place i of the filled-up tile is taken from
  abbrev place_of : ℕ → ℕ
  place_of i = pixel_place w (edge w (64 * tile_column w k + i % 64)) (edge h (64 * tile_row w k + i / 64))

  byte_of : (p : List ℕ) (i c : ℕ) → c < 3 → filled_at p w h k (3 * i + c) ≡ get_or p (place_of i + c) 0
  unfolding filled_at
  byte_of p i c l =
      let a : (3 * i + c) / 3 % 64 ≡ i % 64 = omega arith in
      let b : (3 * i + c) / 192 ≡ i / 64 = omega arith in
      let d : (3 * i + c) % 3 ≡ c = omega arith in
      rw (a, b, d)

  module _ (old new : List ℕ) (s : Unchanged old new w h k) where
    same_byte : (i c : ℕ) → i < 4096 → c < 3 → get_or old (place_of i + c) 0 ≡ get_or new (place_of i + c) 0
    same_byte i c l t = sym (byte_of old i c t) ∙ s (3 * i + c) (omega arith) ∙ byte_of new i c t

    pub same_sample : (c i : ℕ) → i < 4096 → sample_at old w h (tile_column w k) (tile_row w k) c i ≡ sample_at new w h (tile_column w k) (tile_row w k) c i
    unfolding sample_at bytes_at
    same_sample c i l =
        let z : place_of i + 0 ≡ place_of i = omega arith in
        let a = rw z at (same_byte i 0 l (omega arith)) in
        rw (a, same_byte i 1 l (omega arith), same_byte i 2 l (omega arith))

    same_tab : (c : ℕ) → table 4096 (sample_at old w h (tile_column w k) (tile_row w k) c) ≡ table 4096 (sample_at new w h (tile_column w k) (tile_row w k) c)
    same_tab c =
        is_tab 4096 (sample_at new w h (tile_column w k) (tile_row w k) c) (table 4096 (sample_at old w h (tile_column w k) (tile_row w k) c))
        (length_tab 4096 _)
        (λ i l. at_tab 4096 (sample_at old w h (tile_column w k) (tile_row w k) c) i l ∙ same_sample c i l)

    same_rounded : (q : List ℕ) (c : ℕ) → rounded_of old w h q (tile_column w k) (tile_row w k) c ≡ rounded_of new w h q (tile_column w k) (tile_row w k) c
    unfolding rounded_of
    same_rounded q c = rw (same_tab c)

-- the list of each component, by which the frame writer codes a tile
pub same_list :
    (old new : List ℕ) (w h k : ℕ)
    → changed_tile old new w h k ≡ false
    → (q : List ℕ) (c : ℕ)
    → rounded_of old w h q (tile_column w k) (tile_row w k) c ≡ rounded_of new w h q (tile_column w k) (tile_row w k) c
same_list old new w h k e = same_rounded w h k old new (unchanged_is old new w h k e)
