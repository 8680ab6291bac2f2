-- What a passed tile gives, its parts, and a walk over tiles one step on; all for any judge of codes.
use Rattle.std.specs.Prelude.{ℕ, zero, suc, ◌+◌, ◌*◌, ◌-◌, ◌≤◌, ◌<◌, ◌≡◌, refl, true, false, List, length, get_or, take, drop, ltb, eqb}
use Rattle.std.proofs.Common.{sym, ◌∙◌, subst, eqb-true, ltb-true, lt-ltb, le-ltb}
use native.Mathlib.Omega.{arith}
use Rattle.wire.specs.Le.{le16}
use Rattle.whole.specs.Row.{◌!◌⨾◌, ◌⇒◌∣◌, ◌⨟◌}
use Rattle.whole.specs.laws.Row.{held, both, stops, goes_on}
use Rattle.session.specs.Header.{tiles_over}
use Rattle.session.specs.laws.Header.{starts_in, starts_out}
use Rattle.frame_layout.specs.Reader.{least_head, body_judge, size_at, tile_at, codes_fault, tile_fault, tiles_fault}
use Rattle.frame_blocks.specs.laws.Blocks.{least_good, then_assoc}
use Rattle.frame_blocks.specs.Tiles.{tile_fields, tile_front, code_part, index_of, part_start, TileWhole, TileGood, TileSound}

not_0 : (k : ℕ) → 0 ≡ suc k → ⊥
not_0 k e = omega arith

-- a place held against the tiles over a width, or over a height
pub place_in : (n k x : ℕ) → k ≡ tiles_over n → x < k → ltb (64 * x) n ≡ true
place_in n k x e l = lt-ltb (64 * x) n (starts_in n x (omega (arith, e, l)))

pub place_out : (n k x : ℕ) → k ≡ tiles_over n → k ≤ x → ltb (64 * x) n ≡ false
place_out n k x e l = le-ltb (64 * x) n (starts_out n x (omega (arith, e, l)))

pub tile_good : (w h q : ℕ) (d : List ℕ) (at : ℕ) → at ≤ length d → 0 ≡ tile_front w h q d at → TileGood q d at
unfolding tile_front tile_fields body_judge tile_at
tile_good w h q d at l e =
    let p = both (least_head 0xCAC3 19 d at) _ e in
    let a = held _ _ _ _ (not_0 3) p.1 in
    let b = held _ _ _ _ (not_0 6) a.1 in
    let c = held _ _ _ _ (not_0 6) b.1 in
    let f = held _ _ _ _ (not_0 6) c.1 in
    record {
      whole = record { there = (least_good d at l 0xCAC3 19 p.0).1; lengths = eqb-true _ _ a.0 };
      y_index = ltb-true _ _ b.0;
      cb_index = ltb-true _ _ c.0;
      cr_index = ltb-true _ _ f.0;
    }

-- the part of a code lies in the tile
pub part_fits : (d : List ℕ) (at k : ℕ) → TileWhole d at → k < 3 → part_start d at k + le16 d (at + (13 + 2 * k)) ≤ length d
unfolding part_start ◌⇒◌∣◌
part_fits d at zero g l = omega (arith, g.there, g.lengths)
part_fits d at (suc zero) g l = omega (arith, g.there, g.lengths)
part_fits d at (suc (suc zero)) g l = omega (arith, g.there, g.lengths)
part_fits d at (suc (suc (suc k))) g l = absurd (omega arith)

-- and it is the tile's own code
pub part_is : (d : List ℕ) (at k : ℕ) → k < 3 → take (le16 d (at + (13 + 2 * k))) (drop (part_start d at k) d) ≡ code_part (tile_at d at) k
unfolding part_start ◌⇒◌∣◌ code_part tile_at
part_is d at zero l = refl
part_is d at (suc zero) l = refl
part_is d at (suc (suc zero)) l = refl
part_is d at (suc (suc (suc k))) l = absurd (omega arith)

pub index_is : (d : List ℕ) (at k : ℕ) → k < 3 → get_or d (at + (6 + k)) 0 ≡ index_of (tile_at d at) k
unfolding index_of tile_at
index_is d at zero l = refl
index_is d at (suc zero) l = refl
index_is d at (suc (suc zero)) l = refl
index_is d at (suc (suc (suc k))) l = absurd (omega arith)

pub index_below : (q : ℕ) (d : List ℕ) (at k : ℕ) → TileGood q d at → k < 3 → index_of (tile_at d at) k < q
unfolding index_of
index_below q d at zero g l = g.y_index
index_below q d at (suc zero) g l = g.cb_index
index_below q d at (suc (suc zero)) g l = g.cr_index
index_below q d at (suc (suc (suc k))) g l = absurd (omega arith)

-- a sound tile's component by number
pub sound_part :
    (judge : ℕ → List ℕ → ℕ) (q : ℕ) (d : List ℕ) (at k : ℕ) → TileSound judge q d at → k < 3 →
    0 ≡ judge (index_of (tile_at d at) k) (code_part (tile_at d at) k)
unfolding index_of code_part
sound_part judge q d at zero s l = s.y
sound_part judge q d at (suc zero) s l = s.cb
sound_part judge q d at (suc (suc zero)) s l = s.cr
sound_part judge q d at (suc (suc (suc k))) s l = absurd (omega arith)

-- of three numbers the first that is not 0, by what the calls answered
module _ (f g r a b c : ℕ) (ea : f ≡ a) where
  pub first-of : (f ≡ 0 → ⊥) → f ≡ (a ⨟ b ⨟ c)
  first-of h = stops _ _ _ (λ z. h (ea ∙ z)) ea

  pub second-of : f ≡ 0 → g ≡ b → (g ≡ 0 → ⊥) → g ≡ (a ⨟ b ⨟ c)
  second-of z eb h = goes_on _ _ _ (sym ea ∙ z) (stops _ _ _ (λ y. h (eb ∙ y)) eb)

  pub third_of : f ≡ 0 → g ≡ b → g ≡ 0 → r ≡ c → r ≡ (a ⨟ b ⨟ c)
  third_of z eb y ec = goes_on _ _ _ (sym ea ∙ z) (goes_on _ _ _ (sym eb ∙ y) ec)

module _ (judge : ℕ → List ℕ → ℕ) (w h q : ℕ) (d : List ℕ) where
  -- a tile goes on with its codes
  pub tile_goes_on : (at : ℕ) → tile_fault judge w h q d at ≡ (tile_front w h q d at ⨟ codes_fault judge (tile_at d at))
  unfolding tile_fault tile_front tile_fields
  tile_goes_on at = then_assoc (least_head 0xCAC3 19 d at) (tile_fields w h q d at) (codes_fault judge (tile_at d at))

  pub tile_sound : (at : ℕ) → at ≤ length d → 0 ≡ tile_fault judge w h q d at → TileSound judge q d at
  unfolding codes_fault
  tile_sound at l e =
      let a = both (tile_front w h q d at) (codes_fault judge (tile_at d at)) (e ∙ tile_goes_on at) in
      let b = both (judge (tile_at d at).qy (tile_at d at).ys) _ a.1 in
      let c = both (judge (tile_at d at).qcb (tile_at d at).cbs) _ b.1 in
      record { good = tile_good w h q d at l a.0; y = b.0; cb = c.0; cr = c.1 }

  -- a loop that counts up to n, against the recursion on what is left
  left : (n i : ℕ) → i < n → n - i ≡ suc (n - (i + 1))
  left n i l = omega arith

  pub walk_stops : (n i at x : ℕ) → i < n → (x ≡ 0 → ⊥) → x ≡ tile_fault judge w h q d at → x ≡ tiles_fault judge w h q d (n - i) at
  unfolding tiles_fault
  walk_stops n i at x l f e = rw (left n i l) (stops _ _ _ (λ z. f (e ∙ z)) e)

  pub walk_goes_on :
      (n i at : ℕ) → i < n → tile_fault judge w h q d at ≡ 0 →
      tiles_fault judge w h q d (n - i) at ≡ tiles_fault judge w h q d (n - (i + 1)) (at + size_at d at)
  unfolding tiles_fault
  walk_goes_on n i at l f = rw (left n i l) (sym (goes_on _ _ _ f refl))

  pub walk_ends : (n i at x : ℕ) → n ≤ i → x ≡ (eqb at (length d) ! 4 ⨾ 0) → x ≡ tiles_fault judge w h q d (n - i) at
  unfolding tiles_fault
  walk_ends n i at x l e = let z : n - i ≡ 0 = omega arith in rw z e

  -- a walk without a fault: the tile at its head is sound, and nothing is wrong in the rest
  pub walk_sound :
      (n i at : ℕ) → i < n → at ≤ length d → 0 ≡ tiles_fault judge w h q d (n - i) at →
      TileSound judge q d at × (0 ≡ tiles_fault judge w h q d (n - (i + 1)) (at + size_at d at))
  unfolding tiles_fault
  walk_sound n i at l m e =
      let b = both _ _ (subst (λ (k : ℕ). 0 ≡ tiles_fault judge w h q d k at) (left n i l) e) in
      (tile_sound at m b.0, b.1)
