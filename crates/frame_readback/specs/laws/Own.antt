-- The tile of a pixel among tiles row by row, and the words of a tile of our own.
-- Assumes nothing.
use Prim.Native.Nat.{ℕ, zero, suc, ◌+◌, ◌*◌, ◌/◌, ◌%◌, ◌≤◌, ◌<◌}
use Rattle.std.specs.Prelude.{◌≡◌, true, false, List, ◌⊎◌, get_or, take, drop}
use Rattle.std.proofs.Math.Path.{refl}
use Rattle.std.proofs.Common.{ap, ap₂, sym, ◌∙◌, arith, eq-or-lt_of_le, lt-ltb, le-leb, get_or-take, get_or-drop}
use Rattle.std.proofs.Math.Logic.{inl, inr, ⊎_elim}
use Rattle.std.proofs.Math.Decide.{ℕ_discrete}
use Rattle.std.proofs.Math.Arith.{digits_div, digits_mod}
use Rattle.wire.specs.Le.{le16}
use Rattle.whole.specs.laws.Row.{passes, case_yes, case_no}
use Rattle.frame_layout.specs.Bytes.{Tile}
use Rattle.frame_layout.specs.laws.Tiles.{listed}
use Rattle.frame_draw.specs.Draw.{inside, holds, some, in_region}
use Rattle.frame_draw.specs.laws.Draw.{region_is}
use Rattle.frame_draw.specs.Shown.{in_tile, found, none, or_else, last_tile}

-- ---- the last of tiles that holds a pixel, where the tiles are sent by their numbers and just the k-th holds it

-- it is sent, and so it is found
pub record Seen (tile : ℕ → Tile) (pick : ℕ → ℕ) (px py k n i : ℕ) : Type 0 where
  pub place : ℕ
  pub from : i ≤ place
  pub to : place < i + n
  pub is : pick place ≡ k
  pub last : last_tile (listed (λ (j : ℕ). tile (pick j)) n i) px py ≡ found (tile k)

-- it is not, and so none is
pub record Unseen (tile : ℕ → Tile) (pick : ℕ → ℕ) (px py k n i : ℕ) : Type 0 where
  pub not : (j : ℕ) → i ≤ j → j < i + n → pick j ≡ k → ⊥
  pub last : last_tile (listed (λ (j : ℕ). tile (pick j)) n i) px py ≡ none

module _ (tile : ℕ → Tile) (pick : ℕ → ℕ) (px py k : ℕ) (here : in_tile (tile k) px py ≡ true)
    (else : (j : ℕ) → (j ≡ k → ⊥) → in_tile (tile j) px py ≡ false) where
  seen_later : (n i : ℕ) → Seen tile pick px py k n (i + 1) → Seen tile pick px py k (suc n) i
  unfolding last_tile listed or_else
  seen_later n i s = record { place = s.place; from = omega (arith, s.from); to = omega (arith, s.to); is = s.is; last = rw s.last refl }

  module _ (n i : ℕ) (u : Unseen tile pick px py k n (i + 1)) where
    seen_first : pick i ≡ k → Seen tile pick px py k (suc n) i
    unfolding last_tile listed or_else
    seen_first e = record {
      place = i;
      from = omega arith;
      to = omega arith;
      is = e;
      last = rw (u.last, e) (sym (case_yes (in_tile (tile k) px py) (found (tile k)) none (found (tile k)) here refl));
    }

    unseen : (pick i ≡ k → ⊥) → Unseen tile pick px py k (suc n) i
    unfolding last_tile listed or_else
    unseen f = record {
      not = λ j a b e. ⊎_elim (λ (z : i ≡ j). f (ap pick z ∙ e)) (λ (l : i < j). u.not j (omega arith) (omega arith) e) (eq-or-lt_of_le a);
      last = rw u.last (sym (case_no (in_tile (tile (pick i)) px py) (found (tile (pick i))) none none (else (pick i) f) refl));
    }

  pub last_picked : (n i : ℕ) → Seen tile pick px py k n i ⊎ Unseen tile pick px py k n i
  unfolding last_tile listed
  last_picked zero i = inr (record { not = λ j a b e. omega arith; last = refl })
  last_picked (suc n) i = ⊎_elim (λ s. inl (seen_later n i s)) (λ u. by u (ℕ_discrete (pick i) k)) (last_picked n (i + 1))
    where
      by : Unseen tile pick px py k n (i + 1) → Dec (pick i ≡ k) → Seen tile pick px py k (suc n) i ⊎ Unseen tile pick px py k (suc n) i
      by u (yes e) = inl (seen_first n i u e)
      by u (no e) = inr (unseen n i u e)

-- ---- tile k of cols a row stands at k % cols, k / cols

pub tile_place : (cols x y : ℕ) → x < cols → ((y * cols + x) % cols ≡ x) × ((y * cols + x) / cols ≡ y)
tile_place cols x y l = (digits_mod y l, digits_div y l)

-- ---- one rectangle over the whole holds every pixel of the channel

rect_at : (m : List ℕ) (k : ℕ) → k + 2 ≤ 8 → le16 (take 8 (drop 25 m)) k ≡ le16 m (25 + k)
unfolding le16
rect_at m k l =
    ap₂ (λ (a b : ℕ). a + 256 * b) (get_or-take 8 (drop 25 m) k 0 (omega arith) ∙ get_or-drop 25 m k 0)
    (get_or-take 8 (drop 25 m) (k + 1) 0 (omega arith) ∙ get_or-drop 25 m (k + 1) 0 ∙ ap (λ (i : ℕ). get_or m i 0) (omega arith))

pub whole_region :
    (m : List ℕ) (w h px py : ℕ) → le16 m 25 ≡ 0 → le16 m 27 ≡ 0 → le16 m 29 ≡ w → le16 m 31 ≡ h → px < w → py < h →
    in_region (take 8 (drop 25 m)) 1 px py ≡ true
unfolding some holds inside
whole_region m w h px py a b c d l k =
    region_is (take 8 (drop 25 m)) px py 1 (omega arith)
    ∙ rw (rect_at m 0 (omega arith), rect_at m 2 (omega arith), rect_at m 4 (omega arith), rect_at m 6 (omega arith), a, b, c, d)
    (sym
    (case_yes _ _ _ _
    (sym
    (passes _ _ _ _ (le-leb 0 px (omega arith))
    (passes _ _ _ _ (lt-ltb px (0 + w) (omega arith)) (passes _ _ _ _ (le-leb 0 py (omega arith)) (sym (lt-ltb py (0 + h) (omega arith)))))))
    refl))
