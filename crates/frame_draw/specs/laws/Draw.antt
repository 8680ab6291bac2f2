-- Laws of drawing: a region, a row, the rows of a tile, each one step on.
use Rattle.std.specs.Prelude.{ℕ, suc, zero, ◌+◌, ◌*◌, ◌-◌, ◌≤◌, ◌<◌, ◌≡◌, Bool, true, false, List, ltb, length, set}
use Rattle.std.proofs.Math.Path.{refl, sym}
use Rattle.std.proofs.Common.{ap, ◌∙◌, subst, suc-mul, mul-le-mul_right, length-set, eq-eqb, ne_eqb, lt-ltb, le-ltb}
use Rattle.std.proofs.Math.Decide.{dec_lt}
use native.Mathlib.Omega.{arith}
use Rattle.whole.specs.Row.{◌⇒◌∣◌}
use Rattle.whole.specs.laws.Row.{case_yes, case_no}
use Rattle.frame_draw.specs.Draw.{holds, some, in_region, stores, row_drawn, rows_drawn}
use Rattle.frame_draw.specs.Spans.{part_of}

-- a loop that counts up to n, against a recursion on what is left
pub left : (n i : ℕ) → i < n → n - i ≡ suc (n - (i + 1))
left n i h = omega arith

module _ (rects : List ℕ) (px py n : ℕ) where
  -- no rectangles: the whole channel
  pub region_all : n ≡ 0 → in_region rects n px py ≡ true
  unfolding in_region
  region_all e = sym (case_yes _ _ _ _ (eq-eqb n 0 e) refl)

  pub region_is : 0 < n → in_region rects n px py ≡ some (holds rects px py) n 0
  unfolding in_region
  region_is l = sym (case_no _ _ _ _ (ne_eqb n 0 (λ e. omega arith)) refl)

module _ (on : ℕ → Bool) (place value : ℕ → ℕ) (n k : ℕ) (pic : List ℕ) where
  pub store_step : k < n → stores on place value (n - k) k pic ≡ stores on place value (n - (k + 1)) (k + 1) (on k ⇒ set pic (place k) (value k) ∣ pic)
  unfolding stores
  store_step l = rw (left n k l)

  pub store_none : n ≤ k → stores on place value (n - k) k pic ≡ pic
  unfolding stores
  store_none l = let z : n - k ≡ 0 = omega arith in rw z refl

pub stored_length : (b : Bool) (pic q : List ℕ) (i v : ℕ) → q ≡ (b ⇒ set pic i v ∣ pic) → length q ≡ length pic
unfolding ◌⇒◌∣◌
stored_length true pic q i v e = ap length e ∙ length-set pic i v
stored_length false pic q i v e = ap length e

-- a row's stores keep the length
pub stores_length : (on : ℕ → Bool) (place value : ℕ → ℕ) (j k : ℕ) (pic : List ℕ) → length (stores on place value j k pic) ≡ length pic
unfolding stores
stores_length on place value zero k pic = refl
stores_length on place value (suc j) k pic =
    stores_length on place value j (k + 1) _ ∙ stored_length (on k) pic _ (place k) (value k) refl

-- the same words, the same stores
pub stores_same :
    (on : ℕ → Bool) (place value other : ℕ → ℕ) (j k : ℕ) (pic : List ℕ) → ((x : ℕ) → x < k + j → value x ≡ other x) →
    stores on place value j k pic ≡ stores on place other j k pic
unfolding stores
stores_same on place value other zero k pic e = refl
stores_same on place value other (suc j) k pic e =
    stores_same on place value other j (k + 1) _ (λ x l. e x (omega arith))
    ∙ ap (λ (v : ℕ). stores on place other j (k + 1) (on k ⇒ set pic (place k) v ∣ pic)) (e k (omega arith))

pub row_length : (rects : List ℕ) (n : ℕ) (val : ℕ → ℕ) (w tx py : ℕ) (pic : List ℕ) → length (row_drawn rects n val w tx py pic) ≡ length pic
unfolding row_drawn
row_length rects n val w tx py pic = stores_length _ _ _ 64 0 pic

-- row py of h rows of w words lies in them
pub row_room : (py h w : ℕ) → py < h → py * w + w ≤ h * w
row_room py h w l = subst (λ (z : ℕ). z ≤ h * w) (suc-mul py w) (mul-le-mul_right w l)

module _ (rects : List ℕ) (n : ℕ) (val : ℕ → ℕ) (w h tx ty y : ℕ) (pic : List ℕ) where
  pub rows_step :
      y < 64 →
      rows_drawn rects n val w h tx ty (64 - y) y pic
      ≡ rows_drawn rects n val w h tx ty (64 - (y + 1)) (y + 1)
      (ltb (64 * ty + y) h ⇒ row_drawn rects n (λ (x : ℕ). val (64 * y + x)) w tx (64 * ty + y) pic ∣ pic)
  unfolding rows_drawn
  rows_step l = rw (left 64 y l)

  pub rows_none : 64 ≤ y → rows_drawn rects n val w h tx ty (64 - y) y pic ≡ pic
  unfolding rows_drawn
  rows_none l = let z : 64 - y ≡ 0 = omega arith in rw z refl

  -- a row of the channel
  pub rows_next :
      (q : List ℕ) → y < 64 → 64 * ty + y < h → q ≡ row_drawn rects n (λ (x : ℕ). val (64 * y + x)) w tx (64 * ty + y) pic →
      rows_drawn rects n val w h tx ty (64 - y) y pic ≡ rows_drawn rects n val w h tx ty (64 - (y + 1)) (y + 1) q
  rows_next q l m e = rows_step l ∙ ap (rows_drawn rects n val w h tx ty (64 - (y + 1)) (y + 1)) (sym (case_yes _ _ _ _ (lt-ltb _ _ m) e))

-- past the channel no row is drawn
rows_out :
    (rects : List ℕ) (n : ℕ) (val : ℕ → ℕ) (w h tx ty j y : ℕ) (pic : List ℕ) → h ≤ 64 * ty + y → rows_drawn rects n val w h tx ty j y pic ≡ pic
unfolding rows_drawn
rows_out rects n val w h tx ty zero y pic l = refl
rows_out rects n val w h tx ty (suc j) y pic l =
    ap (rows_drawn rects n val w h tx ty j (y + 1)) (sym (case_no _ _ _ _ (le-ltb (64 * ty + y) h l) refl))
    ∙ rows_out rects n val w h tx ty j (y + 1) pic (omega arith)

pub rows_done :
    (rects : List ℕ) (n : ℕ) (val : ℕ → ℕ) (w h tx ty y : ℕ) (pic : List ℕ) → part_of h ty ≤ y → rows_drawn rects n val w h tx ty (64 - y) y pic ≡ pic
rows_done rects n val w h tx ty y pic l = by (dec_lt (64 * ty + y) h)
  where
    by : Dec (64 * ty + y < h) → rows_drawn rects n val w h tx ty (64 - y) y pic ≡ pic
    by (yes k) = rows_none rects n val w h tx ty y pic (omega arith)
    by (no k) = rows_out rects n val w h tx ty (64 - y) y pic (omega arith)
