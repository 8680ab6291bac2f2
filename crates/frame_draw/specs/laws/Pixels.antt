-- The picture after a tile, by coordinates: document 01, "A picture word is changed exactly if it lies in the channel, in some
-- rectangle of the region, and in some listed tile"; "words past width x height are never changed".
-- (01 is this project's scope document, 02 its change requests, 001 is MS-RDPRFX: README, "What 01 is".)
use Prim.Native.Nat.{ℕ, suc, zero, ◌+◌, ◌*◌, ◌/◌, ◌%◌, ◌≤◌, ◌<◌}
use Rattle.std.specs.Prelude.{◌≡◌, Bool, false, List, ◌⊎◌, eqb, set}
use Rattle.std.proofs.Math.Path.{refl, ap, sym, subst⁻¹}
use Rattle.std.proofs.Common.{◌∙◌, subst, inl, inr, add-one, suc-mul, eq-or-lt_of_le, get_or-set_same, get_or-set_other, lt-ltb, ltb-true, eqb-true, eq-eqb}
use Rattle.std.proofs.Math.Bool.{true, true≢false}
use Rattle.std.proofs.lemmas.Bool.{false≢true, eqb-false}
use Rattle.std.proofs.Math.Logic.{⊎_elim}
use native.Mathlib.Omega.{arith}
use Rattle.std.proofs.Math.Nat.{div-eq_of_lt-le}
use Rattle.std.proofs.Math.Dec.{ltb}
use Rattle.std.proofs.Math.ListN.{length, get_or}
use Rattle.whole.specs.Row.{◌⇒◌∣◌}
use Rattle.whole.specs.laws.Row.{case_yes, case_no, passes, held}
use Rattle.frame_draw.specs.Draw.{in_region, stores, row_on, row_place, row_drawn, rows_drawn, tile_drawn, shown}
use Rattle.frame_draw.specs.laws.Draw.{row_room, stored_length, row_length}

pub split : (b : Bool) → (b ≡ true) ⊎ (b ≡ false)
split true = inl refl
split false = inr refl

-- the row of a place
pub row_of : (w a p : ℕ) → p < w → (a * w + p) / w ≡ a
row_of w a p l = div-eq_of_lt-le w (omega arith) (rw (add-one, suc-mul) (omega arith))

pub place_inj : (w a b p q : ℕ) → p < w → q < w → a * w + p ≡ b * w + q → (a ≡ b) × (p ≡ q)
place_inj w a b p q l m e =
    let r : a ≡ b = sym (row_of w a p l) ∙ (ap (λ (z : ℕ). z / w) e ∙ row_of w b q m) in
    let s : a * w ≡ b * w = ap (λ (z : ℕ). z * w) r in
    (r, omega arith)

one_miss : (b : Bool) (pic : List ℕ) (p v i : ℕ) → (b ≡ true → p ≡ i → ⊥) → get_or (b ⇒ set pic p v ∣ pic) i 0 ≡ get_or pic i 0
unfolding ◌⇒◌∣◌
one_miss true pic p v i h = get_or-set_other pic p i v 0 (λ e. h refl (sym e))
one_miss false pic p v i h = refl

one_hit : (b : Bool) (pic : List ℕ) (p v i : ℕ) → b ≡ true → p ≡ i → i < length pic → get_or (b ⇒ set pic p v ∣ pic) i 0 ≡ v
unfolding ◌⇒◌∣◌
one_hit true pic p v i h e l = subst (λ (z : ℕ). get_or (set pic p v) z 0 ≡ v) e (get_or-set_same pic p v 0 (subst⁻¹ (λ (z : ℕ). z < length pic) e l))
one_hit false pic p v i h e l = absurd (false≢true h)

module _ (on : ℕ → Bool) (place value : ℕ → ℕ) (i : ℕ) where
  pub stores_miss :
      (j k : ℕ) (pic : List ℕ) → ((x : ℕ) → k ≤ x → x < k + j → on x ≡ true → place x ≡ i → ⊥) →
      get_or (stores on place value j k pic) i 0 ≡ get_or pic i 0
  unfolding stores
  stores_miss zero k pic h = refl
  stores_miss (suc j) k pic h =
      stores_miss j (k + 1) _ (λ x a b. h x (omega arith) (omega arith))
      ∙ one_miss (on k) pic (place k) (value k) i (h k (omega arith) (omega arith))

  pub stores_hit :
      (j k : ℕ) (pic : List ℕ) (x : ℕ) → k ≤ x → x < k + j → on x ≡ true → place x ≡ i → i < length pic →
      ((z : ℕ) → on z ≡ true → place z ≡ i → z ≡ x) → get_or (stores on place value j k pic) i 0 ≡ value x
  unfolding stores
  stores_hit zero k pic x a b o e l u = absurd (omega arith)
  stores_hit (suc j) k pic x a b o e l u =
      ⊎_elim
      (λ (q : k ≡ x).
      stores_miss j (k + 1) _ (λ z c d p r. let s : z ≡ x = u z p r in omega arith)
      ∙ (one_hit (on k) pic (place k) (value k) i (subst⁻¹ (λ (z : ℕ). on z ≡ true) q o) (subst⁻¹ (λ (z : ℕ). place z ≡ i) q e) l ∙ ap value q))
      (λ (q : k < x).
      stores_hit j (k + 1) _ x (omega arith) (omega arith) o e (subst⁻¹ (λ (z : ℕ). i < z) (stored_length (on k) pic _ (place k) (value k) refl) l) u)
      (eq-or-lt_of_le a)

-- a pixel of a row that is on lies in the channel, and in a rectangle
row_on_is : (rects : List ℕ) (n w tx py x : ℕ) → row_on rects n w tx py x ≡ true → (64 * tx + x < w) × (true ≡ in_region rects n (64 * tx + x) py)
unfolding row_on
row_on_is rects n w tx py x e =
    let a = held _ _ _ _ true≢false (sym e) in
    (ltb-true _ _ a.0, a.1)

row-on : (rects : List ℕ) (n w tx py x : ℕ) → 64 * tx + x < w → true ≡ in_region rects n (64 * tx + x) py → row_on rects n w tx py x ≡ true
unfolding row_on
row-on rects n w tx py x l e = sym (passes _ _ _ _ (lt-ltb _ _ l) e)

module _ (rects : List ℕ) (n : ℕ) (val : ℕ → ℕ) (w h tx ty : ℕ) (px py : ℕ) (in-w : px < w) where
  -- another row leaves the pixel
  row_other :
      (py' y : ℕ) (pic : List ℕ) → (py' ≡ py → ⊥) →
      get_or (row_drawn rects n (λ (x : ℕ). val (64 * y + x)) w tx py' pic) (py * w + px) 0 ≡ get_or pic (py * w + px) 0
  unfolding row_drawn row_place
  row_other py' y pic ne =
      stores_miss _ _ _ (py * w + px) 64 0 pic
      (λ x a b o e. ne (place_inj w py' py (64 * tx + x) px (row_on_is rects n w tx py' x o).0 in-w e).0)

  -- its own row: the word, where the pixel is shown
  row_shown :
      (y : ℕ) (pic : List ℕ) → py * w + px < length pic → px / 64 ≡ tx → true ≡ in_region rects n px py →
      get_or (row_drawn rects n (λ (x : ℕ). val (64 * y + x)) w tx py pic) (py * w + px) 0 ≡ val (64 * y + px % 64)
  unfolding row_drawn row_place
  row_shown y pic l t hh =
      let s : 64 * tx + px % 64 ≡ px = omega arith in
      stores_hit _ _ _ (py * w + px) 64 0 pic (px % 64) (omega arith) (omega arith)
      (row-on rects n w tx py (px % 64) (omega arith) (subst⁻¹ (λ (z : ℕ). true ≡ in_region rects n z py) s hh))
      (ap (λ (z : ℕ). py * w + z) s) l
      (λ z o e. let g = (place_inj w py py (64 * tx + z) px (row_on_is rects n w tx py z o).0 in-w e).1 in omega arith)

  row_hidden :
      (y : ℕ) (pic : List ℕ) → (px / 64 ≡ tx → false ≡ in_region rects n px py) →
      get_or (row_drawn rects n (λ (x : ℕ). val (64 * y + x)) w tx py pic) (py * w + px) 0 ≡ get_or pic (py * w + px) 0
  unfolding row_drawn row_place
  row_hidden y pic dark =
      stores_miss _ _ _ (py * w + px) 64 0 pic
      (λ x a b o e.
      let g : 64 * tx + x ≡ px = (place_inj w py py (64 * tx + x) px (row_on_is rects n w tx py x o).0 in-w e).1 in
      true≢false (subst (λ (z : ℕ). true ≡ in_region rects n z py) g (row_on_is rects n w tx py x o).1 ∙ sym (dark (omega arith))))

  -- what a row does to the pixel, whichever row it is
  one_row : ℕ → List ℕ → List ℕ
  one_row y pic = ltb (64 * ty + y) h ⇒ row_drawn rects n (λ (x : ℕ). val (64 * y + x)) w tx (64 * ty + y) pic ∣ pic

  one_row_length : (y : ℕ) (pic : List ℕ) → length (one_row y pic) ≡ length pic
  unfolding one_row ◌⇒◌∣◌
  one_row_length y pic =
      ⊎_elim
      (λ (q : ltb (64 * ty + y) h ≡ true). rw q (row_length rects n _ w tx (64 * ty + y) pic))
      (λ (q : ltb (64 * ty + y) h ≡ false). rw q refl)
      (split (ltb (64 * ty + y) h))

  one_row_other : (y : ℕ) (pic : List ℕ) → (64 * ty + y ≡ py → ⊥) → get_or (one_row y pic) (py * w + px) 0 ≡ get_or pic (py * w + px) 0
  unfolding one_row ◌⇒◌∣◌
  one_row_other y pic ne =
      ⊎_elim
      (λ (q : ltb (64 * ty + y) h ≡ true). rw q (row_other (64 * ty + y) y pic ne))
      (λ (q : ltb (64 * ty + y) h ≡ false). rw q refl)
      (split (ltb (64 * ty + y) h))

  rows_other :
      (j y : ℕ) (pic : List ℕ) → ((z : ℕ) → y ≤ z → z < y + j → 64 * ty + z ≡ py → ⊥) →
      get_or (rows_drawn rects n val w h tx ty j y pic) (py * w + px) 0 ≡ get_or pic (py * w + px) 0
  unfolding rows_drawn one_row
  rows_other zero y pic f = refl
  rows_other (suc j) y pic f =
      rows_other j (y + 1) (one_row y pic) (λ z a b. f z (omega arith) (omega arith)) ∙ one_row_other y pic (f y (omega arith) (omega arith))

  -- the rows from y on, where the pixel's own row is among them
  rows_own :
      (j y : ℕ) (pic : List ℕ) (z v : ℕ) → y ≤ z → z < y + j → 64 * ty + z ≡ py → py * w + px < length pic →
      ((q : List ℕ) → length q ≡ length pic → get_or q (py * w + px) 0 ≡ get_or pic (py * w + px) 0 → get_or (one_row z q) (py * w + px) 0 ≡ v) →
      get_or (rows_drawn rects n val w h tx ty j y pic) (py * w + px) 0 ≡ v
  unfolding rows_drawn one_row
  rows_own zero y pic z v a b e l f = absurd (omega arith)
  rows_own (suc j) y pic z v a b e l f =
      ⊎_elim
      (λ (q : y ≡ z).
      rows_other j (y + 1) (one_row y pic) (λ x c d g. omega arith)
      ∙ subst⁻¹ (λ (x : ℕ). get_or (one_row x pic) (py * w + px) 0 ≡ v) q (f pic refl refl))
      (λ (q : y < z).
      rows_own j (y + 1) (one_row y pic) z v (omega arith) (omega arith) e (subst⁻¹ (λ (x : ℕ). py * w + px < x) (one_row_length y pic) l)
      (λ r m g. f r (m ∙ one_row_length y pic) (g ∙ one_row_other y pic (λ s. omega arith))))
      (eq-or-lt_of_le a)

  one_row_own : (z : ℕ) (q : List ℕ) → 64 * ty + z ≡ py → py < h → one_row z q ≡ row_drawn rects n (λ (x : ℕ). val (64 * z + x)) w tx py q
  unfolding one_row
  one_row_own z q own in_h =
      sym (case_yes _ _ _ _ (lt-ltb (64 * ty + z) h (omega arith)) (ap (λ (p : ℕ). row_drawn rects n (λ (x : ℕ). val (64 * z + x)) w tx p q) (sym own)))

  -- the pixel's own row hides it
  pixel_hidden :
      (pic : List ℕ) → py < h → py * w + px < length pic → (py / 64 ≡ ty → px / 64 ≡ tx → false ≡ in_region rects n px py) →
      get_or (rows_drawn rects n val w h tx ty 64 0 pic) (py * w + px) 0 ≡ get_or pic (py * w + px) 0
  pixel_hidden pic in_h l dark =
      ⊎_elim
      (λ (t : eqb (py / 64) ty ≡ true).
      let t' : py / 64 ≡ ty = eqb-true _ _ t in
      let own : 64 * ty + py % 64 ≡ py = omega arith in
      rows_own 64 0 pic (py % 64) _ (omega arith) (omega arith) own l
      (λ q m o. ap (λ (r : List ℕ). get_or r (py * w + px) 0) (one_row_own (py % 64) q own in_h) ∙ (row_hidden (py % 64) q (dark t') ∙ o)))
      (λ (t : eqb (py / 64) ty ≡ false).
      rows_other 64 0 pic (λ z a b e. eqb-false (py / 64) ty t (omega arith)))
      (split (eqb (py / 64) ty))

  pixel_shown :
      (pic : List ℕ) → py < h → py * w + px < length pic → py / 64 ≡ ty → px / 64 ≡ tx → true ≡ in_region rects n px py →
      get_or (rows_drawn rects n val w h tx ty 64 0 pic) (py * w + px) 0 ≡ val (64 * (py % 64) + px % 64)
  pixel_shown pic in_h l t s g =
      let own : 64 * ty + py % 64 ≡ py = omega arith in
      rows_own 64 0 pic (py % 64) _ (omega arith) (omega arith) own l
      (λ q m o.
      ap (λ (r : List ℕ). get_or r (py * w + px) 0) (one_row_own (py % 64) q own in_h)
      ∙ row_shown (py % 64) q (subst⁻¹ (λ (z : ℕ). py * w + px < z) m l) s g)

  -- THE PIXEL: the tile's word where it is shown, else as before
  pub pixel :
      (pic : List ℕ) → py < h → h * w ≤ length pic →
      get_or (tile_drawn rects n val w h tx ty pic) (py * w + px) 0
      ≡ (shown rects n tx ty px py ⇒ val (64 * (py % 64) + px % 64) ∣ get_or pic (py * w + px) 0)
  unfolding tile_drawn shown
  pixel pic in_h room =
      let l : py * w + px < length pic = omega (arith, row_room py h w in_h) in
      ⊎_elim
      (λ (q : shown rects n tx ty px py ≡ true).
      let a = held _ _ _ _ true≢false (sym q) in
      let b = held _ _ _ _ true≢false a.1 in
      case_yes _ _ _ _ q (pixel_shown pic in_h l (eqb-true _ _ b.0) (eqb-true _ _ a.0) b.1))
      (λ (q : shown rects n tx ty px py ≡ false).
      case_no _ _ _ _ q
      (pixel_hidden pic in_h l (λ t s. sym q ∙ sym (passes _ _ _ _ (eq-eqb (px / 64) tx s) (passes _ _ _ _ (eq-eqb (py / 64) ty t) refl)))))
      (split (shown rects n tx ty px py))

-- what a row does, whatever it is: nothing past the channel, and the length is kept
module _ (rects : List ℕ) (n : ℕ) (val : ℕ → ℕ) (w h tx ty : ℕ) where
  row_past : (i py : ℕ) (other : ℕ → ℕ) (pic : List ℕ) → py < h → h * w ≤ i → get_or (row_drawn rects n other w tx py pic) i 0 ≡ get_or pic i 0
  unfolding row_drawn row_place
  row_past i py other pic in_h l =
      let r = row_room py h w in_h in
      stores_miss _ _ _ i 64 0 pic (λ x a b o e. let g = (row_on_is rects n w tx py x o).0 in omega arith)

  rows_past : (i j y : ℕ) (pic : List ℕ) → h * w ≤ i → get_or (rows_drawn rects n val w h tx ty j y pic) i 0 ≡ get_or pic i 0
  unfolding rows_drawn ◌⇒◌∣◌
  rows_past i zero y pic l = refl
  rows_past i (suc j) y pic l =
      rows_past i j (y + 1) _ l
      ∙ ⊎_elim
      (λ (q : ltb (64 * ty + y) h ≡ true). rw q (row_past i (64 * ty + y) _ pic (ltb-true (64 * ty + y) h q) l))
      (λ (q : ltb (64 * ty + y) h ≡ false). rw q refl)
      (split (ltb (64 * ty + y) h))

  rows_length : (j y : ℕ) (pic : List ℕ) → length (rows_drawn rects n val w h tx ty j y pic) ≡ length pic
  unfolding rows_drawn ◌⇒◌∣◌
  rows_length zero y pic = refl
  rows_length (suc j) y pic =
      rows_length j (y + 1) _
      ∙ ⊎_elim
      (λ (q : ltb (64 * ty + y) h ≡ true). rw q (row_length rects n _ w tx (64 * ty + y) pic))
      (λ (q : ltb (64 * ty + y) h ≡ false). rw q refl)
      (split (ltb (64 * ty + y) h))

  -- "words past width x height are never changed"
  pub tile_past : (pic : List ℕ) (i : ℕ) → h * w ≤ i → get_or (tile_drawn rects n val w h tx ty pic) i 0 ≡ get_or pic i 0
  unfolding tile_drawn
  tile_past pic i l = rows_past i 64 0 pic l

  pub tile_length : (pic : List ℕ) → length (tile_drawn rects n val w h tx ty pic) ≡ length pic
  unfolding tile_drawn
  tile_length pic = rows_length 64 0 pic
