-- A tile that one rectangle holds is drawn as if the region had none: all of it that lies in the channel.
use Prim.Native.Nat.{ℕ, zero, suc, ◌+◌, ◌*◌, ◌≤◌, ◌<◌}
use Rattle.std.specs.Prelude.{◌≡◌, Bool, true}
use Rattle.std.proofs.Math.Path.{refl, ap, sym}
use Rattle.std.proofs.Common.{ap₂, ◌∙◌, true≢false, arith, ltb-true}
use Rattle.std.proofs.Math.Bool.{false}
use mathlib.Core.List.{List}
use Rattle.std.proofs.Math.Logic.{⊎_elim}
use Rattle.std.proofs.Math.Dec.{ltb}
use Rattle.whole.specs.Row.{◌!◌⨾◌, ◌⇒◌∣◌}
use Rattle.whole.specs.laws.Row.{case_yes, case_no, case_is, case_not, fails, held}
use Rattle.frame_draw.specs.Draw.{holds, some, in_region, row_on, row_drawn, rows_drawn, tile_drawn}
use Rattle.frame_draw.specs.laws.Draw.{region_all, region_is}
use Rattle.frame_draw.specs.laws.Pixels.{split}
use Rattle.frame_draw.specs.Spans.{last_of, covers, asked}
use Rattle.frame_draw.specs.laws.Search.{some_also}
use Rattle.frame_draw.specs.laws.Stores.{stores_on}
use Rattle.frame_draw.specs.laws.Mask.{inside_is, inside_yes}

-- what is found
module _ (rects : List ℕ) (n w h tx ty r b : ℕ) (right : r ≡ last_of w tx) (bottom : b ≡ last_of h ty) where
  same_search : some (covers rects (64 * tx) (64 * ty) (last_of w tx) (last_of h ty)) n 0 ≡ some (covers rects (64 * tx) (64 * ty) r b) n 0
  same_search = ap₂ (λ (y z : ℕ). some (covers rects (64 * tx) (64 * ty) y z) n 0) (sym right) (sym bottom)

  pub asked_none : some (covers rects (64 * tx) (64 * ty) r b) n 0 ≡ true → 0 ≡ asked rects n w h tx ty
  unfolding asked
  asked_none e = case_yes _ _ _ _ (same_search ∙ e) refl

  pub asked_all : some (covers rects (64 * tx) (64 * ty) r b) n 0 ≡ false → n ≡ asked rects n w h tx ty
  unfolding asked
  asked_all e = case_no _ _ _ _ (same_search ∙ e) refl

-- a rectangle that holds two pixels holds all between
between : (rects : List ℕ) (l t r b px py k : ℕ) → l ≤ px → px ≤ r → t ≤ py → py ≤ b → covers rects l t r b k ≡ true → holds rects px py k ≡ true
unfolding covers holds
between rects l t r b px py k p q u v e =
    let a = held _ false _ true true≢false (sym e) in
    let f = inside_is _ _ _ _ l t a.0 in
    let g = inside_is _ _ _ _ r b (sym a.1) in
    inside_yes _ _ _ _ px py (omega arith) (omega arith) (omega arith) (omega arith)

module _ (rects : List ℕ) (n w h tx ty : ℕ) where
  -- one of the rectangles holds the tile's first pixel and its last in the channel
  abbrev found : Bool
  found = some (covers rects (64 * tx) (64 * ty) (last_of w tx) (last_of h ty)) n 0

module _ (rects : List ℕ) (n w h tx ty : ℕ) (e : found rects n w h tx ty ≡ true) where
  -- so every pixel of the tile that lies in the channel is in the region
  in-region : (m x y : ℕ) → m ≡ n → x < 64 → y < 64 → 64 * tx + x < w → 64 * ty + y < h → in_region rects m (64 * tx + x) (64 * ty + y) ≡ true
  in-region zero x y s p q u v = region_all rects _ _ zero refl
  in-region (suc m) x y s p q u v =
      region_is rects _ _ (suc m) (omega arith)
      ∙ some_also _ _ (suc m) 0
      (λ k. between rects (64 * tx) (64 * ty) (last_of w tx) (last_of h ty) _ _ k (omega arith) (omega arith) (omega arith) (omega arith))
      (ap (λ (z : ℕ). some (covers rects (64 * tx) (64 * ty) (last_of w tx) (last_of h ty)) z 0) s ∙ e)

  held_row :
      (val : ℕ → ℕ) (y : ℕ) (pic : List ℕ) → y < 64 → 64 * ty + y < h →
      row_drawn rects 0 val w tx (64 * ty + y) pic ≡ row_drawn rects n val w tx (64 * ty + y) pic
  unfolding row_drawn row_on
  held_row val y pic l m =
      stores_on _ _ _ _ 64 0 pic
      (λ x p q.
      ⊎_elim
      (λ (s : ltb (64 * tx + x) w ≡ true).
      ap (λ (c : Bool). ltb (64 * tx + x) w ! false ⨾ c)
      (region_all rects _ _ 0 refl ∙ sym (in-region n x y refl (omega arith) l (ltb-true _ _ s) m)))
      (λ (s : ltb (64 * tx + x) w ≡ false). sym (fails _ _ _ _ s refl) ∙ fails _ _ _ _ s refl)
      (split (ltb (64 * tx + x) w)))

  held_rows : (val : ℕ → ℕ) (j y : ℕ) (pic : List ℕ) → y + j ≤ 64 → rows_drawn rects 0 val w h tx ty j y pic ≡ rows_drawn rects n val w h tx ty j y pic
  unfolding rows_drawn ◌⇒◌∣◌
  held_rows val zero y pic l = refl
  held_rows val (suc j) y pic l =
      ⊎_elim
      (λ (q : ltb (64 * ty + y) h ≡ true).
      rw q
      (ap (λ (p : List ℕ). rows_drawn rects 0 val w h tx ty j (y + 1) p) (held_row (λ (x : ℕ). val (64 * y + x)) y pic (omega arith) (ltb-true _ _ q))
      ∙ held_rows val j (y + 1) _ (omega arith)))
      (λ (q : ltb (64 * ty + y) h ≡ false). rw q (held_rows val j (y + 1) pic (omega arith)))
      (split (ltb (64 * ty + y) h))

-- THE TILE, held against as many rectangles as it asks
module _ (rects : List ℕ) (n w h tx ty m : ℕ) (e : m ≡ asked rects n w h tx ty) where
  pub asked_same : (val : ℕ → ℕ) (pic : List ℕ) → tile_drawn rects m val w h tx ty pic ≡ tile_drawn rects n val w h tx ty pic
  unfolding asked tile_drawn
  asked_same val pic =
      let tile : ℕ → List ℕ = λ (k : ℕ). rows_drawn rects k val w h tx ty 64 0 pic in
      ap tile e
      ∙ ⊎_elim
      (λ (q : found rects n w h tx ty ≡ true). ap tile (sym (case_yes _ _ _ _ q refl)) ∙ held_rows rects n w h tx ty q val 64 0 pic (omega arith))
      (λ (q : found rects n w h tx ty ≡ false). ap tile (sym (case_no _ _ _ _ q refl)))
      (split (found rects n w h tx ty))

  pub asked_most : m ≤ n
  unfolding asked
  asked_most =
      ⊎_elim
      (λ (q : found rects n w h tx ty ≡ true). let a : m ≡ 0 = case_is _ _ _ _ q e in omega arith)
      (λ (q : found rects n w h tx ty ≡ false). let a : m ≡ n = case_not _ _ _ _ q e in omega arith)
      (split (found rects n w h tx ty))
