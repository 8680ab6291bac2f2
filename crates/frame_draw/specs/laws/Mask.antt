-- Laws of masks: what a rectangle holds of a row is its mask there, and the row drawn from the masks of all is `row_drawn`.
use Rattle.std.specs.Prelude.{ℕ, ◌+◌, ◌*◌, ◌-◌, ◌≤◌, ◌<◌, min, ◌≡◌, refl, Bool, List, leb}
use Rattle.std.proofs.Math.Path.{ap, sym}
use Rattle.std.proofs.Common.{◌∙◌, subst, arith, add-one, zero-add}
use Rattle.std.proofs.Math.Bool.{true, false, true≢false}
use Rattle.std.specs.Int.Bits.{bit_or}
use Rattle.std.proofs.Math.Dec.{ltb}
use borrow.Author.Tests.{lt-ltb, le-leb, ltb-true, leb-true}
use Rattle.whole.specs.Row.{◌!◌⨾◌, ◌⇒◌∣◌}
use Rattle.whole.specs.laws.Row.{passes, fails, held}
use Rattle.frame_draw.specs.declared.clip.Clip.{Clip}
use Rattle.frame_draw.specs.Draw.{inside, holds, some, stores, row_on, row_place, row_drawn}
use Rattle.frame_draw.specs.Spans.{always, part_of, bit_at, mask_of, InChannel, RowMask}
use Rattle.frame_draw.specs.Clips.{clip_in, clip_of, on_row}
use Rattle.frame_draw.specs.laws.Draw.{region_all, region_is}
use Rattle.frame_draw.specs.laws.Search.{same, behind, alone, nowhere, or_none, some_last, some_wider}
use Rattle.frame_draw.specs.laws.Stores.{stores_on, stores_off, stores_first}
use Rattle.frame_draw.specs.laws.Bits.{bit_none, bit-or, bit_mask, bit_first}

-- ---- a rectangle

module _ (x y w h px py : ℕ) where
  pub inside_is : inside x y w h px py ≡ true → (x ≤ px) × (px < x + w) × (y ≤ py) × (py < y + h)
  unfolding inside
  inside_is e =
      let a = held (leb x px) false _ true true≢false (sym e) in
      let b = held (ltb px (x + w)) false _ true true≢false a.1 in
      let c = held (leb y py) false _ true true≢false b.1 in
      (leb-true _ _ a.0, ltb-true _ _ b.0, leb-true _ _ c.0, ltb-true _ _ (sym c.1))

  pub inside_yes : x ≤ px → px < x + w → y ≤ py → py < y + h → inside x y w h px py ≡ true
  unfolding inside
  inside_yes a b c d = sym (passes _ _ _ _ (le-leb _ _ a) (passes _ _ _ _ (lt-ltb _ _ b) (passes _ _ _ _ (le-leb _ _ c) (sym (lt-ltb _ _ d)))))

module _ (x y v h a part : ℕ) where
  clip_on_is : (py : ℕ) → on_row (clip_in x y v h a part) py ≡ true → (y ≤ py) × (py < y + h)
  unfolding on_row clip_in
  clip_on_is py e = let a = held (leb y py) false _ true true≢false (sym e) in (leb-true _ _ a.0, ltb-true _ _ (sym a.1))

  clip_on_yes : (py : ℕ) → y ≤ py → py < y + h → on_row (clip_in x y v h a part) py ≡ true
  unfolding on_row clip_in
  clip_on_yes py l m = sym (passes _ _ _ _ (le-leb _ _ l) (sym (lt-ltb _ _ m)))

  clip_bit : (i : ℕ) → bit_at (clip_in x y v h a part).mask i ≡ (leb (x - a) i ! false ⨾ ltb i (min part (x + v - a)))
  unfolding clip_in
  clip_bit i = bit_mask _ _ i

-- its words of a tile's row, in the channel: the bits that are set, where it lies on the row
module _ (x y v h w tx py i : ℕ) (l : i < 64) where
  abbrev clip : Clip
  clip = clip_in x y v h (64 * tx) (part_of w tx)

  clip_words : (on_row clip py ! false ⨾ bit_at clip.mask i) ≡ (ltb (64 * tx + i) w ! false ⨾ inside x y v h (64 * tx + i) py)
  clip_words =
      same _ _
      (λ e.
      let o = held (on_row clip py) false _ true true≢false (sym e) in
      let r = clip_on_is x y v h (64 * tx) (part_of w tx) py o.0 in
      let a = held (leb (x - 64 * tx) i) false _ true true≢false (o.1 ∙ clip_bit x y v h (64 * tx) (part_of w tx) i) in
      let d : x - 64 * tx ≤ i = leb-true _ _ a.0 in
      let f : i < min (part_of w tx) (x + v - 64 * tx) = ltb-true _ _ (sym a.1) in
      sym (passes _ _ _ _ (lt-ltb (64 * tx + i) w (omega arith)) (sym (inside_yes x y v h (64 * tx + i) py (omega arith) (omega arith) r.0 r.1))))
      (λ e.
      let a = held (ltb (64 * tx + i) w) false _ true true≢false (sym e) in
      let c : 64 * tx + i < w = ltb-true _ _ a.0 in
      let b = inside_is x y v h (64 * tx + i) py (sym a.1) in
      let u = lt-ltb i (min (part_of w tx) (x + v - 64 * tx)) (omega arith) in
      let q = clip_bit x y v h (64 * tx) (part_of w tx) i ∙ sym (passes _ _ _ _ (le-leb (x - 64 * tx) i (omega arith)) (sym u)) in
      sym (passes _ _ _ _ (clip_on_yes x y v h (64 * tx) (part_of w tx) py b.2 b.3) (sym q)))

-- ---- a row

-- word x lies in the channel and in rectangle k; or in one of the first k
unfoldable pub rect_on : List ℕ → ℕ → ℕ → ℕ → ℕ → ℕ → Bool
rect_on rects k w tx py x = ltb (64 * tx + x) w ! false ⨾ holds rects (64 * tx + x) py k

unfoldable pub row_to : List ℕ → ℕ → ℕ → ℕ → ℕ → ℕ → Bool
row_to rects k w tx py x = ltb (64 * tx + x) w ! false ⨾ some (holds rects (64 * tx + x) py) k 0

-- the mask after k rectangles
pub record Masked (rects : List ℕ) (k w tx py m : ℕ) : Type 0 where
  pub words : (x : ℕ) → x < 64 → bit_at m x ≡ row_to rects k w tx py x

in_part : (w tx x : ℕ) → x < 64 → ltb (64 * tx + x) w ≡ ltb x (part_of w tx)
in_part w tx x l =
    same _ _
    (λ e. let a = ltb-true (64 * tx + x) w e in lt-ltb x (part_of w tx) (omega arith))
    (λ e. let a = ltb-true x (part_of w tx) e in lt-ltb (64 * tx + x) w (omega arith))

module _ (rects : List ℕ) (w tx py : ℕ) where
  abbrev clipped : ℕ → Clip
  clipped k = clip_of rects (64 * tx) (part_of w tx) k

  rect_words : (k x : ℕ) → x < 64 → (on_row (clipped k) py ! false ⨾ bit_at (clipped k).mask x) ≡ rect_on rects k w tx py x
  unfolding rect_on holds clip_of
  rect_words k x l = clip_words _ _ _ _ w tx py x l

  row_next : (k x : ℕ) → row_to rects (k + 1) w tx py x ≡ (row_to rects k w tx py x ⇒ true ∣ rect_on rects k w tx py x)
  unfolding row_to rect_on
  row_next k x =
      let on = holds rects (64 * tx + x) py in
      behind (ltb (64 * tx + x) w) (some on k 0) (on k) (some on (k + 1) 0)
      (ap (λ (z : ℕ). some on z 0) (add-one k) ∙ (some_last on k 0 ∙ ap (λ (z : ℕ). some on k 0 ⇒ true ∣ on z) (zero-add k)))

  pub masked_none : Masked rects 0 w tx py 0
  unfolding row_to some
  masked_none = record { words = λ x l. bit_none x ∙ nowhere (ltb (64 * tx + x) w) }

  -- one rectangle more, which lies on the row or does not
  module _ (k m then : ℕ) (c : Clip) (g : Masked rects k w tx py m) (e : c ≡ clipped k) where
    on_is : on_row (clipped k) py ≡ on_row c py
    on_is = ap (λ (d : Clip). on_row d py) (sym e)

    pub masked_next : (more : ℕ) → on_row c py ≡ true → more ≡ c.mask → then ≡ bit_or m more → Masked rects (k + 1) w tx py then
    masked_next more o f t =
        record {
          words = λ x l.
              let bit = ap (λ (z : ℕ). bit_at z x) (f ∙ ap (λ (d : Clip). d.mask) e) ∙ (passes _ _ _ _ (on_is ∙ o) refl ∙ rect_words k x l) in
              ap (λ (z : ℕ). bit_at z x) t
              ∙ (bit-or m more x
              ∙ (ap (λ (b : Bool). b ⇒ true ∣ bit_at more x) (g.words x l)
              ∙ (ap (λ (b : Bool). row_to rects k w tx py x ⇒ true ∣ b) bit ∙ sym (row_next k x))));
        }

    pub masked_missed : on_row c py ≡ false → then ≡ m → Masked rects (k + 1) w tx py then
    masked_missed o t =
        record {
          words = λ x l.
              let none = fails _ _ _ _ (on_is ∙ o) refl ∙ rect_words k x l in
              ap (λ (z : ℕ). bit_at z x) t
              ∙ (g.words x l ∙ (sym (or_none _) ∙ (ap (λ (b : Bool). row_to rects k w tx py x ⇒ true ∣ b) none ∙ sym (row_next k x))));
        }

  -- all rectangles
  pub masked_all : (n k m : ℕ) → k ≤ n → n ≤ k → Masked rects k w tx py m → Masked rects n w tx py m
  masked_all n k m l o g = let e : k ≡ n = omega arith in subst (λ (z : ℕ). Masked rects z w tx py m) e g

  -- every word of the part is held: the others add nothing
  pub masked_whole : (n k m : ℕ) → k ≤ n → Masked rects k w tx py m → m ≡ mask_of 0 (part_of w tx) → Masked rects n w tx py m
  unfolding row_to
  masked_whole n k m l g e =
      record {
        words = λ x o.
            same _ _
            (λ q.
            let a = held (ltb (64 * tx + x) w) false _ true true≢false (sym q ∙ g.words x o) in
            sym (passes _ _ _ _ a.0 (sym (some_wider _ k n 0 (sym a.1) l))))
            (λ q.
            let a = held (ltb (64 * tx + x) w) false _ true true≢false (sym q) in
            ap (λ (z : ℕ). bit_at z x) e ∙ (bit_first (part_of w tx) x ∙ (sym (in_part w tx x o) ∙ a.0)));
      }

  -- the mask of a row: of some rectangles ..
  pub row_masked : (n m : ℕ) → 0 < n → Masked rects n w tx py m → RowMask rects n w tx py m
  unfolding row_to row_on
  row_masked n m l g =
      record { words = λ x a. g.words x a ∙ ap (λ (c : Bool). ltb (64 * tx + x) w ! false ⨾ c) (sym (region_is rects (64 * tx + x) py n l)) }

  -- .. or there are none, and the whole part is drawn
  pub row_whole : (n m : ℕ) → n ≡ 0 → m ≡ mask_of 0 (part_of w tx) → RowMask rects n w tx py m
  unfolding row_on
  row_whole n m e p =
      record {
        words = λ x l.
            ap (λ (z : ℕ). bit_at z x) p
            ∙ (bit_first (part_of w tx) x
            ∙ (sym (in_part w tx x l)
            ∙ (sym (alone (ltb (64 * tx + x) w)) ∙ ap (λ (c : Bool). ltb (64 * tx + x) w ! false ⨾ c) (sym (region_all rects (64 * tx + x) py n e)))));
      }

  module _ (n m : ℕ) (g : RowMask rects n w tx py m) where
    -- a word that is drawn lies in the channel
    pub mask_in : InChannel w tx m
    unfolding row_on
    mask_in = record { most = λ x l e. ltb-true _ _ (held (ltb (64 * tx + x) w) false _ true true≢false (sym e ∙ g.words x l)).0 }

    -- the row, drawn from its mask
    pub mask_drawn : (value : ℕ → ℕ) (pic : List ℕ) → stores (bit_at m) (row_place w tx py) value 64 0 pic ≡ row_drawn rects n value w tx py pic
    unfolding row_drawn
    mask_drawn value pic = stores_on _ _ _ _ 64 0 pic (λ x a b. g.words x (omega arith))

    pub none_drawn : (value : ℕ → ℕ) (pic : List ℕ) → m ≡ 0 → pic ≡ row_drawn rects n value w tx py pic
    unfolding row_drawn
    none_drawn value pic e = stores_off _ _ _ 64 0 pic (λ x p q. sym (g.words x (omega arith)) ∙ (ap (λ (z : ℕ). bit_at z x) e ∙ bit_none x))

-- a row that is drawn whole
pub mask_whole :
    (part m : ℕ) (place value : ℕ → ℕ) (pic : List ℕ) → part ≤ 64 → m ≡ mask_of 0 part →
    stores always place value part 0 pic ≡ stores (bit_at m) place value 64 0 pic
mask_whole part m place value pic l e = stores_first _ _ _ part 64 pic l (λ x o. ap (λ (z : ℕ). bit_at z x) e ∙ bit_first part x)
