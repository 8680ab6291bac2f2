-- Row after row is place after place; and the counts of a whole picture are those of the definition.
use Prim.Native.Nat.{ℕ, zero, suc, ◌+◌, ◌*◌, ◌/◌, ◌%◌, ◌≤◌, ◌<◌}
use Rattle.std.specs.Prelude.{◌≡◌, ◌≢◌, Bool, true, false, List, length, get_or, set, take, drop, eqb, ltb}
use Rattle.std.proofs.Math.Path.{refl, sym}
use Rattle.std.proofs.Common.{ap, ◌∙◌, mod-lt, length-take, length-drop, get_or-take, get_or-drop, get_or-set_same, get_or-set_other, eqb-true, eq-eqb, ne_eqb}
use Rattle.std.proofs.Common.{le-leb}
use native.Mathlib.Omega.{arith}
use Rattle.std.proofs.Math.Arith.{digits_div, digits_mod}
use Rattle.std.proofs.lemmas.Bool.{eqb-false}
use Rattle.whole.specs.Row.{◌!◌⨾◌, ◌⇒◌∣◌}
use Rattle.whole.specs.laws.Row.{passes}
use Rattle.session.specs.Header.{tiles_over}
use Rattle.tile_diff.specs.Tiles.{not_same, how_many, differs_at, differs}
use Rattle.tile_diff.specs.Counts.{one_more, counted_if, columns_counted, row_counted}
use Rattle.tile_diff.specs.Pictures.{tile_at, places_counted}
use Rattle.tile_diff.specs.laws.Count.{more_in, counted_length}

-- row y of a picture
abbrev pub row_at : List ℕ → ℕ → ℕ → List ℕ
row_at ps w y = take w (drop (y * w) ps)

at_row : (ps : List ℕ) (w y x : ℕ) → x < w → get_or (row_at ps w y) x 0 ≡ get_or ps (y * w + x) 0
at_row ps w y x h = rw (get_or-take, get_or-drop)

row_tile : (w y x : ℕ) → x < w → tile_at w (y * w + x) ≡ y / 64 * tiles_over w + x / 64
row_tile w y x h = rw (digits_div y h, digits_mod y h)

module _ (ps qs : List ℕ) (w y : ℕ) (cs : List ℕ) where
  pub columns_places :
      (x : ℕ)
      → x ≤ w
      → columns_counted (row_at ps w y) (row_at qs w y) w y x (places_counted ps qs w (y * w) cs) ≡ places_counted ps qs w (y * w + x) cs
  unfolding columns_counted places_counted
  columns_places zero h = let e : y * w + 0 ≡ y * w = omega arith in rw e
  columns_places (suc x) h =
      let p = at_row ps w y x (omega arith) in
      let q = at_row qs w y x (omega arith) in
      let t = row_tile w y x (omega arith) in
      let i = columns_places x (omega arith) in
      let e : y * w + suc x ≡ suc (y * w + x) = omega arith in
      rw (e, p, q, i, t)

  fits : (us : List ℕ) → y * w + w ≤ length us → w ≤ length (row_at us w y)
  fits us h = simp (length-take, length-drop) (omega arith)

  pub row_places :
      y * w + w ≤ length ps
      → y * w + w ≤ length qs
      → row_counted (row_at ps w y) (row_at qs w y) w y (places_counted ps qs w (y * w) cs) ≡ places_counted ps qs w (y * w + w) cs
  unfolding row_counted
  row_places p q =
      sym (passes _ _ _ _ (le-leb _ _ (fits ps p)) (passes _ _ _ _ (le-leb _ _ (fits qs q)) refl)) ∙ columns_places w (omega arith)

-- ---- the count of a tile

-- place i counts for tile k
abbrev pub counts : List ℕ → List ℕ → ℕ → ℕ → ℕ → Bool
counts ps qs w k i = eqb (tile_at w i) k ! false ⨾ not_same (get_or ps i 0) (get_or qs i 0)

at_most_more : (m n : ℕ) (t : Bool) → m ≤ n → m + (t ⇒ 1 ∣ 0) ≤ suc n
unfolding ◌⇒◌∣◌
at_most_more m n true h = omega arith
at_most_more m n false h = omega arith

pub many_at_most : (p : ℕ → Bool) (n : ℕ) → how_many p n ≤ n
unfolding how_many
many_at_most p zero = omega arith
many_at_most p (suc n) = at_most_more (how_many p n) n (p n) (many_at_most p n)

pub many_same : (p q : ℕ → Bool) → ((i : ℕ) → p i ≡ q i) → (n : ℕ) → how_many p n ≡ how_many q n
unfolding how_many
many_same p q e zero = refl
many_same p q e (suc n) = rw (many_same p q e n, e n)

pub many_none : (p : ℕ → Bool) → ((i : ℕ) → p i ≡ false) → (n : ℕ) → how_many p n ≡ 0
unfolding how_many ◌⇒◌∣◌
many_none p e zero = refl
many_none p e (suc n) = rw (many_none p e n, e n)

-- one more at j, seen at k
more_here : (cs : List ℕ) (k : ℕ) → k < length cs → get_or cs k 0 < 4294967295 → get_or (one_more k cs) k 0 ≡ get_or cs k 0 + 1
more_here cs k h p = ap (λ (l : List ℕ). get_or l k 0) (sym (more_in cs k p)) ∙ get_or-set_same cs k _ 0 h

more_other : (cs : List ℕ) (j k : ℕ) → k ≢ j → get_or (one_more j cs) k 0 ≡ get_or cs k 0
unfolding one_more ◌!◌⨾◌
more_other cs j k d = by (ltb (get_or cs j 0) 4294967295)
  where
    by : (t : Bool) → get_or (t ! cs ⨾ set cs j (get_or cs j 0 + 1)) k 0 ≡ get_or cs k 0
    by true = get_or-set_other cs j k _ 0 d
    by false = refl

-- a place that is counted, seen at k
counted_at :
    (t : Bool) (j k n : ℕ) (cs : List ℕ)
    → k < length cs
    → get_or cs k 0 ≡ n
    → n < 4294967295
    → get_or (counted_if t j cs) k 0 ≡ n + ((eqb j k ! false ⨾ t) ⇒ 1 ∣ 0)
unfolding counted_if ◌!◌⨾◌ ◌⇒◌∣◌
counted_at false j k n cs l e h = e ∙ by (eqb j k)
  where
    by : (u : Bool) → n ≡ n + ((u ! false ⨾ false) ⇒ 1 ∣ 0)
    by true = omega arith
    by false = omega arith
counted_at true j k n cs l e h = by (eqb j k) refl
  where
    by : (u : Bool) → eqb j k ≡ u → get_or (one_more j cs) k 0 ≡ n + ((u ! false ⨾ true) ⇒ 1 ∣ 0)
    by true q =
        let s : j ≡ k = eqb-true j k q in
        rw s (more_here cs k l (omega arith) ∙ ap (λ (m : ℕ). m + 1) e)
    by false q = more_other cs j k (λ s. eqb-false j k q (sym s)) ∙ e ∙ omega arith

module _ (ps qs : List ℕ) (w : ℕ) (cs : List ℕ) where
  pub places_length : (n : ℕ) → length (places_counted ps qs w n cs) ≡ length cs
  unfolding places_counted
  places_length zero = refl
  places_length (suc n) = counted_length _ _ (places_counted ps qs w n cs) ∙ places_length n

  pub places_count :
      (k : ℕ)
      → k < length cs
      → get_or cs k 0 ≡ 0
      → (n : ℕ)
      → n ≤ 4294967295
      → get_or (places_counted ps qs w n cs) k 0 ≡ how_many (counts ps qs w k) n
  unfolding places_counted how_many
  places_count k l z zero h = z
  places_count k l z (suc n) h =
      counted_at (not_same (get_or ps n 0) (get_or qs n 0)) (tile_at w n) k (how_many (counts ps qs w k) n) (places_counted ps qs w n cs)
      (omega (arith, places_length n)) (places_count k l z n (omega arith)) (omega (arith, many_at_most (counts ps qs w k) n))

-- the number of a tile says its column and its row
both_digits : (c q r y x : ℕ) (t : Bool) → r < c → x < c → (eqb (q * c + r) (y * c + x) ! false ⨾ t) ≡ (eqb r x ! false ⨾ eqb q y ! false ⨾ t)
unfolding ◌!◌⨾◌
both_digits c q r y x t p h = by (eqb r x) (eqb q y) refl refl
  where
    by : (u v : Bool) → eqb r x ≡ u → eqb q y ≡ v → (eqb (q * c + r) (y * c + x) ! false ⨾ t) ≡ (u ! false ⨾ v ! false ⨾ t)
    by true true e f =
        let a : r ≡ x = eqb-true r x e in
        let b : q ≡ y = eqb-true q y f in
        ap (λ (s : Bool). s ! false ⨾ t) (eq-eqb (q * c + r) (y * c + x) (rw (a, b)))
    by true false e f =
        ap (λ (s : Bool). s ! false ⨾ t)
        (ne_eqb (q * c + r) (y * c + x) (λ z. eqb-false q y f (sym (digits_div q p) ∙ ap (λ (n : ℕ). n / c) z ∙ digits_div y h)))
    by false v e f =
        ap (λ (s : Bool). s ! false ⨾ t)
        (ne_eqb (q * c + r) (y * c + x) (λ z. eqb-false r x e (sym (digits_mod q p) ∙ ap (λ (n : ℕ). n % c) z ∙ digits_mod y h)))

column_in : (w i : ℕ) → 0 < w → i % w / 64 < tiles_over w
unfolding tiles_over
column_in w i h = let m = mod-lt i h in omega arith

-- the count of a tile's number is that of its column and row
pub count_differs :
    (ps qs : List ℕ) (w h x y : ℕ) → 0 < w → x < tiles_over w → how_many (counts ps qs w (y * tiles_over w + x)) (h * w) ≡ differs ps qs w h x y
unfolding differs differs_at
count_differs ps qs w h x y p q =
    many_same _ _ (λ i. both_digits (tiles_over w) (i / w / 64) (i % w / 64) y x (not_same (get_or ps i 0) (get_or qs i 0)) (column_in w i p) q) (h * w)
