-- The lines: every tile with a count is listed once, row by row; and who asks for the next tile again and again gets them.
use Prim.Native.Nat.{ℕ, zero, suc, ◌+◌, ◌*◌, ◌-◌, ◌/◌, ◌%◌, ◌≤◌, ◌<◌}
use Rattle.std.proofs.Math.Path.{◌≡◌, refl}
use Rattle.std.proofs.Common.{ap, sym, subst, ◌∙◌, ⊎_elim, div-add-mod'}
use Rattle.std.specs.Prelude.{◌≢◌, Bool, get_or, ltb, Option, Some, None}
use Rattle.std.proofs.Math.Bool.{true, false}
use mathlib.Core.List.Memᴰ
use mathlib.Core.List.{List, [], ◌∷◌, Memᴰ}
use native.Mathlib.Omega.{arith}
use Rattle.std.proofs.Math.Arith.{digits_div, digits_mod}
use Rattle.std.proofs.Math.Dec.{eqb}
use borrow.Author.Tests.{ltb-true, eqb-true, eqb-false, eq-eqb}
use Rattle.whole.specs.Row.{◌!◌⨾◌, ◌⇒◌∣◌}
use Rattle.session.specs.Header.{tiles_over}
use Rattle.tile_diff.specs.Tiles.{line_of, lines_of}
use Rattle.tile_diff.specs.Counts.{next_of, next_tile}
use Rattle.tile_diff.specs.Request.{Asked, none, more, is_of, times_in, RowByRow, end, next}
use Rattle.tile_diff.specs.declared.count.Line.{Line}

-- lines depend on the counts of their tiles only
pub lines_same : (f g : ℕ → ℕ) (c m k : ℕ) → ((j : ℕ) → j < k + m → f j ≡ g j) → lines_of f c m k ≡ lines_of g c m k
unfolding lines_of
lines_same f g c zero k e = refl
lines_same f g c (suc m) k e =
    let i = lines_same f g c m (k + 1) (λ j h. e j (omega arith)) in
    rw (e k (omega arith), i)

pub lines_none : (f : ℕ → ℕ) (c m k : ℕ) → ((j : ℕ) → f j ≡ 0) → lines_of f c m k ≡ []
unfolding lines_of ◌⇒◌∣◌
lines_none f c zero k e = refl
lines_none f c (suc m) k e = rw (e k) (lines_none f c m (k + 1) e)

-- ---- each once

-- the line of tile j is that of column x and row y just where j is the tile's number
line_here : (c x y n : ℕ) → x < c → is_of x y (line_of c (y * c + x) n) ≡ 1
unfolding is_of ◌!◌⨾◌
line_here c x y n h = rw (digits_mod y h, digits_div y h, eq-eqb x x refl, eq-eqb y y refl)

line_other : (c x y j n : ℕ) → j ≢ y * c + x → is_of x y (line_of c j n) ≡ 0
unfolding is_of ◌!◌⨾◌
line_other c x y j n d = by (eqb (j % c) x) (eqb (j / c) y) refl refl
  where
    by : (u v : Bool) → eqb (j % c) x ≡ u → eqb (j / c) y ≡ v → ◌≡◌ {A = ℕ} (u ! 0 ⨾ v ! 0 ⨾ 1) 0
    by true true e f =
        let a : j % c ≡ x = eqb-true (j % c) x e in
        let b : j / c ≡ y = eqb-true (j / c) y f in
        absurd (d (sym (div-add-mod' j c) ∙ rw (a, b)))
    by true false e f = refl
    by false v e f = refl

-- one tile more in front of lines
other_more : (c x y k n : ℕ) (ls : List Line) (t : Bool) → k ≢ y * c + x → times_in x y (t ⇒ line_of c k n ∷ ls ∣ ls) ≡ times_in x y ls
unfolding times_in ◌⇒◌∣◌
other_more c x y k n ls true d = rw (line_other c x y k n d) (omega arith)
other_more c x y k n ls false d = refl

here_more : (c x y n : ℕ) (ls : List Line) (t : Bool) → x < c → times_in x y ls ≡ 0 → times_in x y (t ⇒ line_of c (y * c + x) n ∷ ls ∣ ls) ≡ (t ⇒ 1 ∣ 0)
unfolding times_in ◌⇒◌∣◌
here_more c x y n ls true h e = rw (line_here c x y n h, e)
here_more c x y n ls false h e = e

module _ (f : ℕ → ℕ) (c x y : ℕ) (h : x < c) where
  -- lines behind the tile
  past : (m k : ℕ) → y * c + x < k → times_in x y (lines_of f c m k) ≡ 0
  unfolding lines_of times_in
  past zero k l = refl
  past (suc m) k l = other_more c x y k (f k) (lines_of f c m (k + 1)) (ltb 0 (f k)) (λ e. omega arith) ∙ past m (k + 1) (omega arith)

  pub times_once : (m k : ℕ) → k ≤ y * c + x → y * c + x < k + m → times_in x y (lines_of f c m k) ≡ (ltb 0 (f (y * c + x)) ⇒ 1 ∣ 0)
  unfolding lines_of
  times_once zero k a b = absurd (omega arith)
  times_once (suc m) k a b = by (eqb k (y * c + x)) refl (λ l. times_once m (k + 1) l (omega arith))
    where
      by :
          (t : Bool)
          → eqb k (y * c + x) ≡ t
          → (k + 1 ≤ y * c + x → times_in x y (lines_of f c m (k + 1)) ≡ (ltb 0 (f (y * c + x)) ⇒ 1 ∣ 0))
          → times_in x y (ltb 0 (f k) ⇒ line_of c k (f k) ∷ lines_of f c m (k + 1) ∣ lines_of f c m (k + 1)) ≡ (ltb 0 (f (y * c + x)) ⇒ 1 ∣ 0)
      by true e i =
          let q : k ≡ y * c + x = eqb-true k (y * c + x) e in
          rw q (here_more c x y (f (y * c + x)) (lines_of f c m (y * c + x + 1)) (ltb 0 (f (y * c + x))) h (past m (y * c + x + 1) (omega arith)))
      by false e i =
          let d : k ≢ y * c + x = λ q. eqb-false k (y * c + x) e q in
          other_more c x y k (f k) (lines_of f c m (k + 1)) (ltb 0 (f k)) d ∙ i (omega (arith, d))

-- ---- nothing else, row by row

-- a tile of a list of lines, by its number
pub record Shown (f : ℕ → ℕ) (c k n : ℕ) (l : Line) : Type 0 where
  pub number : ℕ
  pub from : k ≤ number
  pub below : number < n
  pub line : l ≡ line_of c number (f number)
  pub some : 0 < f number

shown_later : (f : ℕ → ℕ) (c m k : ℕ) (l : Line) → Shown f c (k + 1) (k + 1 + m) l → Shown f c k (k + suc m) l
shown_later f c m k l s = record { number = s.number; from = omega arith; below = omega arith; line = s.line; some = s.some }

shown_more :
    (f : ℕ → ℕ) (c m k : ℕ) (l : Line) (ls : List Line) (t : Bool)
    → ltb 0 (f k) ≡ t
    → (Memᴰ l ls → Shown f c (k + 1) (k + 1 + m) l)
    → Memᴰ l (t ⇒ line_of c k (f k) ∷ ls ∣ ls)
    → Shown f c k (k + suc m) l
unfolding ◌⇒◌∣◌
shown_more f c m k l ls true e r i =
    ⊎_elim (λ q. record { number = k; from = omega arith; below = omega arith; line = q; some = ltb-true 0 (f k) e })
    (λ j. shown_later f c m k l (r j)) (Memᴰ.cases_cons i)
shown_more f c m k l ls false e r i = shown_later f c m k l (r i)

pub shown_only : (f : ℕ → ℕ) (c m k : ℕ) (l : Line) → Memᴰ l (lines_of f c m k) → Shown f c k (k + m) l
unfolding lines_of
shown_only f c zero k l i = absurd (Memᴰ.not-nil i)
shown_only f c (suc m) k l i = shown_more f c m k l (lines_of f c m (k + 1)) (ltb 0 (f k)) refl (shown_only f c m (k + 1) l) i

earlier : {c k : ℕ} {ls : List Line} → RowByRow c (k + 1) ls → RowByRow c k ls
earlier end = end
earlier {k = k} {ls = l ∷ ls} (next p r) = next {k = k} {l = l} (omega arith) r

rising_more : (c k n : ℕ) (ls : List Line) (t : Bool) → RowByRow c (k + 1) ls → RowByRow c k (t ⇒ line_of c k n ∷ ls ∣ ls)
unfolding ◌⇒◌∣◌
rising_more c k n ls true r =
    let e : k / c * c + k % c ≡ k = div-add-mod' k c in
    next {k = k} {l = line_of c k n} (omega arith) (subst (λ (j : ℕ). RowByRow c (j + 1) ls) (sym e) r)
rising_more c k n ls false r = earlier r

pub rising : (f : ℕ → ℕ) (c m k : ℕ) → RowByRow c k (lines_of f c m k)
unfolding lines_of
rising f c zero k = end
rising f c (suc m) k = rising_more c k (f k) (lines_of f c m (k + 1)) (ltb 0 (f k)) (rising f c m (k + 1))

-- ---- asked for one after the other

-- a tile is told with its line
told : {k j : ℕ} {a b : Line} → ◌≡◌ {A = Option (ℕ × Line)} (Some (k, a)) (Some (j, b)) → (k ≡ j) × (a ≡ b)
told {k} {j} {a} {b} e =
    let both : ◌≡◌ {A = ℕ × Line} (k, a) (j, b) = cc in
    (ap (λ (t : ℕ × Line). t.0) both, ap (λ (t : ℕ × Line). t.1) both)

module _ (cs : List ℕ) (c : ℕ) where
  abbrev count : ℕ → ℕ
  count k = get_or cs k 0

  end_more :
      (k : ℕ) (ls : List Line) (x : Option (ℕ × Line)) (t : Bool)
      → (x ≡ None → ls ≡ [])
      → (t ⇒ Some (k, line_of c k (count k)) ∣ x) ≡ None
      → (t ⇒ line_of c k (count k) ∷ ls ∣ ls) ≡ []
  unfolding ◌⇒◌∣◌
  end_more k ls x true r e = let z : ◌≡◌ {A = ℕ} 0 1 = cc in absurd (omega arith)
  end_more k ls x false r e = r e

  pub end_lines : (m k : ℕ) → next_of cs c m k ≡ None → lines_of count c m k ≡ []
  unfolding next_of lines_of
  end_lines zero k e = refl
  end_lines (suc m) k e = end_more k (lines_of count c m (k + 1)) (next_of cs c m (k + 1)) (ltb 0 (count k)) (end_lines m (k + 1)) e

  -- the lines from tile k on, where all is the number of tiles: the tile that is found, and the lines behind it
  abbrev Found : ℕ → List Line → ℕ → Line → Type 0
  Found all ls j l = (ls ≡ l ∷ lines_of count c (all - (j + 1)) (j + 1))

  found_more :
      (all k j : ℕ) (l : Line) (ls : List Line) (x : Option (ℕ × Line)) (t : Bool)
      → ls ≡ lines_of count c (all - (k + 1)) (k + 1)
      → (x ≡ Some (j, l) → Found all ls j l)
      → (t ⇒ Some (k, line_of c k (count k)) ∣ x) ≡ Some (j, l)
      → Found all (t ⇒ line_of c k (count k) ∷ ls ∣ ls) j l
  unfolding ◌⇒◌∣◌
  found_more all k j l ls x true s r e =
      let t = told e in
      rw (t.1, s, t.0)
  found_more all k j l ls x false s r e = r e

  pub found_lines : (all m k j : ℕ) (l : Line) → k + m ≡ all → next_of cs c m k ≡ Some (j, l) → Found all (lines_of count c m k) j l
  unfolding next_of lines_of
  found_lines all zero k j l s e = let z : ◌≡◌ {A = ℕ} 0 1 = cc in absurd (omega arith)
  found_lines all (suc m) k j l s e =
      let n : m ≡ all - (k + 1) = omega arith in
      found_more all k j l (lines_of count c m (k + 1)) (next_of cs c m (k + 1)) (ltb 0 (count k)) (ap (λ (i : ℕ). lines_of count c i (k + 1)) n)
      (found_lines all m (k + 1) j l (omega arith)) e

  -- a tile that is found lies below the end
  below_more :
      (all k j : ℕ) (l : Line) (x : Option (ℕ × Line)) (t : Bool)
      → k < all
      → (x ≡ Some (j, l) → j < all)
      → (t ⇒ Some (k, line_of c k (count k)) ∣ x) ≡ Some (j, l)
      → j < all
  unfolding ◌⇒◌∣◌
  below_more all k j l x true h r e = let q = (told e).0 in omega (arith, q)
  below_more all k j l x false h r e = r e

  pub found_below : (all m k j : ℕ) (l : Line) → k + m ≡ all → next_of cs c m k ≡ Some (j, l) → j < all
  unfolding next_of
  found_below all zero k j l s e = let z : ◌≡◌ {A = ℕ} 0 1 = cc in absurd (omega arith)
  found_below all (suc m) k j l s e =
      below_more all k j l (next_of cs c m (k + 1)) (ltb 0 (count k)) (omega arith) (found_below all m (k + 1) j l (omega arith)) e

-- and not before the tile that was asked from
pub found_from : (cs : List ℕ) (c m k j : ℕ) (l : Line) → next_of cs c m k ≡ Some (j, l) → k ≤ j
unfolding next_of ◌⇒◌∣◌
found_from cs c zero k j l e = let z : ◌≡◌ {A = ℕ} 0 1 = cc in absurd (omega arith)
found_from cs c (suc m) k j l e = by (ltb 0 (get_or cs k 0)) (found_from cs c m (k + 1) j l) e
  where
    by :
        (t : Bool)
        → (next_of cs c m (k + 1) ≡ Some (j, l) → k + 1 ≤ j)
        → (t ⇒ Some (k, line_of c k (get_or cs k 0)) ∣ next_of cs c m (k + 1)) ≡ Some (j, l)
        → k ≤ j
    by true r e = let q = (told e).0 in omega (arith, q)
    by false r e = omega (arith, r e)

pub asked_lines :
    (cs : List ℕ) (w h k : ℕ) (ls : List Line)
    → k ≤ tiles_over w * tiles_over h
    → Asked cs w h k ls
    → ls ≡ lines_of (λ j. get_or cs j 0) (tiles_over w) (tiles_over w * tiles_over h - k) k
unfolding next_tile
asked_lines cs w h k ls p (none e) = sym (end_lines cs (tiles_over w) (tiles_over w * tiles_over h - k) k e)
asked_lines cs w h k (l ∷ ls) p (more {j = j} e r) =
    let all = tiles_over w * tiles_over h in
    let s : k + (all - k) ≡ all = omega arith in
    let b = found_below cs (tiles_over w) all (all - k) k j l s e in
    ap (λ (t : List Line). l ∷ t) (asked_lines cs w h (j + 1) ls (omega arith) r) ∙ sym (found_lines cs (tiles_over w) all (all - k) k j l s e)
