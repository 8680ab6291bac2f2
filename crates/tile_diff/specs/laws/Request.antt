-- Request Seven, proved: from the bytes of two files to the lines.
use Prim.Native.Nat.{ℕ, zero, suc, ◌+◌, ◌*◌, ◌-◌, ◌/◌, ◌%◌, ◌≤◌, ◌<◌}
use Rattle.std.proofs.Math.Path.{◌≡◌, refl, sym, subst⁻¹}
use Rattle.std.proofs.Common.{ap, ◌∙◌, ⊎_elim, mod-lt, div-lt_iff_lt-mul, mul_comm, div-add-mod', length-drop}
use Rattle.std.specs.Prelude.{◌⊎◌, Bool, length, take, drop, leb, ltb, Option, Some, None}
use Rattle.std.proofs.Math.Bool.{true, false}
use mathlib.Core.List.{List, [], ◌∷◌, Memᴰ}
use native.Mathlib.Omega.{arith}
use Rattle.std.proofs.Math.Nat.{mul-le-mul, mul-le-mul_right, zero-mod, zero-div}
use Rattle.std.proofs.Math.Arith.{digits_lt, digits_div, digits_mod}
use Rattle.std.proofs.Math.ListN.{get_or}
use Rattle.std.proofs.lemmas.List.{length-replicate, get_or-replicate}
use Rattle.std.proofs.Math.Dec.{eqb}
use borrow.Author.Tests.{eqb-true, eq-eqb, leb-true}
use Rattle.wire.specs.Le.{le16}
use Rattle.session.specs.Header.{tiles_over, size_good}
use Rattle.whole.specs.Row.{◌!◌⨾◌, ◌⇒◌∣◌}
use Rattle.whole.specs.laws.Row.{held}
use Rattle.tile_diff.specs.Tiles.{words_of, how_many, differs_at, differs, lines_of, listed}
use Rattle.tile_diff.specs.Pic.{pic_of, is_whole, sizes_judge, verdict_of}
use Rattle.tile_diff.specs.Request.{picture_of, row_of, rows_counted, no_counts, Asked, none, more, CanBeAsked, times_in, Right, RequestSeven}
use Rattle.tile_diff.specs.laws.Words.{words_length}
use Rattle.tile_diff.specs.Counts.{next_tile}
use Rattle.tile_diff.specs.Pictures.{places_counted}
use Rattle.tile_diff.specs.laws.Count.{some_columns, same, not-same, next_none}
use Rattle.tile_diff.specs.laws.Cases.{cases}
use Rattle.tile_diff.specs.laws.Picture.{counts, row_at, row_places, places_count, count_differs, many_none}
use Rattle.tile_diff.specs.laws.Listed.{lines_same, lines_none, times_once, shown_only, rising, asked_lines, found_from}
use Rattle.tile_diff.specs.declared.count.Line.{Line}
use Rattle.tile_diff.specs.declared.pic.Pic.{Pic}
use Rattle.tile_diff.specs.declared.pic.Verdict.TheVariants.{Bad, Size, Tiles}

-- ---- words of rows

words_take : (k : ℕ) (m : List ℕ) → words_of (take (2 * k) m) ≡ take k (words_of m)
unfolding words_of
words_take zero m = refl
words_take (suc k) m = let e : 2 * suc k ≡ suc (suc (2 * k)) = omega arith in rw e (by m (words_take k))
  where
    by : (m : List ℕ) → ((n : List ℕ) → words_of (take (2 * k) n) ≡ take k (words_of n)) → words_of (take (suc (suc (2 * k))) m) ≡ take (suc k) (words_of m)
    by [] r = refl
    by (a ∷ []) r = refl
    by (a ∷ b ∷ m) r = ap (λ (l : List ℕ). (a + 256 * b) ∷ l) (r m)

words_drop : (k : ℕ) (m : List ℕ) → words_of (drop (2 * k) m) ≡ drop k (words_of m)
unfolding words_of
words_drop zero m = refl
words_drop (suc k) m = let e : 2 * suc k ≡ suc (suc (2 * k)) = omega arith in rw e (by m (words_drop k))
  where
    by : (m : List ℕ) → ((n : List ℕ) → words_of (drop (2 * k) n) ≡ drop k (words_of n)) → words_of (drop (suc (suc (2 * k))) m) ≡ drop (suc k) (words_of m)
    by [] r = refl
    by (a ∷ []) r = refl
    by (a ∷ b ∷ m) r = r m

row_words : (m : List ℕ) (w y : ℕ) → words_of (row_of m w y) ≡ row_at (picture_of m) w y
unfolding row_of
row_words m w y = words_take w (drop (2 * (y * w)) (drop 4 m)) ∙ ap (take w) (words_drop (y * w) (drop 4 m))

-- ---- all rows

module _ (a b : List ℕ) (w h : ℕ) (cs : List ℕ) (p : h * w ≤ length (picture_of a)) (q : h * w ≤ length (picture_of b)) where
  pub rows_places : (n : ℕ) → n ≤ h → rows_counted a b w n cs ≡ places_counted (picture_of a) (picture_of b) w (n * w) cs
  unfolding rows_counted places_counted
  rows_places zero l = let e : 0 * w ≡ 0 = omega arith in rw e
  rows_places (suc n) l =
      let t : suc n * w ≤ h * w = mul-le-mul_right w l in
      let e : suc n * w ≡ n * w + w = omega arith in
      rw (row_words a w n, row_words b w n, rows_places n (omega arith), e)
      (row_places (picture_of a) (picture_of b) w n cs (omega arith) (omega arith))

-- ---- two files that are whole and of one size

pub record Sized (w h : ℕ) : Type 0 where
  pub wide : 1 ≤ w
  pub wider : w ≤ 4096
  pub some : 1 ≤ h
  pub high : h ≤ 2048

pub size_is : (w h : ℕ) → size_good w h ≡ true → Sized w h
unfolding size_good
size_is w h e =
    let a = held (leb 1 w) false _ true (λ z. cannot z) (sym e) in
    let b = held (leb w 4096) false _ true (λ z. cannot z) a.1 in
    let c = held (leb 1 h) false _ true (λ z. cannot z) b.1 in
    record { wide = leb-true 1 w a.0; wider = leb-true w 4096 b.0; some = leb-true 1 h c.0; high = leb-true h 2048 (sym c.1) }
  where
    cannot : true ≡ false → ⊥
    cannot z = let n : ◌≡◌ {A = ℕ} 0 1 = cc in omega arith

pub record Whole (m : List ℕ) (w h : ℕ) : Type 0 where
  pub sized : Sized w h
  pub size : length m ≡ 4 + 2 * (h * w)
  pub words : length (picture_of m) ≡ h * w

pub bytes_are : (m : List ℕ) → 1 ≤ (pic_of m).width → (pic_of m).bytes ≡ length m
unfolding pic_of ◌!◌⨾◌
bytes_are m = by (leb 4 (length m))
  where
    by : (t : Bool) → let p : Pic = t ! record { width = 0; height = 0; bytes = 0 } ⨾ record { width = le16 m 0; height = le16 m 2; bytes = length m } in
        1 ≤ p.width → p.bytes ≡ length m
    by true h = refl
    by false h = absurd (omega arith)

pub whole_is : (m : List ℕ) → is_whole (pic_of m) ≡ true → Whole m (pic_of m).width (pic_of m).height
unfolding is_whole
whole_is m e =
    let a = held (size_good (pic_of m).width (pic_of m).height) false _ true (λ z. let n : ◌≡◌ {A = ℕ} 0 1 = cc in omega arith) (sym e) in
    let s = size_is (pic_of m).width (pic_of m).height a.0 in
    let b : (pic_of m).bytes ≡ 4 + 2 * ((pic_of m).width * (pic_of m).height) = eqb-true _ _ (sym a.1) in
    let l = bytes_are m s.wide in
    let c = mul_comm (pic_of m).width (pic_of m).height in
    record { sized = s; size = omega arith; words = words_length (drop 4 m) ∙ rw (length-drop 4 m) (omega arith) }

pub record Both (a b : List ℕ) : Type 0 where
  pub first : Whole a (pic_of a).width (pic_of a).height
  pub second : Whole b (pic_of a).width (pic_of a).height

pub both-are : (a b : List ℕ) → verdict_of (pic_of a) (pic_of b) ≡ Tiles → Both a b
unfolding verdict_of sizes_judge
both-are a b e =
    let p = held (is_whole (pic_of a)) Bad _ Tiles (λ z. let n : ◌≡◌ {A = ℕ} 0 1 = cc in omega arith) (sym e) in
    let q = held (is_whole (pic_of b)) Bad _ Tiles (λ z. let n : ◌≡◌ {A = ℕ} 0 1 = cc in omega arith) p.1 in
    let r = held (eqb (pic_of a).width (pic_of b).width) Size _ Tiles (λ z. let n : ◌≡◌ {A = ℕ} 0 1 = cc in omega arith) q.1 in
    let s = held (eqb (pic_of a).height (pic_of b).height) Size _ Tiles (λ z. let n : ◌≡◌ {A = ℕ} 0 1 = cc in omega arith) r.1 in
    let w : (pic_of a).width ≡ (pic_of b).width = eqb-true _ _ r.0 in
    let h : (pic_of a).height ≡ (pic_of b).height = eqb-true _ _ s.0 in
    record { first = whole_is a p.0; second = rw (w, h) (whole_is b q.0) }

-- ---- the counts of the definition

pub few_tiles : (w h : ℕ) → Sized w h → tiles_over w * tiles_over h ≤ 2048
unfolding tiles_over
few_tiles w h s = mul-le-mul {n₂ = 64} {m₂ = 32} (omega arith) (omega arith)

pub few_words : (w h : ℕ) → Sized w h → h * w ≤ 8388608
few_words w h s = mul-le-mul {n₂ = 2048} {m₂ = 4096} s.high s.wider

pub some_tiles : (w : ℕ) → 1 ≤ w → 0 < tiles_over w
unfolding tiles_over
some_tiles w h = omega arith

module _ (a b : List ℕ) (w h : ℕ) (p : Whole a w h) (q : Whole b w h) where
  pub count_is :
      (k : ℕ)
      → k < tiles_over w * tiles_over h
      → get_or (rows_counted a b w h no_counts) k 0 ≡ differs (picture_of a) (picture_of b) w h (k % tiles_over w) (k / tiles_over w)
  count_is k l =
      let ps = picture_of a in
      let qs = picture_of b in
      let t = few_tiles w h p.sized in
      let n = few_words w h p.sized in
      let u : 0 < tiles_over w = some_tiles w p.sized.wide in
      ap (λ (cs : List ℕ). get_or cs k 0) (rows_places a b w h no_counts (omega (arith, p.words)) (omega (arith, q.words)) h (omega arith))
      ∙ places_count ps qs w no_counts k (omega (arith, length-replicate {A = ℕ} 2048 0)) (get_or-replicate {A = ℕ} 2048 k 0 0 (omega arith)) (h * w)
      (omega arith)
      ∙ ap (λ (j : ℕ). how_many (counts ps qs w j) (h * w)) (sym (div-add-mod' k (tiles_over w)))
      ∙ count_differs ps qs w h (k % tiles_over w) (k / tiles_over w) p.sized.wide (mod-lt k u)

  pub counted_lines :
      lines_of (λ j. get_or (rows_counted a b w h no_counts) j 0) (tiles_over w) (tiles_over w * tiles_over h) 0 ≡ listed (picture_of a) (picture_of b) w h
  unfolding listed
  counted_lines = lines_same _ _ (tiles_over w) (tiles_over w * tiles_over h) 0 (λ j l. count_is j (omega arith))

  pub lines_are : (ls : List Line) → Asked (rows_counted a b w h no_counts) w h 0 ls → ls ≡ listed (picture_of a) (picture_of b) w h
  lines_are ls r =
      let all = tiles_over w * tiles_over h in
      let e : all - 0 ≡ all = omega arith in
      asked_lines (rows_counted a b w h no_counts) w h 0 ls (omega arith) r
      ∙ ap (λ (m : ℕ). lines_of (λ j. get_or (rows_counted a b w h no_counts) j 0) (tiles_over w) m 0) e
      ∙ counted_lines

-- ---- the lines of the definition

listed_once :
    (ps qs : List ℕ) (w h x y : ℕ) → x < tiles_over w → y < tiles_over h → times_in x y (listed ps qs w h) ≡ (ltb 0 (differs ps qs w h x y) ⇒ 1 ∣ 0)
unfolding listed
listed_once ps qs w h x y p q =
    let c = tiles_over w in
    let l : y * c + x < tiles_over h * c = digits_lt q p in
    let m = mul_comm c (tiles_over h) in
    times_once (λ k. differs ps qs w h (k % c) (k / c)) c x y p (c * tiles_over h) 0 (omega arith) (omega arith)
    ∙ ap (λ (n : ℕ). ltb 0 n ⇒ 1 ∣ 0)
    (ap (λ (u : ℕ). differs ps qs w h u ((y * c + x) / c)) (digits_mod y p) ∙ ap (differs ps qs w h x) (digits_div y p))

listed_only : (ps qs : List ℕ) (w h : ℕ) (l : Line) → Memᴰ l (listed ps qs w h) → Right ps qs w h l
unfolding listed
listed_only ps qs w h l i =
    let c = tiles_over w in
    let s = shown_only (λ k. differs ps qs w h (k % c) (k / c)) c (c * tiles_over h) 0 l i in
    let j : ℕ = s.number in
    let u : 0 < c = some_columns j c (tiles_over h) (omega (arith, s.below)) in
    let m = mul_comm c (tiles_over h) in
    subst⁻¹ (Right ps qs w h) s.line
    (record { column = mod-lt j u; row = (div-lt_iff_lt-mul u).1 (omega (arith, s.below)); count = refl; some = s.some })

nothing : (u v t : Bool) → t ≡ false → (u ! false ⨾ v ! false ⨾ t) ≡ false
unfolding ◌!◌⨾◌
nothing true true t e = e
nothing true false t e = refl
nothing false v t e = refl

none_differs : (ps : List ℕ) (w h x y : ℕ) → differs ps ps w h x y ≡ 0
unfolding differs differs_at
none_differs ps w h x y =
    many_none _ (λ i. nothing (eqb (i % w / 64) x) (eqb (i / w / 64) y) _ (same {a = get_or ps i 0} {b = get_or ps i 0} refl refl refl)) (h * w)

listed_equal : (ps : List ℕ) (w h : ℕ) → listed ps ps w h ≡ []
unfolding listed
listed_equal ps w h = lines_none _ (tiles_over w) (tiles_over w * tiles_over h) 0 (λ j. none_differs ps w h (j % tiles_over w) (j / tiles_over w))

-- ---- what is judged

pub bad_first : (p q : Pic) → (is_whole p ≡ false) ⊎ (is_whole q ≡ false) → verdict_of p q ≡ Bad
unfolding verdict_of ◌!◌⨾◌
bad_first p q r = ⊎_elim (λ e. rw e) (λ e. rw e (by (is_whole p))) r
  where
    by : (t : Bool) → (t ! Bad ⨾ Bad) ≡ Bad
    by true = refl
    by false = refl

module _ (p q : Pic) (e : is_whole p ≡ true) (f : is_whole q ≡ true) where
  pub other_size : ((p.width ≡ q.width) × (p.height ≡ q.height) → ⊥) → verdict_of p q ≡ Size
  unfolding verdict_of sizes_judge ◌!◌⨾◌
  other_size d = rw (e, f) (by (eqb p.width q.width) (eqb p.height q.height) refl refl)
    where
      by : (t u : Bool) → eqb p.width q.width ≡ t → eqb p.height q.height ≡ u → (t ! Size ⨾ u ! Size ⨾ Tiles) ≡ Size
      by true true a b = absurd (d (eqb-true p.width q.width a, eqb-true p.height q.height b))
      by true false a b = refl
      by false u a b = refl

  pub same_size : p.width ≡ q.width → p.height ≡ q.height → verdict_of p q ≡ Tiles
  unfolding verdict_of sizes_judge ◌!◌⨾◌
  same_size a b = rw (e, f, eq-eqb p.width q.width a, eq-eqb p.height q.height b)

-- ---- the top left word

-- a test that only place 0 can meet
many_first : (t : ℕ → Bool) → ((i : ℕ) → t (suc i) ≡ false) → (n : ℕ) → how_many t (suc n) ≡ (t 0 ⇒ 1 ∣ 0)
unfolding how_many ◌⇒◌∣◌
many_first t e zero = omega arith
many_first t e (suc n) = rw (e n, many_first t e n) (omega arith)

lines_none_from : (f : ℕ → ℕ) (c m k : ℕ) → ((j : ℕ) → k ≤ j → f j ≡ 0) → lines_of f c m k ≡ []
unfolding lines_of ◌⇒◌∣◌
lines_none_from f c zero k e = refl
lines_none_from f c (suc m) k e = rw (e k (omega arith)) (lines_none_from f c m (k + 1) (λ j h. e j (omega arith)))

module _ (p q : ℕ) (ws : List ℕ) (w h : ℕ) (wide : 1 ≤ w) (high : 1 ≤ h) (d : p ≡ q → ⊥) where
  -- how often the top left word counts for a tile
  abbrev once : ℕ → ℕ → ℕ
  once x y = (eqb 0 x ! false ⨾ eqb 0 y ! false ⨾ true) ⇒ 1 ∣ 0

  corner : (x y : ℕ) → differs (p ∷ ws) (q ∷ ws) w h x y ≡ once x y
  unfolding differs differs_at
  corner x y =
      let m : 1 * 1 ≤ h * w = mul-le-mul {n₂ = h} {m₂ = w} high wide in
      let s : h * w ≡ suc (h * w - 1) = omega arith in
      rw s
      (many_first (differs_at (p ∷ ws) (q ∷ ws) w x y)
      (λ i. nothing (eqb (suc i % w / 64) x) (eqb (suc i / w / 64) y) _ (same {a = get_or ws i 0} {b = get_or ws i 0} refl refl refl)) (h * w - 1)
      ∙ rw (zero-mod w, zero-div w, not-same {a = p} {b = q} refl refl d))

  -- for tile 0 once, and for no other
  at_first : (c : ℕ) → once (0 % c) (0 / c) ≡ 1
  unfolding ◌!◌⨾◌ ◌⇒◌∣◌
  at_first c = rw (zero-mod c, zero-div c)

  at_others : (c j : ℕ) → 1 ≤ j → once (j % c) (j / c) ≡ 0
  unfolding ◌!◌⨾◌ ◌⇒◌∣◌
  at_others c j l = by (eqb 0 (j % c)) (eqb 0 (j / c)) refl refl
    where
      by : (t u : Bool) → eqb 0 (j % c) ≡ t → eqb 0 (j / c) ≡ u → ◌≡◌ {A = ℕ} ((t ! false ⨾ u ! false ⨾ true) ⇒ 1 ∣ 0) 0
      by true true a b =
          let m : 0 ≡ j % c = eqb-true 0 (j % c) a in
          let n : 0 ≡ j / c = eqb-true 0 (j / c) b in
          let z : 0 * c + 0 ≡ j = rw (sym m, sym n) at (div-add-mod' j c) in
          absurd (omega arith)
      by true false a b = refl
      by false u a b = refl

  pub top_left_line : listed (p ∷ ws) (q ∷ ws) w h ≡ record { x = 0; y = 0; n = 1 } ∷ []
  unfolding listed lines_of ◌⇒◌∣◌
  top_left_line =
      let c = tiles_over w in
      let f : ℕ → ℕ = λ k. differs (p ∷ ws) (q ∷ ws) w h (k % c) (k / c) in
      let m : 1 * 1 ≤ c * tiles_over h = mul-le-mul {n₂ = c} {m₂ = tiles_over h} (some_tiles w wide) (some_tiles h high) in
      let s : c * tiles_over h ≡ suc (c * tiles_over h - 1) = omega arith in
      let first : f 0 ≡ 1 = corner (0 % c) (0 / c) ∙ at_first c in
      let others = lines_none_from f c (c * tiles_over h - 1) 1 (λ j l. corner (j % c) (j / c) ∙ at_others c j l) in
      rw (s, first, others, zero-mod c, zero-div c)

-- ---- the premises of `lines` can be met: whoever asks comes to an end, whatever the counts

pub record Answers (cs : List ℕ) (w h k : ℕ) : Type 0 where
  pub ls : List Line
  pub asked : Asked cs w h k ls

module _ (cs : List ℕ) (w h : ℕ) where
  ask : (n k : ℕ) → tiles_over w * tiles_over h - k ≤ n → Answers cs w h k
  unfolding next_tile
  ask zero k l =
      let e : tiles_over w * tiles_over h - k ≡ 0 = omega arith in
      record { ls = []; asked = none (sym (next_none cs (tiles_over w) (tiles_over w * tiles_over h - k) k e)) }
  ask (suc n) k l = by (next_tile cs w h k) refl (λ j m. ask n (j + 1) m)
    where
      by : (x : Option (ℕ × Line)) → next_tile cs w h k ≡ x → ((j : ℕ) → tiles_over w * tiles_over h - (j + 1) ≤ n → Answers cs w h (j + 1)) → Answers cs w h k
      by None e r = record { ls = []; asked = none e }
      by (Some (j, m)) e r =
          let f : k ≤ j = found_from cs (tiles_over w) (tiles_over w * tiles_over h - k) k j m e in
          let i = r j (omega arith) in
          record { ls = m ∷ i.ls; asked = more e i.asked }

-- a word of each that differs
one_word : CanBeAsked
one_word =
    let a : List ℕ = 1 ∷ 0 ∷ 1 ∷ 0 ∷ 1 ∷ 2 ∷ [] in
    let b : List ℕ = 1 ∷ 0 ∷ 1 ∷ 0 ∷ 3 ∷ 4 ∷ [] in
    let w = (pic_of a).width in let h = (pic_of a).height in
    let i = ask (rows_counted a b w h no_counts) w h (tiles_over w * tiles_over h - 0) 0 (omega arith) in
    record { a = a; b = b; tiles = cases.tiles; ls = i.ls; asked = i.asked }

pub request_seven : RequestSeven
unfolding listed
request_seven =
    record {
      bad-before-size = bad_first;
      different_sizes = other_size;
      one_size = same_size;
      can_be_asked = one_word;
      top_left = top_left_line;
      lines = λ a b ls e r. lines_are a b (pic_of a).width (pic_of a).height (both-are a b e).first (both-are a b e).second ls r;
      once = listed_once;
      only = listed_only;
      row_by_row = λ ps qs w h. rising (λ k. differs ps qs w h (k % tiles_over w) (k / tiles_over w)) (tiles_over w) (tiles_over w * tiles_over h) 0;
      equal = listed_equal;
    }
