-- Laws on the counts of a row: what the functions of `count` do, step by step.
use Rattle.std.specs.Prelude.{ℕ, zero, suc, ◌+◌, ◌*◌, ◌-◌, ◌/◌, ◌≤◌, ◌<◌, ◌≡◌, refl, Bool, true, false, List, length, get_or, set, ltb, min, Some, None}
use Rattle.std.proofs.Common.{ap, sym, ◌∙◌, arith, add-one, mul-le-mul, length-set, lt-ltb, le-ltb}
use Rattle.std.proofs.Math.ListN.{get_or-eq_default}
use Rattle.std.proofs.Math.Decide.{dec_lt}
use Rattle.std.proofs.Math.Seq.{set_out}
use Rattle.std.proofs.lemmas.List.{set-get_or}
use Rattle.wire.specs.Le.{le16}
use Rattle.whole.specs.Row.{◌!◌⨾◌, ◌⇒◌∣◌}
use Rattle.whole.specs.laws.Row.{passes, fails, case_yes, case_no, ne_is, eq_is}
use Rattle.session.specs.Header.{tiles_over}
use Rattle.tile_diff.specs.Tiles.{words_of, not_same, line_of}
use Rattle.tile_diff.specs.Counts.{one_more, counted_if, columns_counted, next_of, next_tile}
use Rattle.tile_diff.specs.laws.Words.{word_at}
use Rattle.tile_diff.specs.declared.count.Line.{Line}

-- numbers of tiles are small
pub small_product : {a b : ℕ} → a ≤ 1024 → b ≤ 1024 → a * b ≤ 1048576
small_product p q = mul-le-mul {n₂ = 1024} {m₂ = 1024} p q

-- where there is a tile there is a column
pub some_columns : (k a b : ℕ) → k < a * b → 1 ≤ a
some_columns k zero b h = absurd (omega arith)
some_columns k (suc a) b h = omega arith

-- the count over a pixel, by the number of columns that a call gave
pub count-over :
    (cs : List ℕ) (w x y columns : ℕ) {n : ℕ}
    → columns ≡ tiles_over w
    → n ≡ get_or cs (y / 64 * columns + x / 64) 0
    → n ≡ get_or cs (y / 64 * tiles_over w + x / 64) 0
count-over cs w x y columns c e = e ∙ ap (λ (k : ℕ). get_or cs (y / 64 * k + x / 64) 0) c

-- ---- one more

pub more_in : (cs : List ℕ) (k : ℕ) → get_or cs k 0 < 4294967295 → set cs k (get_or cs k 0 + 1) ≡ one_more k cs
unfolding one_more
more_in cs k h = passes _ _ _ _ (lt-ltb _ _ h) refl

pub more_full : (cs : List ℕ) (k : ℕ) → 4294967295 ≤ get_or cs k 0 → cs ≡ one_more k cs
unfolding one_more
more_full cs k h = fails _ _ _ _ (le-ltb _ _ h) refl

pub more_out : (cs : List ℕ) (k : ℕ) → length cs ≤ k → cs ≡ one_more k cs
more_out cs k h =
    let z : get_or cs k 0 ≡ 0 = get_or-eq_default cs 0 h in
    sym (set_out cs k (get_or cs k 0 + 1) h) ∙ more_in cs k (omega arith)

-- the count held at the largest
pub more_held : (cs : List ℕ) (k : ℕ) → get_or cs k 0 ≤ 4294967295 → set cs k (min (get_or cs k 0 + 1) 4294967295) ≡ one_more k cs
more_held cs k l = by (dec_lt (get_or cs k 0) 4294967295)
  where
    by : Dec (get_or cs k 0 < 4294967295) → set cs k (min (get_or cs k 0 + 1) 4294967295) ≡ one_more k cs
    by (yes h) = let e : min (get_or cs k 0 + 1) 4294967295 ≡ get_or cs k 0 + 1 = omega arith in rw e (more_in cs k h)
    by (no h) =
        let e : min (get_or cs k 0 + 1) 4294967295 ≡ get_or cs k 0 = omega arith in
        rw e (set-get_or cs k 0 ∙ more_full cs k (omega arith))

pub more_length : (k : ℕ) (cs : List ℕ) → length (one_more k cs) ≡ length cs
unfolding one_more ◌!◌⨾◌
more_length k cs = by (ltb (get_or cs k 0) 4294967295)
  where
    by : (t : Bool) → length (t ! cs ⨾ set cs k (get_or cs k 0 + 1)) ≡ length cs
    by true = length-set cs k _
    by false = refl

pub counted_length : (t : Bool) (k : ℕ) (cs : List ℕ) → length (counted_if t k cs) ≡ length cs
unfolding counted_if ◌⇒◌∣◌
counted_length true k cs = more_length k cs
counted_length false k cs = refl

-- two words that calls gave, compared
pub not-same : {a a' b b' : ℕ} → a ≡ a' → b ≡ b' → (a ≡ b → ⊥) → not_same a' b' ≡ true
unfolding not_same
not-same p q h = sym (case_no _ _ _ _ (ne_is p q h) refl)

pub same : {a a' b b' : ℕ} → a ≡ a' → b ≡ b' → a ≡ b → not_same a' b' ≡ false
unfolding not_same
same p q h = sym (case_yes _ _ _ _ (eq_is p q h) refl)

-- ---- the columns of a row

pub columns_length : (ps qs : List ℕ) (w y n : ℕ) (cs : List ℕ) → length (columns_counted ps qs w y n cs) ≡ length cs
unfolding columns_counted
columns_length ps qs w y zero cs = refl
columns_length ps qs w y (suc n) cs = counted_length _ _ (columns_counted ps qs w y n cs) ∙ columns_length ps qs w y n cs

pub columns_none : (ps qs : List ℕ) (w y : ℕ) (cs : List ℕ) → cs ≡ columns_counted ps qs w y 0 cs
unfolding columns_counted
columns_none ps qs w y cs = refl

-- one column more, from the bytes of the two rows
pub columns_next :
    (a b : List ℕ) (w y x columns : ℕ) (from to cs : List ℕ)
    → columns ≡ tiles_over w
    → 2 * x + 2 ≤ length a
    → 2 * x + 2 ≤ length b
    → to ≡ counted_if (not_same (le16 a (2 * x)) (le16 b (2 * x))) (y / 64 * columns + x / 64) from
    → from ≡ columns_counted (words_of a) (words_of b) w y x cs
    → to ≡ columns_counted (words_of a) (words_of b) w y (x + 1) cs
unfolding columns_counted
columns_next a b w y x columns from to cs c l m e f =
    rw add-one
    (e ∙ ap (λ (ds : List ℕ). counted_if (not_same (le16 a (2 * x)) (le16 b (2 * x))) (y / 64 * columns + x / 64) ds) f
    ∙ rw (c, word_at a x l, word_at b x m))

pub columns_done : (ps qs : List ℕ) (w y x : ℕ) (to cs : List ℕ) → x ≡ w → to ≡ columns_counted ps qs w y x cs → to ≡ columns_counted ps qs w y w cs
columns_done ps qs w y x to cs e f = f ∙ ap (λ (n : ℕ). columns_counted ps qs w y n cs) e

-- ---- the next tile

pub next_none : (cs : List ℕ) (columns m k : ℕ) → m ≡ 0 → None ≡ next_of cs columns m k
unfolding next_of
next_none cs columns m k e = rw e

-- the tile at k differs
pub next_here : (cs : List ℕ) (columns all k : ℕ) → k < all → 0 < get_or cs k 0 → Some (k, line_of columns k (get_or cs k 0)) ≡ next_of cs columns (all - k) k
unfolding next_of
next_here cs columns all k h p =
    let e : all - k ≡ suc (all - (k + 1)) = omega arith in
    rw e (case_yes _ _ _ _ (lt-ltb _ _ p) refl)

pub next_past : (cs : List ℕ) (columns all k : ℕ) → k < all → get_or cs k 0 ≤ 0 → next_of cs columns (all - (k + 1)) (k + 1) ≡ next_of cs columns (all - k) k
unfolding next_of
next_past cs columns all k h p =
    let e : all - k ≡ suc (all - (k + 1)) = omega arith in
    rw e (case_no _ _ _ _ (le-ltb _ _ p) refl)

pub next_found :
    (cs : List ℕ) (columns all k : ℕ) {n : ℕ} {l : Line}
    → k < all
    → 0 < n
    → n ≡ get_or cs k 0
    → l ≡ line_of columns k n
    → Some (k, l) ≡ next_of cs columns (all - k) k
next_found cs columns all k h p e f =
    ap (λ (l : Line). Some (k, l)) (f ∙ ap (line_of columns k) e) ∙ next_here cs columns all k h (rw e at p)

-- the walk of `next_tile` from its first tile on
pub next_from :
    (cs : List ℕ) (w h from columns rows : ℕ)
    → columns ≡ tiles_over w
    → rows ≡ tiles_over h
    → next_of cs columns (columns * rows - from) from ≡ next_tile cs w h from
unfolding next_tile
next_from cs w h from columns rows c r = rw (c, r)
