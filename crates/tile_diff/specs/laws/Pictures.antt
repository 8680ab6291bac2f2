-- Laws on two whole pictures: what is judged of what is lent, place after place, and that the counts and the lines are request Seven's.
use Rattle.std.specs.Prelude.{ℕ, zero, suc, ◌+◌, ◌*◌, ◌-◌, ◌/◌, ◌%◌, ◌≤◌, ◌<◌, ◌≡◌, refl, Bool, List, replicate, leb}
use Rattle.std.proofs.Math.Path.{ap}
use Rattle.std.proofs.Common.{sym, ◌∙◌, add-one, mod-lt, mul-le-mul, div-le_self, div-add-mod', leb-true}
use native.Mathlib.Omega.{arith}
use Rattle.std.proofs.Math.ListN.{length, get_or, length-replicate}
use Rattle.std.proofs.lemmas.List.{get_or-replicate}
use Rattle.session.specs.Header.{tiles_over, size_good}
use Rattle.whole.specs.laws.Row.{held}
use Rattle.tile_diff.specs.Tiles.{not_same, how_many, differs, lines_of, listed}
use Rattle.tile_diff.specs.Counts.{counted_if}
use Rattle.tile_diff.specs.Request.{Asked}
use Rattle.tile_diff.specs.Pictures.{tile_at, places_counted, lent_fault, tiles_fault, counts_left, GlassesCounted}
use Rattle.tile_diff.specs.laws.Picture.{counts, places_count, count_differs}
use Rattle.tile_diff.specs.laws.Listed.{lines_same, asked_lines}
use Rattle.tile_diff.specs.laws.Request.{Sized, size_is, few_words, some_tiles}
use Rattle.tile_diff.specs.declared.count.Line.{Line}

-- ---- what is lent

pub record Lent (w h a b c : ℕ) : Type 0 where
  pub sized : Sized w h
  pub first : h * w ≤ a
  pub second : h * w ≤ b
  pub tiles : tiles_over w * tiles_over h ≤ c

pub lent_is : (w h a b c : ℕ) → tiles_fault w h a b c ≡ 0 → Lent w h a b c
unfolding tiles_fault lent_fault
lent_is w h a b c e =
    let p = held (size_good w h) 5 _ 0 (λ z. omega arith) (sym e) in
    let q = held (leb (h * w) a) 2 _ 0 (λ z. omega arith) p.1 in
    let r = held (leb (h * w) b) 2 _ 0 (λ z. omega arith) q.1 in
    let s = held (leb (tiles_over w * tiles_over h) c) 13 0 0 (λ z. omega arith) r.1 in
    record { sized = size_is w h p.0; first = leb-true _ _ q.0; second = leb-true _ _ r.0; tiles = leb-true _ _ s.0 }

-- a product of two numbers of tiles, and the number of a tile, are small
pub few_over : (w h : ℕ) → w ≤ 4096 → h ≤ 2048 → (w + 63) / 64 * ((h + 63) / 64) ≤ 2048
few_over w h p q = mul-le-mul {n₂ = 64} {m₂ = 32} (omega arith) (omega arith)

pub row_small : (w i : ℕ) → w ≤ 4096 → i ≤ 8388608 → i / w / 64 * ((w + 63) / 64) ≤ 8388608
row_small w i p q = let d = div-le_self i w in mul-le-mul {n₂ = 131072} {m₂ = 64} (omega arith) (omega arith)

-- ---- the counts at exit

pub left_refused : (f : ℕ) (ps qs : List ℕ) (w h : ℕ) (cs : List ℕ) → (f ≡ 0 → ⊥) → cs ≡ counts_left f ps qs w h cs
unfolding counts_left
left_refused zero ps qs w h cs n = absurd (n refl)
left_refused (suc f) ps qs w h cs n = refl

pub left_done :
    (f : ℕ) (ps qs : List ℕ) (w h : ℕ) (cs zs to : List ℕ)
    → f ≡ 0
    → zs ≡ replicate (length cs) 0
    → to ≡ places_counted ps qs w (h * w) zs
    → to ≡ counts_left f ps qs w h cs
unfolding counts_left
left_done zero ps qs w h cs zs to e z p = p ∙ ap (places_counted ps qs w (h * w)) z
left_done (suc f) ps qs w h cs zs to e z p = absurd (omega arith)

-- ---- place after place

pub places_none : (ps qs : List ℕ) (w : ℕ) (cs : List ℕ) → cs ≡ places_counted ps qs w 0 cs
unfolding places_counted
places_none ps qs w cs = refl

pub places_next :
    (ps qs : List ℕ) (w i : ℕ) (d : Bool) (k : ℕ) (from to cs : List ℕ)
    → d ≡ not_same (get_or ps i 0) (get_or qs i 0)
    → k ≡ tile_at w i
    → to ≡ counted_if d k from
    → from ≡ places_counted ps qs w i cs
    → to ≡ places_counted ps qs w (i + 1) cs
unfolding places_counted
places_next ps qs w i d k from to cs n t e f = rw add-one (e ∙ ap (counted_if d k) f ∙ rw (n, t))

pub places_done :
    (ps qs : List ℕ) (w i n : ℕ) (to cs : List ℕ) → i ≡ n → to ≡ places_counted ps qs w i cs → to ≡ places_counted ps qs w n cs
places_done ps qs w i n to cs e f = f ∙ ap (λ (m : ℕ). places_counted ps qs w m cs) e

-- ---- they are request Seven's

module _ (ps qs cs : List ℕ) (w h : ℕ) (e : tiles_fault w h (length ps) (length qs) (length cs) ≡ 0) where
  counts_are : (k : ℕ) → k < tiles_over w * tiles_over h → get_or (counts_left 0 ps qs w h cs) k 0 ≡ differs ps qs w h (k % tiles_over w) (k / tiles_over w)
  unfolding counts_left
  counts_are k l =
      let t = lent_is w h (length ps) (length qs) (length cs) e in
      let b : k < length cs = omega (arith, t.tiles) in
      let n = few_words w h t.sized in
      let u : 0 < tiles_over w = some_tiles w t.sized.wide in
      places_count ps qs w (replicate (length cs) 0) k (omega (arith, length-replicate {A = ℕ} (length cs) 0)) (get_or-replicate {A = ℕ} (length cs) k 0 0 b)
      (h * w) (omega arith)
      ∙ ap (λ (j : ℕ). how_many (counts ps qs w j) (h * w)) (sym (div-add-mod' k (tiles_over w)))
      ∙ count_differs ps qs w h (k % tiles_over w) (k / tiles_over w) t.sized.wide (mod-lt k u)

  lines_are : (ls : List Line) → Asked (counts_left 0 ps qs w h cs) w h 0 ls → ls ≡ listed ps qs w h
  unfolding listed
  lines_are ls r =
      let all = tiles_over w * tiles_over h in
      let z : all - 0 ≡ all = omega arith in
      asked_lines (counts_left 0 ps qs w h cs) w h 0 ls (omega arith) r
      ∙ ap (λ (m : ℕ). lines_of (λ j. get_or (counts_left 0 ps qs w h cs) j 0) (tiles_over w) m 0) z
      ∙ lines_same _ _ (tiles_over w) all 0 (λ j l. counts_are j (omega arith))

pub glasses_counted : GlassesCounted
glasses_counted = record { counts = λ ps qs cs w h k e l. counts_are ps qs cs w h e k l; lines = λ ps qs cs w h ls e r. lines_are ps qs cs w h e ls r }
