-- What reads of two .pic files come to, step by step.
use Rattle.std.specs.Prelude.{ℕ, suc, ◌+◌, ◌*◌, ◌-◌, ◌≤◌, ◌<◌, refl, Bool, List, ◌++◌, ℤ, leb, eqb, length, take, drop}
use Rattle.std.proofs.Math.Path.{◌≡◌, ap, sym}
use Rattle.std.proofs.Common.{subst, ◌∙◌, arith, add-one, mul-le-mul, mul-le-mul_right, length-take, length-drop, length-append, take_all, get_or-take}
use Rattle.std.proofs.Common.{drop-drop, length-take-le}
use Rattle.std.proofs.Math.Bool.{true, false}
use Rattle.std.proofs.lemmas.List.{take-append-le}
use borrow.Author.Tests.{le-leb, leb-true, leb-false, eqb-true, eqb-false, eq-eqb, ne_eqb}
use Rattle.wire.specs.Le.{le16}
use Rattle.whole.specs.Row.{◌!◌⨾◌}
use Rattle.whole.specs.laws.Row.{passes, held}
use Rattle.session.specs.Header.{size_good}
use Rattle.tile_diff.specs.Tiles.{words_of, listed}
use Rattle.tile_diff.specs.Text.{text_of, printed}
use Rattle.tile_diff.specs.Pic.{pic_of, is_whole, sizes_judge, verdict_of}
use Rattle.tile_diff.specs.Counts.{row_counted}
use Rattle.tile_diff.specs.Request.{picture_of, row_of, rows_counted, no_counts}
use Rattle.tile_diff.specs.laws.Request.{Sized, size_is, bytes_are, whole_is, both-are, counted_lines}
use Rattle.tile_diff.specs.declared.pic.Pic.{Pic}
use Rattle.tile_diff.specs.declared.pic.Verdict.{Verdict}
use Rattle.tile_diff.specs.declared.pic.Verdict.TheVariants.{Bad, Size, Tiles}
use Rattle.app_text.specs.First.{first_of}
use Rattle.app_compare.specs.declared.files.Seen.{Seen}
use Rattle.app_compare.specs.Text.{lines_in, Texted}
use Rattle.app_compare.specs.Files.{end_of, with_end, Like, rows_whole, RowDone, RowsDone, Has, counts_of, after_rows, FilesRead}
use Rattle.app_compare.specs.Files.{ReadAt, HeadRead, EndRead, Looked, RowRead, RowCounted, RowsCounted, BothRead, Answered}
use Rattle.app_compare.specs.Outside.{Gave, Opened}
use Rattle.app_compare.specs.Told.{Files, Told}
use Rattle.app_compare.specs.laws.Told.{told_all, told_read, told_map, told_two}

-- ---- the bytes that came

pub first_take : (s : List ℕ) (n : ℕ) → n ≤ length s → first_of s n ≡ take n s
unfolding first_of
first_take s n h = sym (passes _ _ _ _ (le-leb n (length s) h) refl)

pub first_length : (s : List ℕ) (n : ℕ) → n ≤ length s → length (first_of s n) ≡ n
first_length s n h = ap length (first_take s n h) ∙ length-take-le n s h

-- a place in a picture is a small number
pub area : (w h : ℕ) → w < 65536 → h < 65536 → w * h ≤ 4294836225
area w h p q = mul-le-mul {n₂ = 65535} {m₂ = 65535} (omega arith) (omega arith)

-- ---- head and end

head_width : (f : List ℕ) → (pic_of (take 4 f)).width ≡ (pic_of f).width
unfolding pic_of le16 ◌!◌⨾◌
head_width f = by (leb 4 (length f)) refl
  where
    by : (t : Bool) → leb 4 (length f) ≡ t → (pic_of (take 4 f)).width ≡ (pic_of f).width
    by true e =
        let h : 4 ≤ length f = leb-true 4 (length f) e in
        let l : length (take 4 f) ≡ 4 = length-take-le 4 f h in
        rw (l, e, get_or-take 4 f 0 0 (omega arith), get_or-take 4 f 1 0 (omega arith))
    by false e =
        let h : length f < 4 = leb-false 4 (length f) e in
        ap (λ (m : List ℕ). (pic_of m).width) (take_all 4 f (omega arith))

head_height : (f : List ℕ) → (pic_of (take 4 f)).height ≡ (pic_of f).height
unfolding pic_of le16 ◌!◌⨾◌
head_height f = by (leb 4 (length f)) refl
  where
    by : (t : Bool) → leb 4 (length f) ≡ t → (pic_of (take 4 f)).height ≡ (pic_of f).height
    by true e =
        let h : 4 ≤ length f = leb-true 4 (length f) e in
        let l : length (take 4 f) ≡ 4 = length-take-le 4 f h in
        rw (l, e, get_or-take 4 f 2 0 (omega arith), get_or-take 4 f 3 0 (omega arith))
    by false e =
        let h : length f < 4 = leb-false 4 (length f) e in
        ap (λ (m : List ℕ). (pic_of m).height) (take_all 4 f (omega arith))

true_false : true ≡ false → ⊥
true_false z = let n : ◌≡◌ {A = ℕ} 0 1 = cc in omega arith

tiles_bad : Tiles ≡ Bad → ⊥
tiles_bad z = let n : ◌≡◌ {A = ℕ} 0 1 = cc in omega arith

eqb_alike : (a b c d : ℕ) → (a ≡ b → c ≡ d) → (c ≡ d → a ≡ b) → eqb a b ≡ eqb c d
eqb_alike a b c d f g = by (eqb c d) refl
  where
    by : (t : Bool) → eqb c d ≡ t → eqb a b ≡ t
    by true e = eq-eqb a b (g (eqb-true c d e))
    by false e = ne_eqb a b (λ q. eqb-false c d e (f q))

-- a size that 01 refuses: neither is whole
pub like_head : (f : List ℕ) (p : Pic) → p ≡ pic_of (take 4 f) → size_good p.width p.height ≡ false → Like p (pic_of f)
unfolding is_whole ◌!◌⨾◌
like_head f p e g =
    let a : p.width ≡ (pic_of f).width = ap (λ (x : Pic). x.width) e ∙ head_width f in
    let b : p.height ≡ (pic_of f).height = ap (λ (x : Pic). x.height) e ∙ head_height f in
    record { width = a; height = b; whole = rw (← a, ← b, g) }

-- one that it takes, with the end: whole alike
pub like_end :
    (f : List ℕ) (p r : Pic)
    → p ≡ pic_of (take 4 f)
    → size_good p.width p.height ≡ true
    → r ≡ with_end p (length (take 2 (drop (end_of p) f)))
    → Like r (pic_of f)
unfolding is_whole ◌!◌⨾◌
like_end f p r e g i =
    let end = end_of p in
    let a : p.width ≡ (pic_of f).width = ap (λ (x : Pic). x.width) e ∙ head_width f in
    let b : p.height ≡ (pic_of f).height = ap (λ (x : Pic). x.height) e ∙ head_height f in
    let s = size_is p.width p.height g in
    let l : (pic_of f).bytes ≡ length f = bytes_are f (omega (arith, s.wide)) in
    let n = length-take 2 (drop end f) in
    let m = length-drop end f in
    let same : eqb (end + length (take 2 (drop end f))) (4 + 2 * (p.width * p.height)) ≡ eqb (length f) (4 + 2 * (p.width * p.height)) =
    eqb_alike (end + length (take 2 (drop end f))) (4 + 2 * (p.width * p.height)) (length f) (4 + 2 * (p.width * p.height)) (λ q. omega arith)
    (λ q. omega arith) in
    record {
      width = ap (λ (x : Pic). x.width) i ∙ a;
      height = ap (λ (x : Pic). x.height) i ∙ b;
      whole = rw (i, ← a, ← b, g, l) same;
    }

pub like_verdict : (p q p' q' : Pic) → Like p p' → Like q q' → verdict_of p q ≡ verdict_of p' q'
unfolding verdict_of sizes_judge
like_verdict p q p' q' a b = rw (a.whole, b.whole, a.width, a.height, b.width, b.height)

-- ---- rows

-- a row is what stands at its place
pub row-place : (f : List ℕ) (w y : ℕ) → take (2 * w) (drop (4 + 2 * (y * w)) f) ≡ row_of f w y
unfolding row_of
row-place f w y = ap (take (2 * w)) (sym (drop-drop (2 * (y * w)) 4 f))

pub row_done :
    (w y : ℕ) (fa fb from to a b : List ℕ) (r : Bool)
    → a ≡ row_of fa w y
    → b ≡ row_of fb w y
    → to ≡ row_counted (words_of a) (words_of b) w y from
    → r ≡ rows_whole w a b
    → RowDone w y fa fb from to r
row_done w y fa fb from to a b r e f c s =
    record {
      counts =
          c ∙ ap (λ (x : List ℕ). row_counted (words_of x) (words_of b) w y from) e
          ∙ ap (λ (x : List ℕ). row_counted (words_of (row_of fa w y)) (words_of x) w y from) f;
      whole = s ∙ ap (λ (x : List ℕ). rows_whole w x b) e ∙ ap (rows_whole w (row_of fa w y)) f;
    }

pub rows_none : (fa fb : List ℕ) (w : ℕ) (cs : List ℕ) → cs ≡ rows_counted fa fb w 0 cs
unfolding rows_counted
rows_none fa fb w cs = refl

pub rows_next :
    (fa fb : List ℕ) (w y : ℕ) (from cs to : List ℕ) (r : Bool)
    → cs ≡ rows_counted fa fb w y from
    → RowDone w y fa fb cs to r
    → to ≡ rows_counted fa fb w (y + 1) from
unfolding rows_counted
rows_next fa fb w y from cs to r e d =
    rw add-one (d.counts ∙ ap (λ (x : List ℕ). row_counted (words_of (row_of fa w y)) (words_of (row_of fb w y)) w y x) e)

-- a file that has all rows has row y
has_row : (w h y : ℕ) (f : List ℕ) → Has w h f → y < h → 2 * w ≤ length (row_of f w y)
unfolding row_of
has_row w h y f p l =
    let m : suc y * w ≤ h * w = mul-le-mul_right w l in
    let e : suc y * w ≡ y * w + w = omega arith in
    simp (length-take, length-drop) (omega arith)

pub never_short :
    (w h y : ℕ) (fa fb from to : List ℕ) (r : Bool) → RowDone w y fa fb from to r → r ≡ false → y < h → Has w h fa → Has w h fb → ⊥
unfolding rows_whole
never_short w h y fa fb from to r d e l p q =
    let t : true ≡ rows_whole w (row_of fa w y) (row_of fb w y) =
    passes _ _ _ _ (le-leb _ _ (has_row w h y fa p l)) (sym (le-leb _ _ (has_row w h y fb q l))) in
    true_false (t ∙ sym d.whole ∙ e)

-- ---- both files

pub whole_has : (p : Pic) (f : List ℕ) → Like p (pic_of f) → is_whole p ≡ true → Has p.width p.height f
whole_has p f a e =
    let w = whole_is f (sym a.whole ∙ e) in
    rw (a.width, a.height) (omega (arith, w.size))

module _ (p q : Pic) (v : Verdict) (e : v ≡ verdict_of p q) where
  -- of one size: both whole, and the first of a size that 01 allows
  pub tiles_whole : v ≡ Tiles → (is_whole p ≡ true) × (is_whole q ≡ true) × (p.width ≡ q.width) × (p.height ≡ q.height)
  unfolding verdict_of sizes_judge
  tiles_whole t =
      let a = held (is_whole p) Bad _ Tiles tiles_bad (sym t ∙ e) in
      let b = held (is_whole q) Bad _ Tiles tiles_bad a.1 in
      let c = held (eqb p.width q.width) Size _ Tiles (λ z. let n : ◌≡◌ {A = ℕ} 0 1 = cc in omega arith) b.1 in
      let d = held (eqb p.height q.height) Size _ Tiles (λ z. let n : ◌≡◌ {A = ℕ} 0 1 = cc in omega arith) c.1 in
      (a.0, b.0, eqb-true _ _ c.0, eqb-true _ _ d.0)

  pub tiles_sized : v ≡ Tiles → Sized p.width p.height
  unfolding is_whole
  tiles_sized t = size_is p.width p.height (held (size_good p.width p.height) false _ true true_false (sym (tiles_whole t).0)).0

  module _ (fa fb : List ℕ) (la : Like p (pic_of fa)) (lb : Like q (pic_of fb)) where
    is_verdict : v ≡ verdict_of (pic_of fa) (pic_of fb)
    is_verdict = e ∙ like_verdict p q (pic_of fa) (pic_of fb) la lb

    -- bad, or of different sizes: nothing is counted
    pub files_bad : (cs : List ℕ) (r : Seen) → v ≡ Bad → (r.verdict ≡ Bad) × (r.width ≡ p.width) × (r.height ≡ p.height) → FilesRead fa fb cs cs r
    unfolding counts_of
    files_bad cs r b s =
        let d : Bad ≡ verdict_of (pic_of fa) (pic_of fb) = sym b ∙ is_verdict in
        record { verdict = s.0 ∙ d; width = s.1 ∙ la.width; height = s.2 ∙ la.height; counts = ap (λ (x : Verdict). counts_of x fa fb cs) d }

    pub files_size : (cs : List ℕ) (r : Seen) → v ≡ Size → (r.verdict ≡ Size) × (r.width ≡ p.width) × (r.height ≡ p.height) → FilesRead fa fb cs cs r
    unfolding counts_of
    files_size cs r b s =
        let d : Size ≡ verdict_of (pic_of fa) (pic_of fb) = sym b ∙ is_verdict in
        record { verdict = s.0 ∙ d; width = s.1 ∙ la.width; height = s.2 ∙ la.height; counts = ap (λ (x : Verdict). counts_of x fa fb cs) d }

    -- of one size: all rows were there
    pub files_tiles :
        (from to : List ℕ) (good : Bool) (u : Verdict) (r : Seen)
        → v ≡ Tiles
        → (Has p.width p.height fa → Has p.width p.height fb → RowsDone p.width p.height fa fb from to good)
        → u ≡ after_rows good
        → (r.verdict ≡ u) × (r.width ≡ p.width) × (r.height ≡ p.height)
        → FilesRead fa fb from to r
    unfolding counts_of after_rows
    files_tiles from to good u r t rows after s =
        let w = tiles_whole t in
        let d : Tiles ≡ verdict_of (pic_of fa) (pic_of fb) = sym t ∙ is_verdict in
        let has-b : Has p.width p.height fb = rw (w.2, w.3) (whole_has q fb lb w.1) in
        let done = rows (whole_has p fa la w.0) has-b in
        record {
          verdict = s.0 ∙ after ∙ ap after_rows done.good ∙ d;
          width = s.1 ∙ la.width;
          height = s.2 ∙ la.height;
          counts = done.counts ∙ rw (la.width, la.height) (ap (λ (x : Verdict). counts_of x fa fb from) d);
        }

-- ---- what each call tells, from what the calls before it told

pub read_known : (fd : ℤ) (place want : ℕ) (bytes : List ℕ) → Gave (record { fd = fd; place = place; want = want; bytes = bytes }) → ReadAt fd place want bytes
read_known fd place want bytes g = record { told = told_read (record { fd = fd; place = place; want = want; bytes = bytes }) g }

-- a descriptor goes through a machine's 32 bits to a call
pub at_read : {fd fd' : ℤ} {place want : ℕ} {bytes : List ℕ} → fd' ≡ fd → ReadAt fd' place want bytes → ReadAt fd place want bytes
at_read {fd} {fd'} {place} {want} {bytes} e k = subst (λ (x : ℤ). ReadAt x place want bytes) e k

pub at_head : {fd fd' : ℤ} {p : Pic} → fd' ≡ fd → HeadRead fd' p → HeadRead fd p
at_head {fd} {fd'} {p} e k = subst (λ (x : ℤ). HeadRead x p) e k

pub at-end : {fd fd' : ℤ} {p r : Pic} → fd' ≡ fd → EndRead fd' p r → EndRead fd p r
at-end {fd} {fd'} {p} {r} e k = subst (λ (x : ℤ). EndRead x p r) e k

pub at_look : {fd fd' : ℤ} {p : Pic} → fd' ≡ fd → Looked fd' p → Looked fd p
at_look {fd} {fd'} {p} e k = subst (λ (x : ℤ). Looked x p) e k

pub at_row : {fd fd' : ℤ} {w y : ℕ} {bytes : List ℕ} → fd' ≡ fd → RowRead fd' w y bytes → RowRead fd w y bytes
at_row {fd} {fd'} {w} {y} {bytes} e k = subst (λ (x : ℤ). RowRead x w y bytes) e k

pub at_rows :
    {a a' b b' : ℤ} {w h : ℕ} {from to : List ℕ} {r : Bool} → a' ≡ a → b' ≡ b → RowsCounted a' b' w h from to r → RowsCounted a b w h from to r
at_rows {a} {a'} {b} {b'} {w} {h} {from} {to} {r} e f k =
    subst (λ (x : ℤ). RowsCounted x b w h from to r) e (subst (λ (x : ℤ). RowsCounted a' x w h from to r) f k)

at_both : {a a' b b' : ℤ} {from to : List ℕ} {r : Seen} → a' ≡ a → b' ≡ b → BothRead a' b' from to r → BothRead a b from to r
at_both {a} {a'} {b} {b'} {from} {to} {r} e f k = subst (λ (x : ℤ). BothRead x b from to r) e (subst (λ (x : ℤ). BothRead a' x from to r) f k)

-- a list into whose front was read
pub read_front :
    (fd : ℤ) (place size r : ℕ) (part rest : List ℕ)
    → r ≤ length part
    → length part ≡ size
    → ReadAt fd place (length part) (first_of part r)
    → ReadAt fd place size (first_of (part ++ rest) r)
read_front fd place size r part rest h l k =
    let e : first_of part r ≡ first_of (part ++ rest) r =
    first_take part r h ∙ sym (take-append-le r part rest h) ∙ sym (first_take (part ++ rest) r (simp length-append (omega arith))) in
    subst (λ (n : ℕ). ReadAt fd place n (first_of (part ++ rest) r)) l (subst (λ (x : List ℕ). ReadAt fd place (length part) x) e k)

pub front_length : (row : List ℕ) (size : ℕ) → size ≤ length row → length (take (size - 0) (drop 0 row)) ≡ size
front_length row size h = simp length-take (omega arith)

pub head_known :
    (fd : ℤ) (last s : List ℕ) (n : ℕ) (p : Pic)
    → length last ≡ 4
    → ReadAt fd 0 (length last) (first_of last n)
    → s ≡ first_of last n
    → p ≡ pic_of s
    → HeadRead fd p
head_known fd last s n p l k e f =
    record {
      told =
          told_map (λ (file : Files). first_of last n ≡ take (length last) (file fd)) (λ (file : Files). p ≡ pic_of (take 4 (file fd)))
          (λ file g. f ∙ ap pic_of (e ∙ g ∙ ap (λ (m : ℕ). take m (file fd)) l)) k.told;
    }

pub end_known :
    (fd : ℤ) (p : Pic) (end n : ℕ) (last : List ℕ)
    → end ≡ end_of p
    → n ≤ length last
    → length last ≡ 2
    → ReadAt fd end (length last) (first_of last n)
    → EndRead fd p (record { width = p.width; height = p.height; bytes = end + n })
end_known fd p end n last e h l k =
    record {
      told =
          told_map (λ (file : Files). first_of last n ≡ take (length last) (drop end (file fd)))
          (λ (file : Files). record { width = p.width; height = p.height; bytes = end + n } ≡ with_end p (length (take 2 (drop (end_of p) (file fd)))))
          (λ file g.
          let m : n ≡ length (take 2 (drop (end_of p) (file fd))) =
          sym (first_length last n h) ∙ ap length (g ∙ ap (λ (j : ℕ). take j (drop end (file fd))) l) ∙ ap (λ (j : ℕ). length (take 2 (drop j (file fd)))) e in
          ap (λ (j : ℕ). record { width = p.width; height = p.height; bytes = j }) (omega (arith, m, e)))
          k.told;
    }

pub look_head : (fd : ℤ) (p : Pic) → HeadRead fd p → size_good p.width p.height ≡ false → Looked fd p
look_head fd p k g =
    record {
      told =
          told_map (λ (file : Files). p ≡ pic_of (take 4 (file fd))) (λ (file : Files). Like p (pic_of (file fd))) (λ file e. like_head (file fd) p e g)
          k.told;
    }

pub look_end : (fd : ℤ) (p r : Pic) → HeadRead fd p → size_good p.width p.height ≡ true → EndRead fd p r → Looked fd r
look_end fd p r k g d =
    record {
      told =
          told_two (λ (file : Files). p ≡ pic_of (take 4 (file fd))) (λ (file : Files). r ≡ with_end p (length (take 2 (drop (end_of p) (file fd)))))
          (λ (file : Files). Like r (pic_of (file fd))) (λ file e i. like_end (file fd) p r e g i) k.told d.told;
    }

pub row_known : (fd : ℤ) (w y place : ℕ) (bytes : List ℕ) → place ≡ 4 + 2 * (y * w) → ReadAt fd place (2 * w) bytes → RowRead fd w y bytes
row_known fd w y place bytes e k =
    record {
      told =
          told_map (λ (file : Files). bytes ≡ take (2 * w) (drop place (file fd))) (λ (file : Files). bytes ≡ row_of (file fd) w y)
          (λ file g. g ∙ ap (λ (j : ℕ). take (2 * w) (drop j (file fd))) e ∙ row-place (file fd) w y) k.told;
    }

pub both_known :
    (a b : ℤ) (w y : ℕ) (ra rb sa sb from to : List ℕ) (r : Bool)
    → RowRead a w y ra
    → RowRead b w y rb
    → sa ≡ ra
    → sb ≡ rb
    → to ≡ row_counted (words_of sa) (words_of sb) w y from
    → r ≡ rows_whole w sa sb
    → RowCounted a b w y from to r
both_known a b w y ra rb sa sb from to r k l e f c s =
    record {
      told =
          told_two (λ (file : Files). ra ≡ row_of (file a) w y) (λ (file : Files). rb ≡ row_of (file b) w y)
          (λ (file : Files). RowDone w y (file a) (file b) from to r)
          (λ file p q. row_done w y (file a) (file b) from to sa sb r (e ∙ p) (f ∙ q) c s) k.told l.told;
    }

-- the counts of the first y rows
pub record RowsKnown (a b : ℤ) (w y : ℕ) (from to : List ℕ) : Type 0 where
  pub told : Told (λ (file : Files). to ≡ rows_counted (file a) (file b) w y from)

pub rows_start : (a b : ℤ) (w : ℕ) (cs : List ℕ) → RowsKnown a b w 0 cs cs
rows_start a b w cs =
    record { told = told_all (λ (file : Files). cs ≡ rows_counted (file a) (file b) w 0 cs) (λ file. rows_none (file a) (file b) w cs) }

pub rows_more :
    (a b : ℤ) (w y : ℕ) (from cs to : List ℕ) (r : Bool) → RowsKnown a b w y from cs → RowCounted a b w y cs to r → RowsKnown a b w (y + 1) from to
rows_more a b w y from cs to r k l =
    record {
      told =
          told_two (λ (file : Files). cs ≡ rows_counted (file a) (file b) w y from) (λ (file : Files). RowDone w y (file a) (file b) cs to r)
          (λ (file : Files). to ≡ rows_counted (file a) (file b) w (y + 1) from)
          (λ file e d. rows_next (file a) (file b) w y from cs to r e d) k.told l.told;
    }

pub rows_short :
    (a b : ℤ) (w h y : ℕ) (from cs to : List ℕ) (r : Bool) (t : Bool) → RowCounted a b w y cs to r → r ≡ false → y < h → RowsCounted a b w h from to t
rows_short a b w h y from cs to r t l e m =
    record {
      told =
          told_map (λ (file : Files). RowDone w y (file a) (file b) cs to r)
          (λ (file : Files). Has w h (file a) → Has w h (file b) → RowsDone w h (file a) (file b) from to t)
          (λ file d p q. absurd (never_short w h y (file a) (file b) cs to r d e m p q)) l.told;
    }

pub rows_all : (a b : ℤ) (w h y : ℕ) (from to : List ℕ) → y ≡ h → RowsKnown a b w y from to → RowsCounted a b w h from to true
rows_all a b w h y from to e k =
    record {
      told =
          told_map (λ (file : Files). to ≡ rows_counted (file a) (file b) w y from)
          (λ (file : Files). Has w h (file a) → Has w h (file b) → RowsDone w h (file a) (file b) from to true)
          (λ file c p q. record { good = refl; counts = c ∙ ap (λ (n : ℕ). rows_counted (file a) (file b) w n from) e }) k.told;
    }

-- both files
module _ (a b : ℤ) (p q : Pic) (v : Verdict) (e : v ≡ verdict_of p q) (la : Looked a p) (lb : Looked b q) where
  abbrev Alike-files : Files → Type 0
  Alike-files file = Like p (pic_of (file a)) × Like q (pic_of (file b))

  looked : Told Alike-files
  looked =
      told_two (λ (file : Files). Like p (pic_of (file a))) (λ (file : Files). Like q (pic_of (file b))) Alike-files (λ file x y. (x, y)) la.told lb.told

  pub both_bad : (cs : List ℕ) (r : Seen) → v ≡ Bad → (r.verdict ≡ Bad) × (r.width ≡ p.width) × (r.height ≡ p.height) → BothRead a b cs cs r
  both_bad cs r t s =
      record {
        told =
            told_map Alike-files (λ (file : Files). FilesRead (file a) (file b) cs cs r)
            (λ file l. files_bad p q v e (file a) (file b) l.0 l.1 cs r t s) looked;
      }

  pub both_size : (cs : List ℕ) (r : Seen) → v ≡ Size → (r.verdict ≡ Size) × (r.width ≡ p.width) × (r.height ≡ p.height) → BothRead a b cs cs r
  both_size cs r t s =
      record {
        told =
            told_map Alike-files (λ (file : Files). FilesRead (file a) (file b) cs cs r)
            (λ file l. files_size p q v e (file a) (file b) l.0 l.1 cs r t s) looked;
      }

  pub both_tiles :
      (from to : List ℕ) (good : Bool) (u : Verdict) (r : Seen)
      → v ≡ Tiles
      → RowsCounted a b p.width p.height from to good
      → u ≡ after_rows good
      → (r.verdict ≡ u) × (r.width ≡ p.width) × (r.height ≡ p.height)
      → BothRead a b from to r
  both_tiles from to good u r t k after s =
      record {
        told =
            told_two Alike-files
            (λ (file : Files).
            Has p.width p.height (file a) → Has p.width p.height (file b) → RowsDone p.width p.height (file a) (file b) from to good)
            (λ (file : Files). FilesRead (file a) (file b) from to r)
            (λ file l m. files_tiles p q v e (file a) (file b) l.0 l.1 from to good u r t m after s) looked k.told;
      }

  pub seen_sized :
      (u : Verdict) (r : Seen)
      → (u ≡ Tiles → v ≡ Tiles)
      → (r.verdict ≡ u) × (r.width ≡ p.width) × (r.height ≡ p.height)
      → r.verdict ≡ Tiles
      → Sized r.width r.height
  seen_sized u r f s t = rw (s.1, s.2) (tiles_sized p q v e (f (sym s.0 ∙ t)))

-- ---- the text

-- the lines of the counts are those of the definition, so the text is what is to be printed
pub printed_is :
    (fa fb cs text : List ℕ) (r : Seen)
    → FilesRead fa fb no_counts cs r
    → text ≡ text_of r.verdict (lines_in cs r.width r.height)
    → text ≡ printed fa fb
unfolding printed text_of counts_of
printed_is fa fb cs text r d e =
    e ∙ rw (d.verdict, d.width, d.height) (by (verdict_of (pic_of fa) (pic_of fb)) refl)
  where
    by :
        (v : Verdict)
        → verdict_of (pic_of fa) (pic_of fb) ≡ v
        → text_of v (lines_in cs (pic_of fa).width (pic_of fa).height) ≡ text_of v (listed (picture_of fa) (picture_of fb) (pic_of fa).width (pic_of fa).height)
    by Bad q = refl
    by Size q = refl
    by Tiles q =
        let b = both-are fa fb q in
        let c : cs ≡ rows_counted fa fb (pic_of fa).width (pic_of fa).height no_counts = d.counts ∙ ap (λ (x : Verdict). counts_of x fa fb no_counts) q in
        ap (text_of Tiles)
        (ap (λ (x : List ℕ). lines_in x (pic_of fa).width (pic_of fa).height) c
        ∙ counted_lines fa fb (pic_of fa).width (pic_of fa).height b.first b.second)

pub answer_known :
    (name-a name-b : List ℕ) (a b a' b' : ℤ) (from cs out : List ℕ) (s : Seen) (r : ℕ)
    → Opened name-a a
    → Opened name-b b
    → a' ≡ a
    → b' ≡ b
    → from ≡ no_counts
    → BothRead a' b' from cs s
    → Texted out r (text_of s.verdict (lines_in cs s.width s.height))
    → Answered name-a name-b (first_of out r)
answer_known name-a name-b a b a' b' from cs out s r oa ob ea eb z k d =
    let k' = subst (λ (x : List ℕ). BothRead a b x cs s) z (at_both ea eb k) in
    record {
      a = a;
      b = b;
      opened_a = oa;
      opened_b = ob;
      told =
          told_map (λ (file : Files). FilesRead (file a) (file b) no_counts cs s) (λ (file : Files). first_of out r ≡ printed (file a) (file b))
          (λ file f. printed_is (file a) (file b) cs (first_of out r) s f (first_take out r d.fits ∙ d.text)) k'.told;
    }
