-- A frame with its codes tidied, as its reader takes it: block by block what came without a fault still has none, and its tiles are those that came, tidied.
use Prim.Native.Nat.{ℕ, zero, suc, ◌+◌, ◌*◌, ◌-◌, ◌<◌, ◌≤◌}
use Rattle.std.specs.Prelude.{◌≡◌, Bool, take}
use Rattle.std.proofs.Math.Path.{refl, ap, ap₂, sym}
use Rattle.std.proofs.Common.{◌∙◌, subst, arith, add-zero, length-take-le, get_or-take, get_or-drop, get_or-append-add, ext_get_or, drop_at}
use mathlib.Core.List.{List, [], ◌∷◌, ◌++◌, map}
use Rattle.std.proofs.Math.ListN.{length, get_or, drop, length-append, length-drop, get_or-append}
use Rattle.std.proofs.Math.Seq.{take-append_seam, take-nil}
use borrow.Author.Tests.{eqb-true, ltb-true, eq-eqb}
use Rattle.whole.specs.Row.{◌⨟◌}
use Rattle.whole.specs.laws.Row.{held, both, passes}
use Rattle.wire.specs.Le.{le16, le32, bytes32, patch}
use Rattle.wire.specs.laws.Le.{patch_length}
use Rattle.bits.specs.laws.Bytes.{Bytes}
use Rattle.frame_layout.specs.Reader.{block_judge, size_at, fixed_head, least_head, codec_judge, codec_fault, begin_judge, begin_fault, rect_count}
use Rattle.frame_layout.specs.Reader.{
  region_fault,
  set_judge,
  halves_fault,
  quants_fault,
  quant_count,
  tile_count,
  data_size,
  set_at,
  data_of,
  body_judge,
  tile_at,
  codes_fault,
}
use Rattle.frame_layout.specs.Reader.{tile_fault, tiles_fault, tiles_in, end_fault, set_place, end_place, frame_fault, frame_tiles}
use Rattle.frame_layout.specs.laws.Here.{four_bytes, le16_in, le32_in, byte_in, past, tile_here}
use Rattle.frame_layout.specs.laws.Tiles.{none, least_none, fixed_none, Good, tile_none}
use Rattle.frame_blocks.specs.Blocks.{rects_of, set_fields, set_front, RegionGood}
use Rattle.frame_blocks.specs.Tiles.{tile_fields, tile_front}
use Rattle.frame_blocks.specs.laws.Blocks.{fixed_good}
use Rattle.frame_blocks.specs.laws.Tiles.{tile_goes_on, tile_sound}
use Rattle.frame.specs.Frame.{front_fault}
use Rattle.tidy_code.specs.Sent.{tidy_code}
use Rattle.tidy_code.specs.laws.Request.{tidy_codes}
use Rattle.tidy.specs.Tidy.{tidy_tile, tidy_tiles, tiles_tidied, frame_tidied}
use Rattle.tidy.specs.Put.{Laid}
use Rattle.tidy.specs.laws.Layout.{tiles_by, parts_by, parts_good, laid}
use Rattle.tidy.specs.laws.Put.{Placed, placed, data_long, fills, frame_is, front_length, tile_sized, tiles_shorter}

not_0 : (k : ℕ) → 0 ≡ suc k → ⊥
not_0 k e = omega arith

-- ---- a byte of a patched list

patch_below : (xs ys : List ℕ) (at k : ℕ) → k < at → at ≤ length xs → get_or (patch xs at ys) k 0 ≡ get_or xs k 0
unfolding patch
patch_below xs ys at k l h = get_or-append (take at xs) _ 0 k (omega (arith, length-take-le at xs h)) ∙ get_or-take at xs k 0 l

patch_above : (xs ys : List ℕ) (at k : ℕ) → at + length ys ≤ k → at ≤ length xs → get_or (patch xs at ys) k 0 ≡ get_or xs k 0
unfolding patch
patch_above xs ys at k l h =
    let j = k - (at + length ys) in
    let Z = ys ++ drop (at + length ys) xs in
    let n : length (take at xs) + (length ys + j) ≡ k = omega (arith, length-take-le at xs h) in
    let i : at + length ys + j ≡ k = omega arith in
    ap (λ (z : ℕ). get_or (take at xs ++ Z) z 0) (sym n)
    ∙ (get_or-append-add (take at xs) Z (length ys + j) 0
    ∙ (get_or-append-add ys (drop (at + length ys) xs) j 0 ∙ (get_or-drop (at + length ys) xs j 0 ∙ ap (λ (z : ℕ). get_or xs z 0) i)))

-- a number of 32 bits put at a place is read there
le32_put : (xs : List ℕ) (at v : ℕ) → at ≤ length xs → v < 4294967296 → le32 (patch xs at (bytes32 v)) at ≡ v
unfolding patch bytes32 le32 le16
le32_put xs at v h l =
    let d = drop_at (take at xs) (bytes32 v ++ drop (at + 4) xs) at (length-take-le at xs h) in
    ap (le32 (patch xs at (bytes32 v))) (sym (add-zero at)) ∙ (le32_in (patch xs at (bytes32 v)) (bytes32 v ++ drop (at + 4) xs) at 0 d ∙ four_bytes v l)

-- ---- two lists with the same bytes at some places

le16_same : (x y : List ℕ) (at : ℕ) → ((k : ℕ) → at ≤ k → k < at + 2 → get_or x k 0 ≡ get_or y k 0) → le16 x at ≡ le16 y at
unfolding le16
le16_same x y at f = rw (f at (omega arith) (omega arith), f (at + 1) (omega arith) (omega arith)) refl

le32_same : (x y : List ℕ) (at : ℕ) → ((k : ℕ) → at ≤ k → k < at + 4 → get_or x k 0 ≡ get_or y k 0) → le32 x at ≡ le32 y at
unfolding le32
le32_same x y at f =
    ap₂ (λ (a b : ℕ). a + 65536 * b) (le16_same x y at (λ k a b. f k a (omega arith))) (le16_same x y (at + 2) (λ k a b. f k (omega arith) (omega arith)))

part_same : (x y : List ℕ) (a n : ℕ) → a + n ≤ length x → a + n ≤ length y → ((k : ℕ) → a ≤ k → k < a + n → get_or x k 0 ≡ get_or y k 0) →
    take n (drop a x) ≡ take n (drop a y)
part_same x y a n p q f =
    let lx = length-take-le n (drop a x) (omega (arith, length-drop a x)) in
    let ly = length-take-le n (drop a y) (omega (arith, length-drop a y)) in
    ext_get_or 0 (take n (drop a x)) (take n (drop a y)) (lx ∙ sym ly)
    (λ i l.
    let j : i < n = omega (arith, lx, l) in
    get_or-take n (drop a x) i 0 j
    ∙ (get_or-drop a x i 0 ∙ (f (a + i) (omega arith) (omega arith) ∙ (sym (get_or-drop a y i 0) ∙ sym (get_or-take n (drop a y) i 0 j)))))

-- ---- the tidied frame beside the one that came: its bytes before the tiles are the same but for two lengths, which are those of what was written

pub record Alike (m m' T E : List ℕ) (sp from : ℕ) : Type 0 where
  pub low : (k : ℕ) → k < sp + 2 → get_or m' k 0 ≡ get_or m k 0
  pub mid : (k : ℕ) → sp + 6 ≤ k → k < sp + 18 → get_or m' k 0 ≡ get_or m k 0
  pub high : (k : ℕ) → sp + 22 ≤ k → k < from → get_or m' k 0 ≡ get_or m k 0
  pub size : le32 m' (sp + 2) ≡ 22 + 5 * quant_count m sp + length T
  pub bytes : le32 m' (sp + 18) ≡ length T
  pub behind : drop from m' ≡ T ++ E
  pub long : length m' ≡ from + length (T ++ E)

pub alike : (sd et : ℕ) (m : List ℕ) (sp from end : ℕ) → Placed m sp from end → 22 + 5 * quant_count m sp + length (tiles_tidied sd et m) < 4294967296 →
    Alike m (frame_tidied sd et m) (tiles_tidied sd et m) (drop end m) sp from
unfolding fills bytes32
alike sd et m sp from end z small =
    let F = take from m in
    let S = tiles_tidied sd et m ++ drop end m in
    let v = 22 + 5 * quant_count m sp + length (tiles_tidied sd et m) in
    let u = length (tiles_tidied sd et m) in
    let G = patch F (sp + 2) (bytes32 v) in
    let H = patch G (sp + 18) (bytes32 u) in
    let e = frame_is sd et m sp from end z in
    let l = front_length sd et m sp from end z in
    let f : sp + 22 ≤ from = omega (arith, z.tiles) in
    let g : length G ≡ from = patch_length F (bytes32 v) (sp + 2) (omega (arith, l, f)) ∙ l in
    let h : length H ≡ from = patch_length G (bytes32 u) (sp + 18) (omega (arith, g, f)) ∙ g in
    let there : (k : ℕ) → k < from → get_or (frame_tidied sd et m) k 0 ≡ get_or H k 0 =
    λ k b. ap (λ (x : List ℕ). get_or x k 0) e ∙ get_or-append H S 0 k (omega (arith, h, b)) in
    let under : (k : ℕ) → k < sp + 18 → get_or H k 0 ≡ get_or G k 0 = λ k b. patch_below G (bytes32 u) (sp + 18) k b (omega (arith, g, f)) in
    record {
      low = λ k b.
          there k (omega (arith, f, b)) ∙ (under k (omega (arith, b))
          ∙ (patch_below F (bytes32 v) (sp + 2) k b (omega (arith, l, f)) ∙ get_or-take from m k 0 (omega (arith, f, b))));
      mid = λ k a b.
          there k (omega (arith, f, b)) ∙ (under k b
          ∙ (patch_above F (bytes32 v) (sp + 2) k (omega (arith, a)) (omega (arith, l, f)) ∙ get_or-take from m k 0 (omega (arith, f, b))));
      high = λ k a b.
          there k b ∙ (patch_above G (bytes32 u) (sp + 18) k (omega (arith, a)) (omega (arith, g, f))
          ∙ (patch_above F (bytes32 v) (sp + 2) k (omega (arith, a)) (omega (arith, l, f)) ∙ get_or-take from m k 0 b));
      size = le32_same (frame_tidied sd et m) G (sp + 2) (λ k a b. there k (omega (arith, f, b)) ∙ under k (omega (arith, b)))
          ∙ le32_put F (sp + 2) v (omega (arith, l, f)) small;
      bytes = le32_same (frame_tidied sd et m) H (sp + 18) (λ k a b. there k (omega (arith, f, b)))
          ∙ le32_put G (sp + 18) u (omega (arith, g, f)) (omega (arith, small));
      behind = ap (drop from) e ∙ drop_at H S from h;
      long = ap length e ∙ (length-append H S ∙ ap (λ (k : ℕ). k + length S) h);
    }

-- ---- block by block

block_kind : (kind is : ℕ) (t : Bool) (size room : ℕ) → 0 ≡ block_judge kind is t size room → is ≡ kind
unfolding block_judge
block_kind kind is t size room e = eqb-true is kind (held _ _ _ _ (not_0 2) e).0

fixed_kind : (kind size : ℕ) (m : List ℕ) (at : ℕ) → 0 ≡ fixed_head kind size m at → le16 m at ≡ kind
unfolding fixed_head
fixed_kind kind size m at e = block_kind kind _ _ _ _ (held _ _ _ _ (not_0 0) e).1

least_kind : (kind least : ℕ) (m : List ℕ) (at : ℕ) → 0 ≡ least_head kind least m at → le16 m at ≡ kind
unfolding least_head
least_kind kind least m at e = block_kind kind _ _ _ _ (held _ _ _ _ (not_0 0) e).1

-- another size that agrees with its counts
set_resized : (et size a b c q d n bytes size' bytes' : ℕ) → 0 ≡ set_judge et size a b c q d n bytes → size' ≡ 22 + 5 * q + bytes' →
    0 ≡ set_judge et size' a b c q d n bytes'
unfolding set_judge
set_resized et size a b c q d n bytes size' bytes' e s =
    let x1 = held _ _ _ _ (not_0 4) e in
    let x2 = held _ _ _ _ (not_0 4) x1.1 in
    let x3 = held _ _ _ _ (not_0 4) x2.1 in
    let x4 = held _ _ _ _ (not_0 4) x3.1 in
    let x5 = held _ _ _ _ (not_0 5) x4.1 in
    passes _ _ _ _ x1.0 (passes _ _ _ _ x2.0 (passes _ _ _ _ x3.0 (passes _ _ _ _ x4.0 (passes _ _ _ _ x5.0
    (passes _ _ _ _ (eq-eqb size' (22 + 5 * q + bytes') s) refl)))))

quants_same : (x y : List ℕ) (n at : ℕ) → ((k : ℕ) → at ≤ k → k < at + n → get_or x k 0 ≡ get_or y k 0) → quants_fault x n at ≡ quants_fault y n at
unfolding quants_fault
quants_same x y zero at f = refl
quants_same x y (suc n) at f =
    ap₂ ◌⨟◌ (ap halves_fault (f at (omega arith) (omega arith))) (quants_same x y n (at + 1) (λ k a b. f k (omega arith) (omega arith)))

module _ (m m' T E : List ℕ) (sp from : ℕ) (a : Alike m m' T E sp from) (place : sp ≡ set_place m) (tiles : from ≡ sp + (22 + 5 * quant_count m sp))
    (region : RegionGood m 14) where
  far : sp ≡ 14 + (15 + 8 * rect_count m 14)
  unfolding set_place
  far = place ∙ ap (λ (k : ℕ). 14 + k) region.size

  in_front : sp + 22 ≤ length m'
  in_front = omega (arith, a.long, tiles)

  codec_same : (at : ℕ) → at + 7 < sp + 2 → codec_fault m' at ≡ codec_fault m at
  unfolding codec_fault
  codec_same at l = ap₂ codec_judge (a.low (at + 6) (omega (arith, l))) (a.low (at + 7) l)

  begin_again : 0 ≡ begin_fault m 0 → 0 ≡ begin_fault m' 0
  unfolding begin_fault size_at
  begin_again e =
      let l : 14 ≤ sp = omega (arith, far) in
      let x = both _ _ e in
      let y = both _ _ x.1 in
      let g = fixed_good m 0 (omega arith) 0xCCC4 14 x.0 in
      let s = le32_same m' m 2 (λ k p q. a.low k (omega (arith, l, q))) ∙ g.0 in
      none _ _
      (fixed_none 0xCCC4 14 m' 0 (omega arith) (le16_same m' m 0 (λ k p q. a.low k (omega (arith, l, q))) ∙ fixed_kind 0xCCC4 14 m 0 x.0) s
      (omega (arith, in_front, l, s)))
      (none _ _ (y.0 ∙ sym (codec_same 0 (omega (arith, l)))) (y.1 ∙ ap begin_judge (sym (le16_same m' m 12 (λ k p q. a.low k (omega (arith, l, q)))))))

  region_again : 0 ≡ region_fault m 14 → 0 ≡ region_fault m' 14
  unfolding region_fault size_at rect_count
  region_again e =
      let x = both _ _ e in
      let y = both _ _ x.1 in
      let w = both _ _ y.1 in
      let n = le16 m 23 in
      let end : sp ≡ 14 + (15 + 8 * n) = far in
      let c : le16 m' 23 ≡ n = le16_same m' m 23 (λ k p q. a.low k (omega (arith, end, q))) in
      let s : le32 m' 16 ≡ le32 m 16 = le32_same m' m 16 (λ k p q. a.low k (omega (arith, end, q))) in
      let i = le16_same m' m (14 + (11 + 8 * n)) (λ k p q. a.low k (omega (arith, end, q))) in
      let j = le16_same m' m (14 + (13 + 8 * n)) (λ k p q. a.low k (omega (arith, end, q))) in
      none _ _
      (least_none 0xCCC6 15 m' 14 (omega arith) (le16_same m' m 14 (λ k p q. a.low k (omega (arith, end, q))) ∙ least_kind 0xCCC6 15 m 14 x.0)
      (omega (arith, s, region.size)) (omega (arith, s, region.size, end, in_front)))
      (none _ _ (y.0 ∙ sym (codec_same 14 (omega (arith, end))))
      (none _ _ (w.0 ∙ rw (a.low 22 (omega (arith, end)), c, s) refl) (w.1 ∙ rw (c, i, j) refl)))

  set_again : (et : ℕ) → 0 ≡ set_front et m sp → 0 ≡ set_front et m' sp
  unfolding set_front set_fields size_at quant_count tile_count data_size codec_fault
  set_again et e =
      let x = both _ _ e in
      let y = both _ _ x.1 in
      let w = both _ _ y.1 in
      let two : (at : ℕ) → sp + 6 ≤ at → at + 2 ≤ sp + 18 → le16 m' at ≡ le16 m at =
      λ at p q. le16_same m' m at (λ k i j. a.mid k (omega (arith, p, i)) (omega (arith, q, j))) in
      none _ _
      (least_none 0xCCC7 22 m' sp (omega arith) (le16_same m' m sp (λ k p q. a.low k q) ∙ least_kind 0xCCC7 22 m sp x.0)
      (omega (arith, a.size)) (omega (arith, a.size, a.long, tiles, length-append T E)))
      (none _ _ (y.0 ∙ ap₂ codec_judge (sym (a.mid (sp + 6) (omega arith) (omega arith))) (sym (a.mid (sp + 7) (omega arith) (omega arith))))
      (none _ _
      (rw (
        two (sp + 8) (omega arith) (omega arith),
        two (sp + 10) (omega arith) (omega arith),
        two (sp + 12) (omega arith) (omega arith),
        two (sp + 16) (omega arith) (omega arith),
        a.mid (sp + 14) (omega arith) (omega arith),
        a.mid (sp + 15) (omega arith) (omega arith),
      )
      (set_resized et _ _ _ _ _ _ _ _ _ _ w.0 (rw (a.size, a.bytes) refl)))
      (rw (a.mid (sp + 14) (omega arith) (omega arith))
      (w.1 ∙ sym (quants_same m' m (5 * get_or m (sp + 14) 0) (sp + 22) (λ k p q. a.high k p (omega (arith, q, tiles))))))))

  -- the last block stands behind the tiles as it came
  module _ (end : ℕ) (rest : E ≡ drop end m) (inside : end ≤ length m) where
    last_is : drop (from + length T) m' ≡ drop end m
    last_is = past m' T E from (length T) a.behind refl ∙ rest

    end_again : 0 ≡ end_fault m end → 0 ≡ end_fault m' (from + length T)
    unfolding end_fault codec_fault size_at
    end_again e =
        let x = both _ _ e in
        let y = both _ _ x.1 in
        let D = drop end m in
        let at = from + length T in
        let g = fixed_good m end inside 0xCCC5 8 x.0 in
        let l : length m ≡ end + 8 = eqb-true (length m) (end + 8) (held _ _ _ _ (not_0 3) y.1).0 in
        let lm : length m' ≡ at + 8 = omega (arith, a.long, length-append T E, ap length rest, length-drop end m, l) in
        let k : le16 m' at ≡ le16 m end =
        ap (le16 m') (sym (add-zero at)) ∙ (le16_in m' D at 0 last_is ∙ (sym (le16_in m D end 0 refl) ∙ ap (le16 m) (add-zero end))) in
        let s : le32 m' (at + 2) ≡ le32 m (end + 2) = le32_in m' D at 2 last_is ∙ sym (le32_in m D end 2 refl) in
        let b : (i : ℕ) → get_or m' (at + i) 0 ≡ get_or m (end + i) 0 = λ i. byte_in m' D at i last_is ∙ sym (byte_in m D end i refl) in
        none _ _ (fixed_none 0xCCC5 8 m' at (omega arith) (k ∙ fixed_kind 0xCCC5 8 m end x.0) (s ∙ g.0) (omega (arith, s, g.0, lm)))
        (none _ _ (y.0 ∙ ap₂ codec_judge (sym (b 6)) (sym (b 7))) (passes _ _ _ _ (eq-eqb (length m') (at + 8) lm) refl))

  -- where the blocks stand, and what is read of the tileset
  place_again : set_place m' ≡ sp
  unfolding set_place size_at
  place_again = ap (λ (k : ℕ). 14 + k) (le32_same m' m 16 (λ k p q. a.low k (omega (arith, far, q)))) ∙ sym place

  quants_again : quant_count m' sp ≡ quant_count m sp
  unfolding quant_count
  quants_again = a.mid (sp + 14) (omega arith) (omega arith)

  count_again : tile_count m' sp ≡ tile_count m sp
  unfolding tile_count
  count_again = le16_same m' m (sp + 16) (λ k p q. a.mid k (omega arith) (omega arith))

  data_again : data_of m' sp ≡ T
  unfolding data_of data_size
  data_again = rw (a.bytes, quants_again, ← tiles, a.behind) (take-append_seam T E)

  sets_again : from ≤ length m → (j : ℕ) → j < quant_count m sp → set_at m' sp j ≡ set_at m sp j
  unfolding set_at
  sets_again l j h =
      part_same m' m (sp + (22 + 5 * j)) 5 (omega (arith, a.long, tiles, h)) (omega (arith, l, tiles, h))
      (λ k p q. a.high k (omega (arith, p)) (omega (arith, q, tiles, h)))

  end-place : end_place m' ≡ from + length T
  unfolding end_place size_at
  end-place = ap (λ (k : ℕ). k + le32 m' (k + 2)) place_again ∙ omega (arith, a.size, tiles)

  front_again : (et : ℕ) → 0 ≡ front_fault et m → 0 ≡ front_fault et m'
  unfolding front_fault
  front_again et e =
      let x = both (begin_fault m 0) _ e in
      let y = both (region_fault m 14) _ x.1 in
      none _ _ (begin_again x.0) (none _ _ (region_again y.0)
      (subst (λ (k : ℕ). 0 ≡ set_front et m' k) (sym place_again) (set_again et (subst (λ (k : ℕ). 0 ≡ set_front et m k) (sym place) y.1))))

  rects_again : (rect_count m' 14 ≡ rect_count m 14) × (rects_of m' 14 ≡ rects_of m 14)
  unfolding rects_of rect_count size_at
  rects_again =
      let n = le16 m 23 in
      let end : sp ≡ 14 + (15 + 8 * n) = far in
      let c : le16 m' 23 ≡ n = le16_same m' m 23 (λ k p q. a.low k (omega (arith, end, q))) in (
        c,
        rw c (part_same m' m 25 (8 * n) (omega (arith, end, in_front)) (omega (arith, region.there, region.size))
            (λ k p q. a.low k (omega (arith, end, q)))),
      )

-- ---- the tiles

le16_small : (d : List ℕ) (at : ℕ) → Bytes d → le16 d at < 65536
unfolding le16
le16_small d at h = omega (arith, h at, h (at + 1))

pub place_held : (w h q : ℕ) (d : List ℕ) (at : ℕ) → 0 ≡ tile_front w h q d at → (64 * le16 d (at + 9) < w) × (64 * le16 d (at + 11) < h)
unfolding tile_front tile_fields body_judge
place_held w h q d at e =
    let p = both (least_head 0xCAC3 19 d at) _ e in
    let x1 = held _ _ _ _ (not_0 3) p.1 in
    let x2 = held _ _ _ _ (not_0 6) x1.1 in
    let x3 = held _ _ _ _ (not_0 6) x2.1 in
    let x4 = held _ _ _ _ (not_0 6) x3.1 in
    let x5 = held _ _ _ _ (not_0 7) x4.1 in
    let x6 = held _ _ _ _ (not_0 7) x5.1 in
    (ltb-true _ _ x5.0, ltb-true _ _ x6.0)

-- judges of codes before and after tidying
module _ (sd et w h q : ℕ) (before after : ℕ → List ℕ → ℕ) (same : (j : ℕ) → j < q → (code : List ℕ) → before j code ≡ after j (tidy_code sd et code))
    (d : List ℕ) (hb : Bytes d) where
  tile_again : (at : ℕ) → at ≤ length d → 0 ≡ tile_fault before w h q d at → Good after w h q (tidy_tile sd et (tile_at d at))
  unfolding tidy_tile codes_fault tile_at
  tile_again at l e =
      let s = tile_sound before w h q d at l e in
      let f = both (tile_front w h q d at) _ (e ∙ tile_goes_on before w h q d at) in
      let p = place_held w h q d at f.0 in
      let z = tile_sized d at s.good.whole in
      let n = tidy_codes.never_longer sd et in
      let t = tile_at d at in
      record {
        fits = record {
          x = le16_small d (at + 9) hb;
          y = le16_small d (at + 11) hb;
          ly = omega (arith, n t.ys, z.0, le16_small d (at + 13) hb);
          lcb = omega (arith, n t.cbs, z.1.0, le16_small d (at + 15) hb);
          lcr = omega (arith, n t.crs, z.1.1, le16_small d (at + 17) hb);
        };
        iy = s.good.y_index;
        icb = s.good.cb_index;
        icr = s.good.cr_index;
        px = p.0;
        py = p.1;
        codes = none _ _ (s.y ∙ same _ s.good.y_index _) (none _ _ (s.cb ∙ same _ s.good.cb_index _) (s.cr ∙ same _ s.good.cr_index _));
      }

  pub walk_again :
      (d' : List ℕ) (n at at' : ℕ) → at ≤ length d → at' ≤ length d' → 0 ≡ tiles_fault before w h q d n at → drop at' d' ≡ tidy_tiles sd et d n at →
      (0 ≡ tiles_fault after w h q d' n at') × (tiles_in d' n at' ≡ map (tidy_tile sd et) (tiles_in d n at))
  unfolding tiles_fault tiles_in tidy_tiles
  walk_again d' zero at at' l l' e r =
      let z : length d' - at' ≡ 0 = sym (length-drop at' d') ∙ ap length r in
      (passes _ _ _ _ (eq-eqb at' (length d') (omega arith)) refl, refl)
  walk_again d' (suc n) at at' l l' e r =
      let p = both (tile_fault before w h q d at) (tiles_fault before w h q d n (at + size_at d at)) e in
      let s = tile_sound before w h q d at l p.0 in
      let g = tile_again at l p.0 in
      let t = tile_here d' at' (tidy_tile sd et (tile_at d at)) (tidy_tiles sd et d n (at + size_at d at)) g.fits r in
      let more = walk_again d' n (at + size_at d at) (at' + size_at d' at') s.good.whole.there (omega (arith, t.size, t.room, l')) p.1
      (rw t.size t.next) in
      (none _ _ (tile_none after w h q d' at' (tidy_tile sd et (tile_at d at)) _ g t) more.0, ap₂ ◌∷◌ t.is more.1)

-- ---- the frame

bytes_drop : (m : List ℕ) (a : ℕ) → Bytes m → Bytes (drop a m)
bytes_drop m a h i = subst (λ (k : ℕ). k < 256) (sym (get_or-drop a m i 0)) (h (a + i))

bytes_take : (m : List ℕ) (n : ℕ) → Bytes m → Bytes (take n m)
bytes_take [] n h i = subst (λ (z : List ℕ). get_or z i 0 < 256) (sym (take-nil n)) (h i)
bytes_take (x ∷ m) zero h i = omega arith
bytes_take (x ∷ m) (suc n) h zero = h zero
bytes_take (x ∷ m) (suc n) h (suc i) = bytes_take m n (λ k. h (suc k)) i

data_bytes : (m : List ℕ) (at : ℕ) → Bytes m → Bytes (data_of m at)
unfolding data_of
data_bytes m at h = bytes_take (drop (at + (22 + 5 * quant_count m at)) m) (data_size m at) (bytes_drop m (at + (22 + 5 * quant_count m at)) h)

le32_small : (d : List ℕ) (at : ℕ) → Bytes d → le32 d at < 4294967296
unfolding le32
le32_small d at h = omega (arith, le16_small d at h, le16_small d (at + 2) h)

tiles_short : (sd et : ℕ) (m : List ℕ) → Laid m → length (tiles_tidied sd et m) ≤ length (data_of m (set_place m))
unfolding tiles_tidied
tiles_short sd et m w = omega (arith, tiles_shorter sd et (data_of m (set_place m)) (tile_count m (set_place m)) 0 (omega arith) w.tiles)

tiles_from : (sd et : ℕ) (m : List ℕ) → drop 0 (tiles_tidied sd et m) ≡ tidy_tiles sd et (data_of m (set_place m)) (tile_count m (set_place m)) 0
unfolding tiles_tidied
tiles_from sd et m = refl

end_is : (m : List ℕ) (end : ℕ) → end ≡ set_place m + size_at m (set_place m) → end ≡ end_place m
unfolding end_place
end_is m end e = e

tiles_moved : (comp : ℕ → List ℕ → List ℕ → ℕ) (w h et : ℕ) (m T : List ℕ) (sp' sp q n : ℕ) → sp' ≡ sp → quant_count m sp ≡ q → data_of m sp ≡ T →
    tile_count m sp ≡ n → 0 ≡ tiles_fault (λ (j : ℕ) (code : List ℕ). comp et (set_at m sp j) code) w h q T n 0 →
    0 ≡ tiles_fault (λ (j : ℕ) (code : List ℕ). comp et (set_at m sp' j) code) w h (quant_count m sp') (data_of m sp') (tile_count m sp') 0
tiles_moved comp w h et m T sp' sp q n e a b c x = rw (e, a, b, c) x

-- what the tidied frame is to a reader, by a judge of components
pub record Again (sd : ℕ) (comp : ℕ → List ℕ → List ℕ → ℕ) (w h et : ℕ) (m m' : List ℕ) : Type 0 where
  pub fault : 0 ≡ frame_fault comp w h et m'
  pub tiles : frame_tiles m' ≡ map (tidy_tile sd et) (frame_tiles m)
  pub region : (rect_count m' 14 ≡ rect_count m 14) × (rects_of m' 14 ≡ rects_of m 14)
  pub sets : (j : ℕ) → j < quant_count m (set_place m) → set_at m' (set_place m') j ≡ set_at m (set_place m) j

pub again : (sd : ℕ) (comp : ℕ → List ℕ → List ℕ → ℕ) (w h et : ℕ) (m : List ℕ) → Bytes m →
    0 ≡ frame_fault (λ (e : ℕ) (five code : List ℕ). comp e five (tidy_code sd e code)) w h et m → Again sd comp w h et m (frame_tidied sd et m)
unfolding frame_tiles tiles_by size_at
again sd comp w h et m hb e =
    let loose : ℕ → List ℕ → List ℕ → ℕ = λ i five code. comp i five (tidy_code sd i code) in
    let p = parts_good loose w h et m e in
    let lay = laid loose w h et m p in
    let sp = set_place m in
    let q = quant_count m sp in
    let D = data_of m sp in
    let n = tile_count m sp in
    let g = p.good.set.good in
    let r = p.good.region in
    let z = placed m sp q (length D) refl g refl refl in
    let T = tiles_tidied sd et m in
    let m' = frame_tidied sd et m in
    let short : length T ≤ length D = tiles_short sd et m lay in
    let small : 22 + 5 * q + length T < 4294967296 = omega (arith, short, data_long m sp g, g.size, le32_small m (sp + 2) hb) in
    let a = alike sd et m sp (sp + (22 + 5 * q)) (sp + (22 + 5 * q) + length D) z small in
    let by = sets_again m m' T _ sp _ a refl refl r (omega (arith, z.inside)) in
    let place = place_again m m' T _ sp _ a refl refl r in
    let walk = walk_again sd et w h q (λ j code. comp et (set_at m sp j) (tidy_code sd et code)) (λ j code. comp et (set_at m' sp j) code)
    (λ j l code. ap (λ (five : List ℕ). comp et five (tidy_code sd et code)) (sym (by j l))) D (data_bytes m sp hb) T n 0 0 (omega arith) (omega arith) p.tiles
    (tiles_from sd et m) in
    let count = count_again m m' T _ sp _ a refl refl r in
    let all = data_again m m' T _ sp _ a refl refl r in
    let last = end_again m m' T _ sp _ a refl refl r (sp + (22 + 5 * q) + length D) refl z.inside
    (p.last ∙ ap (end_fault m) (sym (end_is m (sp + (22 + 5 * q) + length D) z.last))) in
    record {
      fault = none _ _ (front_again m m' T _ sp _ a refl refl r et p.front)
          (none _ _ (tiles_moved comp w h et m' T (set_place m') sp q n place (quants_again m m' T _ sp _ a refl refl r) all count walk.0)
          (last ∙ ap (end_fault m') (sym (end-place m m' T _ sp _ a refl refl r))))
          ∙ sym (parts_by comp w h et m');
      tiles = rw (place, all, count) walk.1;
      region = rects_again m m' T _ sp _ a refl refl r;
      sets = λ j l. ap (λ (k : ℕ). set_at m' k j) place ∙ by j l;
    }
