-- What stands when a code, a tile, the tiles, or the frame has been put; one law for each, in plain variables.
use Rattle.std.specs.Prelude.{ℕ, zero, suc, ◌+◌, ◌*◌, ◌-◌, ◌<◌, ◌≤◌, ◌≡◌, Bool, true, false, get_or}
use Rattle.std.proofs.Math.Path.{refl, ap, sym, subst}
use Rattle.std.proofs.Common.{ap₂, ◌∙◌, add_assoc, length-drop, take-take, drop_at, take_at, length-take-le}
use mathlib.Core.List.{List, [], ◌∷◌, ◌++◌, append_assoc, append-nil}
use native.Mathlib.Omega.{arith}
use Rattle.std.proofs.Math.Nat.{sub-zero, zero-add}
use Rattle.std.proofs.Math.ListN.{length, take, drop, length-append}
use Rattle.std.proofs.lemmas.List.{take-append-le, drop-append-le}
use Rattle.whole.specs.Row.{◌!◌⨾◌}
use Rattle.whole.specs.laws.Row.{passes, fails}
use Rattle.wire.specs.Le.{le16, le32, bytes16, bytes32, patch}
use Rattle.wire.specs.laws.Le.{patch_next, patch_refill, patch_none, patch_length}
use Rattle.frame_layout.specs.Bytes.{Tile, tile_len, tile_head, tile_of}
use Rattle.frame_layout.specs.Reader.{size_at, tile_at, data_of, data_size, tile_count, quant_count, set_place, end_place}
use Rattle.frame_layout.specs.laws.Here.{tile_length}
use Rattle.frame_blocks.specs.Blocks.{SetGood}
use Rattle.frame_blocks.specs.Tiles.{TileWhole, code_part}
use Rattle.tidy_code.specs.Sent.{tidy_code}
use Rattle.tidy_code.specs.laws.Request.{tidy_codes}
use Rattle.tidy.specs.Tidy.{tidy_tile, tidy_tiles, tiles_tidied, tiles_place, front_tidied, frame_tidied, same_bytes, cut_code, cut_tiles}
use Rattle.tidy.specs.Put.{Puts, head_with, tile_cut, AllWhole, Laid, closed_as}
use Rattle.tidy.specs.declared.frames.Put.{Put}

-- ---- patches

-- two patches, the second right before the first
pub patch_before : (x y xs a b : List ℕ) (at k : ℕ) → x ≡ patch xs k b → y ≡ patch x at a → k ≡ at + length a → k ≤ length xs → y ≡ patch xs at (a ++ b)
unfolding patch
patch_before x y xs a b at k e f s h =
    let l : length (take k xs) ≡ k = length-take-le k xs h in
    let rest = b ++ drop (k + length b) xs in
    let t : take at x ≡ take at xs = ap (take at) e ∙ (take-append-le at (take k xs) rest (omega arith) ∙ take-take at k xs (omega arith)) in
    let d : drop (at + length a) x ≡ rest = rw (← s, e) (drop_at (take k xs) rest k l) in
    let n : at + length (a ++ b) ≡ k + length b = ap (λ (z : ℕ). at + z) (length-append a b) ∙
    (sym (add_assoc at (length a) (length b)) ∙ ap (λ (z : ℕ). z + length b) (sym s)) in
    f ∙ (ap₂ (λ (p q : List ℕ). p ++ (a ++ q)) t d
    ∙ ap (λ (z : List ℕ). take at xs ++ z) (sym (append_assoc a b (drop (k + length b) xs)) ∙ ap (λ (z : ℕ). (a ++ b) ++ drop z xs) (sym n)))

-- a patch inside the first of two
pub patch_inside : (xs rest ys : List ℕ) (at : ℕ) → at + length ys ≤ length xs → patch (xs ++ rest) at ys ≡ patch xs at ys ++ rest
unfolding patch
patch_inside xs rest ys at l = rw (take-append-le at xs rest (omega arith), drop-append-le (at + length ys) xs rest l) (simp append_assoc)

-- what was put is there
pub put_there : (x xs ys : List ℕ) (at e : ℕ) → x ≡ patch xs at ys → e ≡ at + length ys → at ≤ length xs → take (e - at) (drop at x) ≡ ys
unfolding patch
put_there x xs ys at e p q h =
    let n : e - at ≡ length ys = omega arith in
    rw (p, n, drop_at (take at xs) (ys ++ drop (at + length ys) xs) at (length-take-le at xs h)) (take_at ys _ (length ys) refl)

-- ---- a code

changed : (t : Bool) (x a b : List ℕ) → t ≡ same_bytes x b → x ≡ a → t ≡ same_bytes a b
changed t x a b e f = e ∙ ap (λ (z : List ℕ). same_bytes z b) f

module _ (sd et : ℕ) (code o o' : List ℕ) (at e : ℕ) (h : at ≤ length o) (p : o' ≡ patch o at (tidy_code sd et code))
    (q : e ≡ at + length (tidy_code sd et code)) where
  there : take (e - at) (drop at o') ≡ tidy_code sd et code
  there = put_there o' o (tidy_code sd et code) at e p q h

  pub code_kept : true ≡ same_bytes (take (e - at) (drop at o')) code → Puts (tidy_code sd et code) (cut_code sd et code) at o o' (record { to = e; cut = 0 })
  unfolding cut_code
  code_kept t = record { left = p; behind = q; counts = passes _ _ _ _ (sym (changed _ _ _ _ t there)) refl }

  pub code_cut : false ≡ same_bytes (take (e - at) (drop at o')) code → Puts (tidy_code sd et code) (cut_code sd et code) at o o' (record { to = e; cut = 1 })
  unfolding cut_code
  code_cut t = record { left = p; behind = q; counts = fails _ _ _ _ (sym (changed _ _ _ _ t there)) refl }

at_most_1 : (t : Bool) → (t ! 1 ⨾ 0) ≤ 1
unfolding ◌!◌⨾◌
at_most_1 true = omega arith
at_most_1 false = omega arith

pub cut_few : (sd et : ℕ) (code : List ℕ) → cut_code sd et code ≤ 1
unfolding cut_code
cut_few sd et code = at_most_1 (same_bytes (tidy_code sd et code) code)

-- a component's code that was put ends no later than it did as it came, and counts once at most
pub record Coded (part : List ℕ) (to : ℕ) (out out' : List ℕ) (p : Put) : Type 0 where
  pub ends : p.to ≤ to + length part
  pub few : p.cut ≤ 1
  pub long : length out' ≡ length out

pub coded :
    (sd et : ℕ) {to : ℕ} {code part out out' : List ℕ} {p : Put} → code ≡ part → Puts (tidy_code sd et code) (cut_code sd et code) to out out' p →
    length out' ≡ length out → Coded part to out out' p
coded sd et {code = code} e h l = record {
  ends = omega (arith, h.behind, tidy_codes.never_longer sd et code, ap length e);
  few = omega (arith, h.counts, cut_few sd et code);
  long = l;
}

-- ---- a tile

-- a whole tile is as long as its head says
pub tile_sized : (d : List ℕ) (at : ℕ) → TileWhole d at →
    (length (tile_at d at).ys ≡ le16 d (at + 13)) × ((length (tile_at d at).cbs ≡ le16 d (at + 15)) × (length (tile_at d at).crs ≡ le16 d (at + 17)))
unfolding tile_at
tile_sized d at w =
    let a = le16 d (at + 13) in
    let b = le16 d (at + 15) in
    let c = le16 d (at + 17) in (
      length-take-le a (drop (at + 19) d) (omega (arith, w.there, w.lengths, length-drop (at + 19) d)),
      (
        length-take-le b (drop (at + 19 + a) d) (omega (arith, w.there, w.lengths, length-drop (at + 19 + a) d)),
        length-take-le c (drop (at + 19 + a + b) d) (omega (arith, w.there, w.lengths, length-drop (at + 19 + a + b) d)),
      ),
    )

pub codes_room : (d : List ℕ) (at : ℕ) → TileWhole d at →
    19 + length (tile_at d at).ys + length (tile_at d at).cbs + length (tile_at d at).crs ≡ size_at d at
codes_room d at w = let s = tile_sized d at w in rw (s.0, s.1.0, s.1.1) (sym w.lengths)

pub tile_shorter : (sd et : ℕ) (d : List ℕ) (at : ℕ) → TileWhole d at → length (tile_of (tidy_tile sd et (tile_at d at))) ≤ size_at d at
unfolding tile_len tidy_tile
tile_shorter sd et d at w =
    let t = tile_at d at in
    let n = tidy_codes.never_longer sd et in
    omega (arith, tile_length (tidy_tile sd et t), codes_room d at w, n t.ys, n t.cbs, n t.crs)

head_long : (t : Tile) (a b c : ℕ) → length (head_with t a b c) ≡ 19
unfolding head_with bytes16 bytes32
head_long t a b c = refl

tile_is : (sd et : ℕ) (t : Tile) →
    head_with t (length (tidy_code sd et t.ys)) (length (tidy_code sd et t.cbs)) (length (tidy_code sd et t.crs))
    ++ (tidy_code sd et t.ys ++ (tidy_code sd et t.cbs ++ tidy_code sd et t.crs))
    ≡ tile_of (tidy_tile sd et t)
unfolding tile_of tile_head tile_len head_with tidy_tile
tile_is sd et t = refl

pub head_put : (t : Tile) (o o' : List ℕ) (to x y ly lcb lcr : ℕ) → x ≡ t.x → y ≡ t.y →
    o' ≡ patch o to (bytes16 0xCAC3 ++ (bytes32 (19 + ly + lcb + lcr) ++ (t.qy ∷ t.qcb ∷ t.qcr ∷ (bytes16 x ++ (bytes16 y
    ++ (bytes16 ly ++ (bytes16 lcb ++ bytes16 lcr))))))) →
    o' ≡ patch o to (head_with t ly lcb lcr)
unfolding head_with
head_put t o o' to x y ly lcb lcr ex ey e = rw (← ex, ← ey) e

-- o1 .. o3 are the output after each code, o4 after the head
module _ (sd et : ℕ) (t : Tile) (o o1 o2 o3 o4 : List ℕ) (to : ℕ) (y cb cr : Put) where
  codes_put :
      to + 19 ≤ length o →
      Puts (tidy_code sd et t.ys) (cut_code sd et t.ys) (to + 19) o o1 y →
      Puts (tidy_code sd et t.cbs) (cut_code sd et t.cbs) y.to o1 o2 cb →
      Puts (tidy_code sd et t.crs) (cut_code sd et t.crs) cb.to o2 o3 cr →
      o4 ≡ patch o3 to (head_with t (y.to - (to + 19)) (cb.to - y.to) (cr.to - cb.to)) →
      Puts (tile_of (tidy_tile sd et t)) (tile_cut sd et t) to o o4 (record { to = cr.to; cut = y.cut + cb.cut + cr.cut })
  unfolding tile_cut
  codes_put h p1 p2 p3 p4 =
      let Y = tidy_code sd et t.ys in
      let Cb = tidy_code sd et t.cbs in
      let Cr = tidy_code sd et t.crs in
      let H = head_with t (length Y) (length Cb) (length Cr) in
      let n1 : y.to - (to + 19) ≡ length Y = omega (arith, p1.behind) in
      let n2 : cb.to - y.to ≡ length Cb = omega (arith, p2.behind) in
      let n3 : cr.to - cb.to ≡ length Cr = omega (arith, p3.behind) in
      let w2 = patch_next o1 o2 o Y Cb (to + 19) y.to p1.left p2.left p1.behind h in
      let w3 = patch_next o2 o3 o (Y ++ Cb) Cr (to + 19) cb.to w2 p3.left (omega (arith, p1.behind, p2.behind, length-append Y Cb)) h
      ∙ ap (patch o (to + 19)) (append_assoc Y Cb Cr) in
      let w4 : o4 ≡ patch o3 to H = p4 ∙ rw (n1, n2, n3) refl in
      let hl = head_long t (length Y) (length Cb) (length Cr) in
      let w5 = patch_before o3 o4 o H (Y ++ (Cb ++ Cr)) to (to + 19) w3 w4 (omega arith) h ∙ ap (patch o to) (tile_is sd et t) in
      let long : length (tile_of (tidy_tile sd et t)) ≡ 19 + (length Y + (length Cb + length Cr)) =
      ap length (sym (tile_is sd et t)) ∙ (length-append H (Y ++ (Cb ++ Cr)) ∙ rw (hl, length-append Y (Cb ++ Cr), length-append Cb Cr) refl) in
      record {
        left = w5;
        behind = omega (arith, long, p1.behind, p2.behind, p3.behind);
        counts = omega (arith, p1.counts, p2.counts, p3.counts);
      }

  -- the codes as they were read from the message
  pub tile-put :
      (ys cbs crs : List ℕ) → ys ≡ code_part t 0 → cbs ≡ code_part t 1 → crs ≡ code_part t 2 → to + 19 ≤ length o →
      Puts (tidy_code sd et ys) (cut_code sd et ys) (to + 19) o o1 y →
      Puts (tidy_code sd et cbs) (cut_code sd et cbs) y.to o1 o2 cb →
      Puts (tidy_code sd et crs) (cut_code sd et crs) cb.to o2 o3 cr →
      o4 ≡ patch o3 to (head_with t (y.to - (to + 19)) (cb.to - y.to) (cr.to - cb.to)) →
      Puts (tile_of (tidy_tile sd et t)) (tile_cut sd et t) to o o4 (record { to = cr.to; cut = y.cut + cb.cut + cr.cut })
  unfolding code_part
  tile-put ys cbs crs e1 e2 e3 h p1 p2 p3 p4 =
      codes_put h (subst (λ (z : List ℕ). Puts (tidy_code sd et z) (cut_code sd et z) (to + 19) o o1 y) e1 p1)
      (subst (λ (z : List ℕ). Puts (tidy_code sd et z) (cut_code sd et z) y.to o1 o2 cb) e2 p2)
      (subst (λ (z : List ℕ). Puts (tidy_code sd et z) (cut_code sd et z) cb.to o2 o3 cr) e3 p3) p4

pub cut_three : (sd et : ℕ) (t : Tile) → tile_cut sd et t ≤ 3
unfolding tile_cut
cut_three sd et t = omega (arith, cut_few sd et t.ys, cut_few sd et t.cbs, cut_few sd et t.crs)

-- ---- the loop over the tiles: done is what has been put so far, from a place on

left : (n i : ℕ) → i < n → n - i ≡ suc (n - (i + 1))
left n i h = omega arith

pub record SoFar (sd et : ℕ) (d : List ℕ) (n i at to cut from : ℕ) (out₀ out : List ℕ) : Type 0 where
  pub done : List ℕ
  pub is : out ≡ patch out₀ from done
  pub here : to ≡ from + length done
  pub rest : done ++ tidy_tiles sd et d (n - i) at ≡ tidy_tiles sd et d n 0
  pub counted : cut + cut_tiles sd et d (n - i) at ≡ cut_tiles sd et d n 0
  pub few : cut ≤ 3 * i
  pub short : length done ≤ at
  pub inside : at ≤ length d
  pub whole : AllWhole (n - i) d at

pub so_far_start : (sd et : ℕ) (d : List ℕ) (n from : ℕ) (out : List ℕ) → AllWhole n d 0 → SoFar sd et d n 0 0 from 0 from out out
so_far_start sd et d n from out w = record {
  done = [];
  is = patch_none out from;
  here = omega arith;
  rest = rw sub-zero refl;
  counted = rw (sub-zero, zero-add) refl;
  few = omega arith;
  short = omega arith;
  inside = omega arith;
  whole = subst (λ (k : ℕ). AllWhole k d 0) (sym (sub-zero n)) w;
}

module _ (sd et : ℕ) (d : List ℕ) (n i at to cut from : ℕ) (out₀ out : List ℕ) (f : SoFar sd et d n i at to cut from out₀ out) where
  module _ (l : i < n) where
    both_whole : TileWhole d at × AllWhole (n - (i + 1)) d (at + size_at d at)
    unfolding AllWhole
    both_whole = subst (λ (k : ℕ). AllWhole k d at) (left n i l) f.whole

    pub tile_whole : TileWhole d at
    tile_whole = both_whole.0

    tiles_step : tidy_tiles sd et d (n - i) at ≡ tile_of (tidy_tile sd et (tile_at d at)) ++ tidy_tiles sd et d (n - (i + 1)) (at + size_at d at)
    unfolding tidy_tiles
    tiles_step = rw (left n i l) refl

    cut_step : cut_tiles sd et d (n - i) at ≡ tile_cut sd et (tile_at d at) + cut_tiles sd et d (n - (i + 1)) (at + size_at d at)
    unfolding cut_tiles tile_cut
    cut_step = rw (left n i l) (omega arith)

    pub so_far_grows : (out' : List ℕ) (p : Put) (size : ℕ) → from ≤ length out₀ → size ≡ size_at d at →
        Puts (tile_of (tidy_tile sd et (tile_at d at))) (tile_cut sd et (tile_at d at)) to out out' p →
        SoFar sd et d n (i + 1) (at + size) p.to (cut + p.cut) from out₀ out'
    so_far_grows out' p size h e q =
        let t = tile_of (tidy_tile sd et (tile_at d at)) in
        let w = both_whole in
        let s = tile_shorter sd et d at w.0 in
        let a = length-append f.done t in
        record {
          done = f.done ++ t;
          is = patch_next out out' out₀ f.done t from to f.is q.left f.here h;
          here = omega (arith, f.here, q.behind, a);
          rest = rw e (append_assoc f.done t _ ∙ (ap (λ (z : List ℕ). f.done ++ z) (sym tiles_step) ∙ f.rest));
          counted = rw e (omega (arith, f.counted, cut_step, q.counts));
          few = omega (arith, f.few, q.counts, cut_three sd et (tile_at d at));
          short = omega (arith, f.short, a, s, e);
          inside = omega (arith, w.0.there, e);
          whole = subst (λ (k : ℕ). AllWhole (n - (i + 1)) d (at + k)) (sym e) w.1;
        }

  pub so_far_ends : n ≤ i → Puts (tidy_tiles sd et d n 0) (cut_tiles sd et d n 0) from out₀ out (record { to = to; cut = cut })
  unfolding tidy_tiles cut_tiles
  so_far_ends l =
      let z : n - i ≡ 0 = omega arith in
      let e : f.done ≡ tidy_tiles sd et d n 0 = sym (append-nil f.done) ∙ subst (λ (k : ℕ). f.done ++ tidy_tiles sd et d k at ≡ tidy_tiles sd et d n 0) z
      f.rest in
      let c : cut + 0 ≡ cut_tiles sd et d n 0 = subst (λ (k : ℕ). cut + cut_tiles sd et d k at ≡ cut_tiles sd et d n 0) z f.counted in
      record {
        left = f.is ∙ ap (patch out₀ from) e;
        behind = f.here ∙ ap (λ (xs : List ℕ). from + length xs) e;
        counts = omega (arith, c);
      }

-- all tiles are never longer than they came
pub tiles_shorter : (sd et : ℕ) (d : List ℕ) (n at : ℕ) → at ≤ length d → AllWhole n d at → at + length (tidy_tiles sd et d n at) ≤ length d
unfolding tidy_tiles AllWhole
tiles_shorter sd et d zero at l w = omega arith
tiles_shorter sd et d (suc n) at l w =
    let t = tile_of (tidy_tile sd et (tile_at d at)) in
    let s = tile_shorter sd et d at w.0 in
    let a = length-append t (tidy_tiles sd et d n (at + size_at d at)) in
    let m = tiles_shorter sd et d n (at + size_at d at) w.0.there w.1 in
    omega arith

-- ---- the frame

-- the tileset's data and all before it lie in the message
pub data_long : (m : List ℕ) (at : ℕ) → SetGood m at → length (data_of m at) ≡ data_size m at
unfolding data_of
data_long m at g =
    let a = at + (22 + 5 * quant_count m at) in
    length-take-le (data_size m at) (drop a m) (omega (arith, g.there, g.size, length-drop a m))

pub record Placed (m : List ℕ) (sp from end : ℕ) : Type 0 where
  pub set : sp ≡ set_place m
  pub tiles : from ≡ sp + (22 + 5 * quant_count m sp)
  pub last : end ≡ sp + size_at m sp
  pub inside : end ≤ length m
  pub all : from + length (data_of m sp) ≡ end

pub placed : (m : List ℕ) (sp q len : ℕ) → sp ≡ set_place m → SetGood m sp → q ≡ quant_count m sp → len ≡ length (data_of m sp) →
    Placed m sp (sp + (22 + 5 * q)) (sp + (22 + 5 * q) + len)
placed m sp q len e g f l =
    let d = data_long m sp g in
    record {
      set = e;
      tiles = ap (λ (k : ℕ). sp + (22 + 5 * k)) f;
      last = omega (arith, g.size, d, f, l);
      inside = omega (arith, g.there, g.size, d, f, l);
      all = omega (arith, f, l);
    }

module _ (sd et : ℕ) (m : List ℕ) (sp from end : ℕ) (z : Placed m sp from end) where
  unfoldable pub fills : List ℕ → List ℕ
  fills F = patch (patch F (sp + 2) (bytes32 (22 + 5 * quant_count m sp + length (tiles_tidied sd et m)))) (sp + 18) (bytes32 (length (tiles_tidied sd et m)))

  pub frame_is : frame_tidied sd et m ≡ fills (take from m) ++ (tiles_tidied sd et m ++ drop end m)
  unfolding fills frame_tidied front_tidied tiles_place end_place
  frame_is = rw (z.tiles, z.last, z.set) refl

  pub front_length : length (take from m) ≡ from
  front_length = length-take-le from m (omega (arith, z.inside, z.all))

  fills_length : (F : List ℕ) → sp + 22 ≤ length F → length (fills F) ≡ length F
  unfolding fills bytes32
  fills_length F h =
      let a = patch_length F (bytes32 (22 + 5 * quant_count m sp + length (tiles_tidied sd et m))) (sp + 2) (omega arith) in
      patch_length _ (bytes32 (length (tiles_tidied sd et m))) (sp + 18) (omega (arith, a)) ∙ a

  pub frame_length : length (frame_tidied sd et m) ≡ from + (length (tiles_tidied sd et m) + (length m - end))
  frame_length =
      let F = take from m in
      let T = tiles_tidied sd et m in
      let E = drop end m in
      let a = fills_length F (omega (arith, front_length, z.tiles)) in
      ap length frame_is ∙ (length-append (fills F) (T ++ E) ∙ rw (a, front_length, length-append T E, length-drop end m) refl)

  module _ (o o1 o2 o3 : List ℕ) (cut : ℕ) (r : Put) where
    pub frame_put :
        o1 ≡ patch o 0 (take from m) → Puts (tiles_tidied sd et m) cut from o1 o2 r → o3 ≡ closed_as m sp end o2 from r.to →
        Puts (frame_tidied sd et m) cut 0 o o3 (record { to = r.to + (length m - end); cut = r.cut })
    unfolding closed_as fills bytes32
    frame_put p1 p2 p3 =
        let F = take from m in
        let T = tiles_tidied sd et m in
        let E = drop end m in
        let S = T ++ E in
        let l = front_length in
        let n1 : r.to - sp ≡ 22 + 5 * quant_count m sp + length T = omega (arith, p2.behind, z.tiles) in
        let n2 : r.to - from ≡ length T = omega (arith, p2.behind) in
        let b1 = bytes32 (22 + 5 * quant_count m sp + length T) in
        let b2 = bytes32 (length T) in
        let w2 = patch_next o1 o2 o F T 0 from p1 p2.left (omega arith) (omega arith) in
        let w3 = patch_next o2 (patch o2 r.to E) o (F ++ T) E 0 r.to w2 refl (omega (arith, p2.behind, length-append F T)) (omega arith)
        ∙ ap (patch o 0) (append_assoc F T E) in
        let p4 : o3 ≡ patch (patch (patch o2 r.to E) (0 + (sp + 2)) b1) (0 + (sp + 18)) b2 = p3 ∙ rw (n1, n2, zero-add, zero-add) refl in
        let s1 : sp + 2 + 4 ≤ length F = omega (arith, l, z.tiles) in
        let w4 = patch_refill _ _ o (F ++ S) b1 0 (sp + 2) w3 refl (omega (arith, s1, length-append F S)) (omega arith)
        ∙ ap (patch o 0) (patch_inside F S b1 (sp + 2) (omega (arith, s1))) in
        let l4 = patch_length F b1 (sp + 2) (omega (arith, s1)) in
        let s2 : sp + 18 + 4 ≤ length (patch F (sp + 2) b1) = omega (arith, l, l4, z.tiles) in
        let w5 = patch_refill _ o3 o (patch F (sp + 2) b1 ++ S) b2 0 (sp + 18) w4 p4 (omega (arith, s2, length-append (patch F (sp + 2) b1) S)) (omega arith)
        ∙ ap (patch o 0) (patch_inside (patch F (sp + 2) b1) S b2 (sp + 18) (omega (arith, s2))) in
        record {
          left = w5 ∙ ap (patch o 0) (sym frame_is);
          behind = omega (arith, p2.behind, frame_length);
          counts = p2.counts;
        }

-- a frame with its codes tidied is never longer than it came
pub frame_shorter : (sd et : ℕ) (m : List ℕ) → Laid m → length (frame_tidied sd et m) ≤ length m
unfolding tiles_tidied
frame_shorter sd et m w =
    let sp = set_place m in
    let z = placed m sp (quant_count m sp) (length (data_of m sp)) refl w.front.set.good refl refl in
    let l = frame_length sd et m sp _ _ z in
    let t = tiles_shorter sd et (data_of m sp) (tile_count m sp) 0 (omega arith) w.tiles in
    omega (arith, l, t, z.inside)

-- what is read of a message whose layout is in order: the region's size, the number of quantiser sets and of tiles, the tiles' data
pub record Found (m : List ℕ) (size q n : ℕ) (d : List ℕ) : Type 0 where
  pub good : SetGood m (14 + size)
  pub places : Placed m (14 + size) (14 + size + (22 + 5 * q)) (14 + size + (22 + 5 * q) + length d)
  pub few : n ≤ 2048
  pub count : n ≡ tile_count m (set_place m)
  pub tiles : d ≡ data_of m (set_place m)
  pub whole : AllWhole n d 0

pub set_here : (m : List ℕ) (size : ℕ) → Laid m → size ≡ le32 m 16 → (14 + size ≡ set_place m) × SetGood m (14 + size)
unfolding set_place size_at
set_here m size w e =
    let p : 14 + size ≡ set_place m = ap (λ (k : ℕ). 14 + k) e in
    (p, subst (SetGood m) (sym p) w.front.set.good)

pub found : (m : List ℕ) (size q n : ℕ) (d : List ℕ) → Laid m → size ≡ le32 m 16 → q ≡ get_or m (14 + size + 14) 0 → n ≡ le16 m (14 + size + 16) →
    d ≡ data_of m (14 + size) → Found m size q n d
unfolding quant_count tile_count
found m size q n d w es eq en ed =
    let h = set_here m size w es in
    let c : n ≡ tile_count m (set_place m) = en ∙ ap (tile_count m) h.0 in
    let e : d ≡ data_of m (set_place m) = ed ∙ ap (data_of m) h.0 in
    record {
      good = h.1;
      places = placed m (14 + size) q (length d) h.0 h.1 eq (ap length ed);
      few = omega (arith, h.1.count, en);
      count = c;
      tiles = e;
      whole = subst (λ (k : ℕ). AllWhole k d 0) (sym c) (subst (λ (z : List ℕ). AllWhole (tile_count m (set_place m)) z 0) (sym e) w.tiles);
    }

pub found_put : (sd et : ℕ) (m d o o' : List ℕ) (size q n from : ℕ) (r : Put) → Found m size q n d → Puts (tidy_tiles sd et d n 0) (cut_tiles sd et d n 0)
    from o o' r →
    Puts (tiles_tidied sd et m) (cut_tiles sd et (data_of m (set_place m)) (tile_count m (set_place m)) 0) from o o' r
unfolding tiles_tidied
found_put sd et m d o o' size q n from r f p =
    subst (λ (k : ℕ). Puts (tidy_tiles sd et (data_of m (set_place m)) k 0) (cut_tiles sd et (data_of m (set_place m)) k 0) from o o' r) f.count
    (subst (λ (z : List ℕ). Puts (tidy_tiles sd et z n 0) (cut_tiles sd et z n 0) from o o' r) f.tiles p)
