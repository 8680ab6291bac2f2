-- Our own frames are taken, and their tiles are the ones written.
use Rattle.std.specs.Prelude.{ℕ, zero, suc, ◌+◌, ◌*◌, ◌/◌, ◌%◌, ◌<◌, ◌≤◌, ◌≡◌, refl, true, List, [], ◌∷◌, ◌++◌, length, get_or, take, drop}
use Rattle.std.proofs.Common.{ap, sym, ◌∙◌, subst, arith, add-zero, length-append, length-drop, drop_at, drop-drop, le-leb, eq-eqb}
use Rattle.std.proofs.Math.Seq.{take-append_seam}
use Rattle.std.proofs.lemmas.List.{take-append-le, drop-append-le}
use Rattle.wire.specs.Le.{le16, le32, bytes16, bytes32}
use Rattle.whole.specs.laws.Row.{passes}
use Rattle.quants.specs.Quants.{quant_bytes}
use Rattle.quants.specs.laws.Quants.{pairs_long}
use Rattle.frame_layout.specs.Bytes.{Tile, tile_of, tiles_of, begin_of, region_of, props_of, set_count, set_head, end_of, front_of, frame_of}
use Rattle.frame_layout.specs.Reader.{size_at, codes_fault, codec_judge, codec_fault, begin_judge, begin_fault, rect_count, region_judge, last_judge}
use Rattle.frame_layout.specs.Reader.{region_fault, props_good, set_judge, halves_fault, quants_fault, quant_count, tile_count, data_size, set_at, data_of}
use Rattle.frame_layout.specs.Reader.{tiles_in, set_fault, end_fault, set_place, end_place, frame_fault, frame_tiles}
use Rattle.frame_layout.specs.laws.Here.{tile_length, tile_least, two_bytes, four_bytes, past, byte_in, le16_in, le32_in}
use Rattle.frame_layout.specs.laws.Tiles.{none, least_none, fixed_none, Good, listed, tiles_walked}

-- ---- the quantiser sets of a frame: ten values a set, one set or two, each value from 6 to 15

abbrev pub Each : List ℕ → Type 0
Each [] = Unit
Each (x ∷ xs) = ((6 ≤ x) × (x ≤ 15)) × Each xs

pub record Sets (q : List ℕ) : Type 0 where
  pub tens : length q ≡ 10 * set_count q
  pub some : 1 ≤ set_count q
  pub few : set_count q ≤ 2
  pub each : Each q

pub sets_long : (q : List ℕ) → length q ≡ 10 * set_count q → length (quant_bytes q) ≡ 5 * set_count q
sets_long q t = pairs_long (5 * set_count q) q (omega arith)

-- the j-th of them, five bytes
unfoldable pub sent_set : List ℕ → ℕ → List ℕ
sent_set q j = take 5 (drop (5 * j) (quant_bytes q))

-- the fields of a frame's front, behind which anything may stand
pub record Front (m : List ℕ) (w h et : ℕ) (q : List ℕ) (n size : ℕ) (rest : List ℕ) : Type 0 where
  pub long : length m ≡ 59 + 5 * set_count q + length rest
  pub begin : (le16 m 0 ≡ 0xCCC4) × ((le32 m 2 ≡ 14) × ((get_or m 6 0 ≡ 1) × ((get_or m 7 0 ≡ 0) × (le16 m 12 ≡ 1))))
  pub region : (le16 m 14 ≡ 0xCCC6) × ((le32 m 16 ≡ 23) × ((get_or m 20 0 ≡ 1) × (get_or m 21 0 ≡ 0)))
  pub rects : (get_or m 22 0 ≡ 1) × ((le16 m 23 ≡ 1) × ((le16 m 33 ≡ 0xCAC1) × (le16 m 35 ≡ 1)))
  pub rect : (le16 m 25 ≡ 0) × ((le16 m 27 ≡ 0) × ((le16 m 29 ≡ w) × (le16 m 31 ≡ h)))
  pub set : (le16 m 37 ≡ 0xCCC7) × ((le32 m 39 ≡ 22 + 5 * set_count q + size) × ((get_or m 43 0 ≡ 1) × (get_or m 44 0 ≡ 0)))
  pub fixed : (le16 m 45 ≡ 0xCAC2) × ((le16 m 47 ≡ 0) × ((le16 m 49 ≡ props_of et) × (get_or m 52 0 ≡ 64)))
  pub counts : (get_or m 51 0 ≡ set_count q) × ((le16 m 53 ≡ n) × (le32 m 55 ≡ size))
  pub quants : drop 59 m ≡ quant_bytes q ++ rest
  pub behind : drop (59 + 5 * set_count q) m ≡ rest

small : (et : ℕ) → et < 16 → props_of et < 65536
unfolding props_of
small et l = omega arith

-- 59 bytes, then the sets
rest_behind : (m q rest : List ℕ) → length q ≡ 10 * set_count q → drop 59 m ≡ quant_bytes q ++ rest → drop (59 + 5 * set_count q) m ≡ rest
rest_behind m q rest t e =
    sym (drop-drop (5 * set_count q) 59 m) ∙ (ap (drop (5 * set_count q)) e ∙ drop_at (quant_bytes q) rest (5 * set_count q) (sets_long q t))

pub front : (idx w h et : ℕ) (q : List ℕ) (n size : ℕ) (rest : List ℕ) → w < 65536 → h < 65536 → et < 16 → n < 65536 → 22 + 5 * set_count q + size <
    4294967296 →
    length q ≡ 10 * set_count q → Front (front_of idx w h et q n size ++ rest) w h et q n size rest
unfolding front_of begin_of region_of set_head bytes16 bytes32 le16 le32
front idx w h et q n size rest lw lh le ln ls t = record {
  long = omega (arith, length-append (quant_bytes q) rest, sets_long q t);
  begin = (refl, (refl, (refl, (refl, refl))));
  region = (refl, (refl, (refl, refl)));
  rects = (refl, (refl, (refl, refl)));
  rect = (refl, (refl, (two_bytes w lw, two_bytes h lh)));
  set = (refl, (four_bytes (22 + 5 * set_count q + size) ls, (refl, refl)));
  fixed = (refl, (refl, (two_bytes (props_of et) (small et le), refl)));
  counts = (refl, (two_bytes n ln, four_bytes size (omega arith)));
  quants = refl;
  behind = rest_behind (front_of idx w h et q n size ++ rest) q rest t refl;
}

codec_none : (m : List ℕ) (at : ℕ) → get_or m (at + 6) 0 ≡ 1 → get_or m (at + 7) 0 ≡ 0 → 0 ≡ codec_fault m at
unfolding codec_fault codec_judge
codec_none m at a b = rw (a, b) (passes _ _ _ _ refl (passes _ _ _ _ refl refl))

props-good : (et : ℕ) → et < 16 → true ≡ props_good et (props_of et)
unfolding props_good props_of
props-good et l =
    let p = 1 + 16 + 64 + 1024 * et + 16384 in
    passes _ _ _ _ (eq-eqb (p % 2) 1 (omega arith)) (passes _ _ _ _ (eq-eqb (p / 16 % 4) 1 (omega arith)) (passes _ _ _ _ (eq-eqb (p / 64 % 16) 1 (omega arith))
    (passes _ _ _ _ (eq-eqb (p / 1024 % 16) et (omega arith)) (sym (eq-eqb (p / 16384) 1 (omega arith))))))

set_none : (et size s n bytes : ℕ) → et < 16 → n ≤ 2048 → size ≡ 22 + 5 * s + bytes → 0 ≡ set_judge et size 0xCAC2 0 (props_of et) s 64 n bytes
unfolding set_judge
set_none et size s n bytes l c e =
    passes _ _ _ _ refl (passes _ _ _ _ refl (passes _ _ _ _ (sym (props-good et l)) (passes _ _ _ _ refl (passes _ _ _ _ (le-leb n 2048 c)
    (passes _ _ _ _ (eq-eqb size (22 + 5 * s + bytes) e) refl)))))

halves_none : (a b : ℕ) → (6 ≤ a) × (a ≤ 15) → (6 ≤ b) × (b ≤ 15) → 0 ≡ halves_fault (a + 16 * b)
unfolding halves_fault
halves_none a b p q =
    passes _ _ _ _ (le-leb 6 ((a + 16 * b) % 16) (omega arith))
    (passes _ _ _ _ (le-leb 6 ((a + 16 * b) / 16) (omega arith)) (passes _ _ _ _ (le-leb ((a + 16 * b) / 16) 15 (omega arith)) refl))

-- n bytes of good values
quants_none : (m : List ℕ) (n at : ℕ) (q rest : List ℕ) → length q ≡ 2 * n → Each q → drop at m ≡ quant_bytes q ++ rest → 0 ≡ quants_fault m n at
unfolding quants_fault quant_bytes
quants_none m zero at q rest l g e = refl
quants_none m (suc n) at [] rest l g e = absurd (omega arith)
quants_none m (suc n) at (a ∷ []) rest l g e = absurd (omega arith)
quants_none m (suc n) at (a ∷ b ∷ q) rest l g e =
    let x : get_or m at 0 ≡ a + 16 * b = ap (λ (k : ℕ). get_or m k 0) (sym (add-zero at)) ∙ byte_in m _ at 0 e in
    none _ _ (rw x (halves_none a b g.0 g.1.0))
    (quants_none m n (at + 1) q rest (omega arith) g.1.1 (sym (drop-drop 1 at m) ∙ ap (drop 1) e))

end_none : (m : List ℕ) (at : ℕ) → drop at m ≡ end_of → length m ≡ at + 8 → 0 ≡ end_fault m at
unfolding end_fault end_of bytes16 bytes32 size_at le16 le32
end_none m at e l =
    let k : le16 m (at + 0) ≡ 0xCCC5 = le16_in m end_of at 0 e in
    let s : le32 m (at + 2) ≡ 8 = le32_in m end_of at 2 e in
    none _ _ (fixed_none 0xCCC5 8 m at (omega arith) (ap (le16 m) (sym (add-zero at)) ∙ k) s (omega arith))
    (none _ _ (codec_none m at (byte_in m end_of at 6 e) (byte_in m end_of at 7 e)) (passes _ _ _ _ (eq-eqb (length m) (at + 8) l) refl))

-- the set that the reader finds by a number is the one written there
pub set_found : (m q rest : List ℕ) (j : ℕ) → length q ≡ 10 * set_count q → j < set_count q → drop 59 m ≡ quant_bytes q ++ rest → set_at m 37 j ≡ sent_set q j
unfolding set_at sent_set
set_found m q rest j t l e =
    let k = sets_long q t in
    let a : drop (59 + 5 * j) m ≡ drop (5 * j) (quant_bytes q) ++ rest =
    sym (drop-drop (5 * j) 59 m) ∙ (ap (drop (5 * j)) e ∙ drop-append-le (5 * j) (quant_bytes q) rest (omega arith)) in
    let b : 37 + (22 + 5 * j) ≡ 59 + 5 * j = omega arith in
    rw (b, a) (take-append-le 5 (drop (5 * j) (quant_bytes q)) rest (omega (arith, length-drop (5 * j) (quant_bytes q))))

pub length_behind : (D : List ℕ) → length (D ++ end_of) ≡ length D + 8
unfolding end_of bytes16 bytes32
length_behind D = length-append D end_of

length_end : (s : ℕ) (D : List ℕ) → 59 + 5 * s + length (D ++ end_of) ≡ 59 + 5 * s + length D + 8
length_end s D = omega (arith, length_behind D)

end_at : (s k : ℕ) → 59 + 5 * s + k ≡ 37 + (22 + 5 * s + k)
end_at s k = omega arith

-- what is asked of the picture that is written
pub record FrameSent (comp : ℕ → List ℕ → List ℕ → ℕ) (w h et : ℕ) (q : List ℕ) (n : ℕ) (tile : ℕ → Tile) : Type 0 where
  pub wide : w < 65536
  pub high : h < 65536
  pub mode : et < 16
  pub few : n ≤ 2048
  pub sets : Sets q
  pub tiles : (k : ℕ) → k < n → Good (λ (j : ℕ) (code : List ℕ). comp et (sent_set q j) code) w h (set_count q) (tile k)

-- what its frame is to a reader
pub record Taken (comp : ℕ → List ℕ → List ℕ → ℕ) (w h et n : ℕ) (tile : ℕ → Tile) (m : List ℕ) : Type 0 where
  pub fault : 0 ≡ frame_fault comp w h et m
  pub count : tile_count m (set_place m) ≡ n
  pub tiles : frame_tiles m ≡ listed tile n 0
  pub rects : rect_count m 14 ≡ 1
  pub rect : (le16 m 25 ≡ 0) × ((le16 m 27 ≡ 0) × ((le16 m 29 ≡ w) × (le16 m 31 ≡ h)))

begin_none : (m : List ℕ) (w h et : ℕ) (q : List ℕ) (n size : ℕ) (rest : List ℕ) → Front m w h et q n size rest → 0 ≡ begin_fault m 0
unfolding begin_fault begin_judge size_at
begin_none m w h et q n size rest f =
    let b = f.begin in
    none _ _ (fixed_none 0xCCC4 14 m 0 (omega arith) b.0 b.1.0 (omega (arith, f.long, b.1.0)))
    (none _ _ (codec_none m 0 b.1.1.0 b.1.1.1.0) (passes _ _ _ _ (eq-eqb (le16 m 12) 1 b.1.1.1.1) refl))

region_none : (m : List ℕ) (w h et : ℕ) (q : List ℕ) (n size : ℕ) (rest : List ℕ) → Front m w h et q n size rest → 0 ≡ region_fault m 14
unfolding region_fault region_judge last_judge rect_count size_at
region_none m w h et q n size rest f =
    let b = f.region in
    let c = f.rects in
    none _ _ (least_none 0xCCC6 15 m 14 (omega arith) b.0 (omega (arith, b.1.0)) (omega (arith, f.long, b.1.0)))
    (none _ _ (codec_none m 14 b.1.1.0 b.1.1.1)
    (rw (c.1.0, c.0, b.1.0, c.1.1.0, c.1.1.1)
    (none _ _ (passes _ _ _ _ refl (passes _ _ _ _ refl (passes _ _ _ _ refl refl))) (passes _ _ _ _ refl (passes _ _ _ _ refl refl)))))

-- the judge by the message's sets is the one by the sets written
recode : (comp : ℕ → List ℕ → List ℕ → ℕ) (w h et s : ℕ) (m q : List ℕ) (t : Tile) → ((j : ℕ) → j < s → set_at m 37 j ≡ sent_set q j) →
    Good (λ (j : ℕ) (code : List ℕ). comp et (sent_set q j) code) w h s t → Good (λ (j : ℕ) (code : List ℕ). comp et (set_at m 37 j) code) w h s t
unfolding codes_fault
recode comp w h et s m q t by g = record {
  fits = g.fits;
  iy = g.iy;
  icb = g.icb;
  icr = g.icr;
  px = g.px;
  py = g.py;
  codes = rw (by t.qy g.iy, by t.qcb g.icb, by t.qcr g.icr) g.codes;
}

set_fault_none : (comp : ℕ → List ℕ → List ℕ → ℕ) (w h et : ℕ) (q : List ℕ) (n : ℕ) (tile : ℕ → Tile) (m rest : List ℕ) →
    FrameSent comp w h et q n tile → Front m w h et q n (length (tiles_of tile n 0)) rest → rest ≡ tiles_of tile n 0 ++ end_of →
    (0 ≡ set_fault comp w h et m 37) × (tiles_in (data_of m 37) (tile_count m 37) 0 ≡ listed tile n 0)
unfolding set_fault size_at quant_count tile_count data_size data_of
set_fault_none comp w h et q n tile m rest s f r =
    let b = f.set in
    let c = f.counts in
    let x = f.fixed in
    let z = s.sets in
    let place : 37 + (22 + 5 * set_count q) ≡ 59 + 5 * set_count q = omega arith in
    let d : take (length (tiles_of tile n 0)) (drop (59 + 5 * set_count q) m) ≡ tiles_of tile n 0 =
    rw (f.behind, r) (take-append_seam (tiles_of tile n 0) end_of) in
    let t = tiles_walked (λ (j : ℕ) (code : List ℕ). comp et (set_at m 37 j) code) w h (set_count q) tile n
    (λ k l. recode comp w h et (set_count q) m q (tile k) (λ j i. set_found m q rest j z.tens i f.quants) (s.tiles k l))
    (tiles_of tile n 0) n 0 0 (omega arith) (omega arith) refl in
    let long : length rest ≡ length (tiles_of tile n 0) + 8 = rw r (length_behind (tiles_of tile n 0)) in (
      none _ _ (least_none 0xCCC7 22 m 37 (omega arith) b.0 (omega (arith, b.1.0)) (omega (arith, f.long, b.1.0, long)))
          (none _ _ (codec_none m 37 b.1.1.0 b.1.1.1)
          (rw (c.0, c.1.0, c.1.1, b.1.0, x.0, x.1.0, x.1.1.0, x.1.1.1, place, d)
          (none _ _ (set_none et _ (set_count q) n _ s.mode s.few refl)
          (none _ _ (quants_none m (5 * set_count q) 59 q rest (omega (arith, z.tens)) z.each f.quants) t.fault)))),
      rw (c.0, c.1.0, c.1.1, place, d) t.tiles,
    )

-- 2,048 tiles stay below what a length says
tiles_small : (judge : ℕ → List ℕ → ℕ) (w h q : ℕ) (tile : ℕ → Tile) (N : ℕ) → ((k : ℕ) → k < N → Good judge w h q (tile k)) →
    (n i : ℕ) → n + i ≡ N → length (tiles_of tile n i) ≤ n * 196624
unfolding tiles_of
tiles_small judge w h q tile N good zero i s = omega arith
tiles_small judge w h q tile N good (suc n) i s =
    let g = good i (omega arith) in
    let f = g.fits in
    let more = tiles_small judge w h q tile N good n (i + 1) (omega arith) in
    let t = tile_length (tile i) in
    let a = length-append (tile_of (tile i)) (tiles_of tile n (i + 1)) in
    let b = tile_least (tile i) f in
    omega arith

pub sent_small : (comp : ℕ → List ℕ → List ℕ → ℕ) (w h et : ℕ) (q : List ℕ) (n : ℕ) (tile : ℕ → Tile) → FrameSent comp w h et q n tile →
    22 + 5 * set_count q + length (tiles_of tile n 0) < 4294967296
sent_small comp w h et q n tile s =
    let a = tiles_small _ _ _ _ tile n s.tiles n 0 (omega arith) in
    let b = s.few in
    omega (arith, s.sets.few)

pub read_back : (comp : ℕ → List ℕ → List ℕ → ℕ) (idx w h et : ℕ) (q : List ℕ) (n : ℕ) (tile : ℕ → Tile) → FrameSent comp w h et q n tile →
    Taken comp w h et n tile (frame_of idx w h et q n tile)
unfolding frame_of frame_fault frame_tiles set_place end_place tile_count rect_count size_at
read_back comp idx w h et q n tile s =
    let l = sent_small comp w h et q n tile s in
    let D = tiles_of tile n 0 in
    let m = front_of idx w h et q n (length D) ++ (D ++ end_of) in
    let f = front idx w h et q n (length D) (D ++ end_of) s.wide s.high s.mode (omega (arith, s.few)) l s.sets.tens in
    let z = set_fault_none comp w h et q n tile m (D ++ end_of) s f refl in
    let from = 59 + 5 * set_count q in
    let e = end_none m (from + length D) (past m D end_of from (length D) f.behind refl) (f.long ∙ length_end (set_count q) D) in
    record {
      fault = none _ _ (begin_none m w h et q n (length D) (D ++ end_of) f) (none _ _ (region_none m w h et q n (length D) (D ++ end_of) f)
          (rw (f.region.1.0, f.set.1.0) (none _ _ z.0 (subst (λ (k : ℕ). 0 ≡ end_fault m k) (end_at (set_count q) (length D)) e))));
      count = rw f.region.1.0 f.counts.1.0;
      tiles = rw f.region.1.0 z.1;
      rects = f.rects.1.0;
      rect = f.rect;
    }
