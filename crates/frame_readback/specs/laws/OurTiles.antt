-- A frame of our writer is taken by any frame reader whose judge of a component is the component reader, then LL3 sums and scaling;
-- its tiles are the ones written, and each code gives back the samples of the list that was written.
-- Assumes nothing.
use Rattle.std.specs.Prelude.{ℕ, suc, ◌≤◌, ◌<◌, ◌≡◌, refl, Bool, true, false, List, [], ◌∷◌, ◌++◌, ℤ, length, get_or}
use Rattle.std.proofs.Math.Path.{ap}
use Rattle.std.proofs.Common.{sym, ◌∙◌, subst, ⊎_elim, arith}
use Rattle.whole.specs.Row.{◌⇒◌∣◌}
use Rattle.whole.specs.laws.Row.{both, goes_on}
use Rattle.quants.specs.Quants.{same, quant_for, sets_of, chroma_index}
use Rattle.quants.specs.laws.Quants.{quant_back, sets_one, sets_two, index_one, index_two, luma_at, chroma_at}
use Rattle.quants.specs.declared.Quants.{Quants}
use Rattle.frame_layout.specs.Bytes.{set_count, frame_of}
use Rattle.frame_layout.specs.Reader.{codes_fault}
use Rattle.frame_layout.specs.laws.Tiles.{Good}
use Rattle.frame_layout.specs.laws.ReadBack.{Each, Sets, sent_set, FrameSent, Taken, read_back}
use Rattle.bands.specs.Bands.{QuantGood, quant_of, summed, scaled_by, coefficients_fault}
use Rattle.wire.specs.Mode.{is_mode}
use Rattle.wire.specs.laws.Mode.{mode_is}
use Rattle.code_write.specs.Write.{bytes_of}
use Rattle.code_write.specs.laws.Write.{bytes_written}
use Rattle.wave_back.specs.Tile.{tile_back}
use Rattle.tile_back.specs.Component.{component_fault, samples_of}
use Rattle.tile_back.specs.laws.Judged.{reader_takes, reader_samples}
use Rattle.frame_pieces.specs.Parts.{tile_with, tiles_no}
use Rattle.frame_pieces.specs.laws.Parts.{count_is, tens_of}
use Rattle.frame_write.specs.Encode.{list_of, tile_part, part_refusal}
use Rattle.frame_write.specs.Sets.{list_over, tile_over, tile_refusal_over, refusals_over, PictureOver}
use Rattle.frame_write.specs.laws.Encode.{place_good, few, list_long, part_small}
use Rattle.frame_write.specs.laws.Put.{tile_fine}
use Rattle.frame_write.specs.laws.Stops.{stops_none}
use Rattle.frame_write.specs.laws.Picked.{along}

-- ---- the sets of a frame, as the layout asks for them

each_in : (xs : List ℕ) → ((k : ℕ) → k < length xs → (6 ≤ get_or xs k 0) × (get_or xs k 0 ≤ 15)) → Each xs
each_in [] h = tt
each_in (x ∷ xs) h = (h 0 (omega arith), each_in xs (λ k l. h (suc k) (omega arith)))

each_both : (xs ys : List ℕ) → Each xs → Each ys → Each (xs ++ ys)
each_both [] ys a b = b
each_both (x ∷ xs) ys a b = (a.0, each_both xs ys a.1 b)

each_of : (q : List ℕ) → length q ≡ 10 → QuantGood q → Each q
each_of q l g = each_in q (λ k h. (g.low k (omega arith), g.high k (omega arith)))

by_sets : {A : Type 0} (b : Bool) → (b ≡ true → A) → (b ≡ false → A) → A
by_sets true y n = y refl
by_sets false y n = n refl

-- luma's and chroma's quantisers, ten each and good
pub record Tens (q : Quants) : Type 0 where
  pub luma : length q.luma.v ≡ 10
  pub chroma : length q.chroma.v ≡ 10
  pub luma_good : QuantGood q.luma.v
  pub chroma_good : QuantGood q.chroma.v

module _ (q : Quants) (t : Tens q) where
  pub sets_good : Sets (sets_of q)
  sets_good = record {
    tens = tens_of q t.luma t.chroma;
    some = omega (arith, count_is q t.luma t.chroma);
    few = by_sets (same q) (λ e. omega (arith, count_is q t.luma t.chroma, index_one q e))
        (λ e. omega (arith, count_is q t.luma t.chroma, index_two q e));
    each = by_sets (same q) (λ e. subst Each (sym (sets_one q e)) (each_of q.luma.v t.luma t.luma_good))
        (λ e. subst Each (sym (sets_two q e)) (each_both q.luma.v q.chroma.v (each_of q.luma.v t.luma t.luma_good)
        (each_of q.chroma.v t.chroma t.chroma_good)));
  }

  -- the set of Y, and that of Cb and Cr, read
  pub luma_back : quant_of (sent_set (sets_of q) 0) ≡ q.luma.v
  unfolding sent_set
  luma_back = ap quant_of (luma_at q t.luma t.chroma) ∙ quant_back q.luma.v t.luma t.luma_good

  pub chroma_back : quant_of (sent_set (sets_of q) (chroma_index q)) ≡ q.chroma.v
  unfolding sent_set
  chroma_back = ap quant_of (chroma_at q t.luma t.chroma) ∙ quant_back q.chroma.v t.chroma t.chroma_good

-- ---- a component that the writer does not refuse

-- what its bytes are to the reader: no fault, and the samples of the list that was written
pub record PartTaken (mode : ℕ) (q : List ℕ) (zs : List ℤ) : Type 0 where
  pub fault : 0 ≡ component_fault mode q (bytes_of mode zs)
  pub samples : samples_of mode q (bytes_of mode zs) ≡ tile_back (scaled_by q (summed zs))

pub part_taken : (mode : ℕ) (q : List ℕ) (zs : List ℤ) → is_mode mode ≡ true → length zs ≡ 4096 → 0 ≡ part_refusal mode q zs → PartTaken mode q zs
unfolding part_refusal
part_taken mode q zs m l e =
    let small = part_small mode q zs e in
    let judged : 0 ≡ coefficients_fault q zs = (both _ _ e).0 in
    record {
      fault = reader_takes mode q (bytes_of mode zs) zs m small (bytes_written mode zs) l judged;
      samples = reader_samples mode q (bytes_of mode zs) zs m small (bytes_written mode zs) l judged;
    }

-- ---- the frame; comp is the frame reader's judge of a component: mode, the five bytes of its set, its code

-- what is asked: a picture with good quantisers, ten a set, a mode of the two, and no component refused
pub record Sendable (p : List ℕ) (w h mode : ℕ) (q : Quants) : Type 0 where
  pub picture : PictureOver p w h q
  pub luma : length q.luma.v ≡ 10
  pub chroma : length q.chroma.v ≡ 10
  pub allowed : is_mode mode ≡ true
  pub none : 0 ≡ refusals_over p w h mode q (tiles_no w h) 0

-- the same of n tiles, each by its number
pub record SendablePicks (p : List ℕ) (w h mode : ℕ) (q : Quants) (n : ℕ) (pick : ℕ → ℕ) : Type 0 where
  pub picture : PictureOver p w h q
  pub luma : length q.luma.v ≡ 10
  pub chroma : length q.chroma.v ≡ 10
  pub allowed : is_mode mode ≡ true
  pub few : n ≤ 2048
  pub there : (i : ℕ) → i < n → pick i < tiles_no w h
  pub none : (i : ℕ) → i < n → 0 ≡ tile_refusal_over p w h mode q (pick i)

-- all tiles
pub all_sendable : (p : List ℕ) (w h mode : ℕ) (q : Quants) → Sendable p w h mode q → SendablePicks p w h mode q (tiles_no w h) (λ k. k)
all_sendable p w h mode q s = record {
  picture = s.picture;
  luma = s.luma;
  chroma = s.chroma;
  allowed = s.allowed;
  few = few w h s.picture.wider s.picture.higher;
  there = λ i l. l;
  none = λ i l. stops_none (tile_refusal_over p w h mode q) (tiles_no w h) 0 (s.none ∙ along p w h mode q (tiles_no w h) 0) i (omega arith) (omega arith);
}

-- the three components of tile k, read
pub record TileTaken (p : List ℕ) (w h mode : ℕ) (q : Quants) (k : ℕ) : Type 0 where
  pub y : PartTaken mode (quant_for q 0).v (list_over p w h q k 0)
  pub cb : PartTaken mode (quant_for q 1).v (list_over p w h q k 1)
  pub cr : PartTaken mode (quant_for q 2).v (list_over p w h q k 2)

mode_16 : (mode : ℕ) → is_mode mode ≡ true → mode < 16
mode_16 mode e = ⊎_elim {C = mode < 16} (λ z. omega arith) (λ z. omega arith) (mode_is mode e)

module _ (p : List ℕ) (w h mode : ℕ) (q : Quants) (n : ℕ) (pick : ℕ → ℕ) (s : SendablePicks p w h mode q n pick) where
  pub tens : Tens q
  tens = record { luma = s.luma; chroma = s.chroma; luma_good = s.picture.luma; chroma_good = s.picture.chroma }

  pub tile_taken : (i : ℕ) → i < n → TileTaken p w h mode q (pick i)
  tile_taken i l =
      let k = pick i in
      let f = tile_fine p w h mode q k (s.none i l) in
      record {
        y = part_taken mode (quant_for q 0).v (list_over p w h q k 0) s.allowed (list_long p w h (quant_for q 0).v k 0) f.y;
        cb = part_taken mode (quant_for q 1).v (list_over p w h q k 1) s.allowed (list_long p w h (quant_for q 1).v k 1) f.cb;
        cr = part_taken mode (quant_for q 2).v (list_over p w h q k 2) s.allowed (list_long p w h (quant_for q 2).v k 2) f.cr;
      }

  module _ (comp : ℕ → List ℕ → List ℕ → ℕ) (judges : (set code : List ℕ) → comp mode set code ≡ component_fault mode (quant_of set) code) where
    taken_by : (set v : List ℕ) (zs : List ℤ) → quant_of set ≡ v → PartTaken mode v zs → 0 ≡ comp mode set (bytes_of mode zs)
    taken_by set v zs e t = t.fault ∙ (ap (λ (x : List ℕ). component_fault mode x (bytes_of mode zs)) (sym e) ∙ sym (judges set (bytes_of mode zs)))

    tile_good : (i : ℕ) → i < n →
        Good (λ (j : ℕ) (code : List ℕ). comp mode (sent_set (sets_of q) j) code) w h (set_count (sets_of q)) (tile_over p w h mode q (pick i))
    unfolding tile_over tile_with tile_part codes_fault quant_for ◌⇒◌∣◌
    tile_good i l =
        let k = pick i in
        let f = tile_fine p w h mode q k (s.none i l) in
        let t = tile_taken i l in
        let pl = place_good w h k s.picture.wide (s.there i l) in
        let sets = count_is q s.luma s.chroma in
        record {
          fits = record {
            x = omega (arith, pl.0, s.picture.wider);
            y = omega (arith, pl.1, s.picture.higher);
            ly = omega (arith, part_small mode q.luma.v (list_of p w h q.luma.v k 0) f.y);
            lcb = omega (arith, part_small mode q.chroma.v (list_of p w h q.chroma.v k 1) f.cb);
            lcr = omega (arith, part_small mode q.chroma.v (list_of p w h q.chroma.v k 2) f.cr);
          };
          iy = omega arith;
          icb = omega arith;
          icr = omega arith;
          px = pl.0;
          py = pl.1;
          codes = goes_on _ _ _ (sym (taken_by _ _ _ (luma_back q tens) t.y))
              (goes_on _ _ _ (sym (taken_by _ _ _ (chroma_back q tens) t.cb)) (taken_by _ _ _ (chroma_back q tens) t.cr));
        }

    pub sent : FrameSent comp w h mode (sets_of q) n (λ (i : ℕ). tile_over p w h mode q (pick i))
    sent = record {
      wide = omega (arith, s.picture.wider);
      high = omega (arith, s.picture.higher);
      mode = mode_16 mode s.allowed;
      few = s.few;
      sets = sets_good q tens;
      tiles = tile_good;
    }

    -- our frame, for the same size and mode: no fault, as many tiles, the ones written, one rectangle over the whole
    pub our_frame : (index : ℕ) →
        Taken comp w h mode n (λ (i : ℕ). tile_over p w h mode q (pick i)) (frame_of index w h mode (sets_of q) n (λ (i : ℕ). tile_over p w h mode q (pick i)))
    our_frame index = read_back comp index w h mode (sets_of q) n (λ (i : ℕ). tile_over p w h mode q (pick i)) sent
