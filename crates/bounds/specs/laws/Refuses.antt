-- The frame writer never refuses a picture: its number is 5, 7, 2, 13 or 0. 9 and 6 cannot happen, for any picture, size, mode and good quantisers,
-- luma's and chroma's the same or not.
-- Assumes nothing.
-- (01 is this project's scope document, 02 its change requests, 001 is MS-RDPRFX: README, "What 01 is".)
use Prim.Native.Nat.{ℕ, zero, suc, ◌+◌, ◌*◌, ◌/◌, ◌%◌, ◌≤◌}
use Rattle.std.specs.Prelude.{◌≡◌, List, [], ◌∷◌, leb, ℤ, Result}
use Rattle.std.proofs.Math.Path.{refl, ap, sym}
use Rattle.std.proofs.Common.{◌∙◌, le-leb}
use native.Mathlib.Omega.{arith}
use Rattle.std.proofs.Math.ListN.{length, length-append}
use Rattle.whole.specs.Row.{◌!◌⨾◌, ◌⇒◌∣◌, ◌⨟◌}
use Rattle.whole.specs.laws.Row.{passes, goes_on}
use Rattle.whole.specs.Among.{among, Among}
use Rattle.whole.specs.laws.Among.{numbers, each, among_then, among_all}
use Rattle.whole.specs.Tab.{table}
use Rattle.whole.specs.laws.Tab.{AllNear}
use Rattle.wire.specs.Refusal.{number_of}
use Rattle.wire.specs.declared.Refusal.{Refusal}
use Rattle.bits.specs.laws.Bytes.{Bytes}
use Rattle.bands.specs.Bands.{QuantGood}
use Rattle.bands.specs.Rounding.{rounded_by}
use Rattle.bands.specs.laws.Rounding.{rounded_length}
use Rattle.wave_forth.specs.Forth.{tile_forth}
use Rattle.tile_forth.specs.TileForth.{sample_at, rounded_of}
use Rattle.code_write.specs.Write.{bytes_of}
use Rattle.frame_layout.specs.Bytes.{tile_len, tile_of, tiles_of, set_count}
use Rattle.quants.specs.Quants.{quant_for, sets_of, one_for}
use Rattle.quants.specs.laws.Quants.{is_same, sets_one}
use Rattle.quants.specs.declared.Quants.{Quants}
use Rattle.frame_layout.specs.laws.Here.{tile_length}
use Rattle.frame_pieces.specs.Parts.{tiles_no, cols_of}
use Rattle.frame_pieces.specs.laws.Parts.{frame_long}
use Rattle.frame_write.specs.Encode.{list_of, tile_part, part_refusal}
use Rattle.frame_write.specs.Sets.{part_over, stop_over, tile_over, frame_over, tile_refusal_over, refusals_over, arg_fault_over, send_fault_over}
use Rattle.frame_write.specs.Sets.{FrameWrittenOver}
use Rattle.frame_write.specs.laws.OneSet.{one_args, as_over}
use Rattle.frame_write.specs.laws.Encode.{tile_long}
use Rattle.frame_write.specs.FrameWrite.{arg_fault, FrameWritten}
use Rattle.frame_write.specs.laws.FrameWrite.{args_good}
use Rattle.frame_write.specs.laws.Numbers.{arg_among}
use Rattle.bounds.specs.laws.Samples.{samples_near}
use Rattle.bounds.specs.laws.Coefficients.{all_near, front_near}
use Rattle.bounds.specs.laws.Rounded.{no_nine, front_small, last_small}
use Rattle.bounds.specs.laws.Length.{no_six}

-- ---- no component is refused

-- any component of any tile, by any good set
module _ (p : List ℕ) (w h mode : ℕ) (v : List ℕ) (bytes : Bytes p) (good : QuantGood v) (tx ty c : ℕ) where
  samples : List ℤ
  samples = table 4096 (sample_at p w h tx ty c)

  near : AllNear 4096 samples
  unfolding samples
  near = samples_near p w h tx ty c bytes

  pub part_most : length (bytes_of mode (rounded_of p w h v tx ty c)) ≤ 64964
  unfolding rounded_of samples
  part_most =
      let xs = tile_forth samples in
      let n = (all_near samples near).all in
      no_six mode (rounded_by v xs) (rounded_length v xs) (λ k i. front_small v xs good n k i (front_near samples near k i)) (last_small v xs good n)

  pub part_taken : 0 ≡ part_refusal mode v (rounded_of p w h v tx ty c)
  unfolding part_refusal rounded_of samples
  part_taken =
      let zs = rounded_by v (tile_forth samples) in
      let few : length (bytes_of mode zs) ≤ 65535 = omega (arith, part_most) in
      goes_on _ _ _ (sym (no_nine v (tile_forth samples) good (all_near samples near).all))
      (passes _ _ _ _ (le-leb (length (bytes_of mode zs)) 65535 few) refl)

module _ (p : List ℕ) (w h mode : ℕ) (q : Quants) (bytes : Bytes p) (luma : QuantGood q.luma.v) (chroma : QuantGood q.chroma.v) where
  y_good : QuantGood (quant_for q 0).v
  unfolding quant_for ◌⇒◌∣◌
  y_good = luma

  cb_good : QuantGood (quant_for q 1).v
  unfolding quant_for ◌⇒◌∣◌
  cb_good = chroma

  cr_good : QuantGood (quant_for q 2).v
  unfolding quant_for ◌⇒◌∣◌
  cr_good = chroma

  -- component c of tile k
  module _ (k c : ℕ) (good : QuantGood (quant_for q c).v) where
    stopped : 0 ≡ stop_over p w h mode q k c
    unfolding list_of
    stopped = part_taken p w h mode (quant_for q c).v bytes good (k % cols_of w) (k / cols_of w) c

    most : length (part_over p w h mode q k c) ≤ 64964
    unfolding tile_part list_of
    most = part_most p w h mode (quant_for q c).v bytes good (k % cols_of w) (k / cols_of w) c

  pub tile_taken : (k : ℕ) → 0 ≡ tile_refusal_over p w h mode q k
  unfolding tile_refusal_over
  tile_taken k = goes_on _ _ _ (sym (stopped k 0 y_good)) (goes_on _ _ _ (sym (stopped k 1 cb_good)) (stopped k 2 cr_good))

  pub none_refused : (n i : ℕ) → 0 ≡ refusals_over p w h mode q n i
  unfolding refusals_over
  none_refused zero i = refl
  none_refused (suc n) i = goes_on _ _ _ (sym (tile_taken i)) (none_refused n (i + 1))

  -- ---- and a tile has at most 194,911 bytes

  tile_most : (k : ℕ) → tile_len (tile_over p w h mode q k) ≤ 194911
  tile_most k = omega (arith, tile_long p w h mode q k, most k 0 y_good, most k 1 cb_good, most k 2 cr_good)

  tiles_most : (n i : ℕ) → length (tiles_of (tile_over p w h mode q) n i) ≤ 194911 * n
  unfolding tiles_of
  tiles_most zero i = omega arith
  tiles_most (suc n) i =
      let t = tile_over p w h mode q in
      omega (arith, length-append (tile_of (t i)) (tiles_of t n (i + 1)), tile_length (t i), tile_most i, tiles_most n (i + 1))

  pub frame_most :
      (index : ℕ) → length (sets_of q) ≡ 10 * set_count (sets_of q) →
      length (frame_over index w h mode q p) ≤ 67 + 5 * set_count (sets_of q) + 194911 * tiles_no w h
  unfolding frame_over
  frame_most index tens =
      let t = tile_over p w h mode q in
      omega (arith, frame_long index w h mode (sets_of q) (tiles_no w h) tens t, tiles_most (tiles_no w h) 0)

-- ---- the call over luma's and chroma's sets

module _ {w h mode : ℕ} {q : Quants} {index : ℕ} {p : List ℕ} {list list' scratch scratch' : List ℤ} {out out' : List ℕ} {r : Result ℕ Refusal}
    (bytes : Bytes p) (x : FrameWrittenOver w h mode q index p list list' scratch scratch' out out' r) where
  abbrev pub arguments : ℕ
  arguments = arg_fault_over w h mode q (length p) (length list) (length scratch)

  -- what is judged after the arguments: the room alone
  abbrev pub room : ℕ
  room = leb (length (frame_over index w h mode q p)) (length out) ! 13 ⨾ 0

  pub only_room : number_of r ≡ arguments ⨟ room
  unfolding ◌⨟◌ send_fault_over
  only_room = x.wrote.number ∙ by arguments refl
    where
      by : (f : ℕ) → f ≡ arguments → (f ⨟ send_fault_over index w h mode q p (length out)) ≡ (f ⨟ room)
      by zero e =
          let g = (args_good w h mode q p (length list) (length scratch) e).picture in
          sym (goes_on _ _ _ (sym (none_refused p w h mode q bytes g.luma g.chroma (tiles_no w h) 0)) refl)
      by (suc f) e = refl

  -- 5, 7, 2 or 13, and no other
  pub refuses_over : Among (0 ∷ 5 ∷ 7 ∷ 2 ∷ 13 ∷ []) (number_of r)
  unfolding each among
  refuses_over = rw only_room (among_then _ _ (among_all _ (arg_among w h mode q (length p) (length list) (length scratch)) refl) (search numbers))

  -- given good arguments and this much room, every picture is written
  pub done_over :
      0 ≡ arguments → length (sets_of q) ≡ 10 * set_count (sets_of q) → 67 + 5 * set_count (sets_of q) + 194911 * tiles_no w h ≤ length out →
      number_of r ≡ 0
  done_over e tens l =
      let g = (args_good w h mode q p (length list) (length scratch) e).picture in
      let f : length (frame_over index w h mode q p) ≤ length out = omega (arith, frame_most p w h mode q bytes g.luma g.chroma index tens) in
      only_room ∙ sym (goes_on _ _ _ (sym e) (passes _ _ _ _ (le-leb (length (frame_over index w h mode q p)) (length out) f) refl))

-- ---- the call over one set for both

module _ {w h mode : ℕ} {v : List ℕ} {index : ℕ} {p : List ℕ} {list list' scratch scratch' : List ℤ} {out out' : List ℕ} {r : Result ℕ Refusal}
    (bytes : Bytes p) (x : FrameWritten w h mode v index p list list' scratch scratch' out out' r) where
  over : FrameWrittenOver w h mode (one_for v) index p list list' scratch scratch' out out' r
  over = as_over w h mode v index p list list' scratch scratch' out out' r x

  pub writer_refuses : Among (0 ∷ 5 ∷ 7 ∷ 2 ∷ 13 ∷ []) (number_of r)
  writer_refuses = refuses_over bytes over

  one_count : length v ≡ 10 → set_count (sets_of (one_for v)) ≡ 1
  unfolding set_count
  one_count ten = let s = ap length (sets_one (one_for v) (is_same (record { v = v }))) in omega arith

  pub writer_done :
      0 ≡ arg_fault w h mode v (length p) (length list) (length scratch) → length v ≡ 10 → 72 + 194911 * tiles_no w h ≤ length out → number_of r ≡ 0
  writer_done e ten l =
      let s = ap length (sets_one (one_for v) (is_same (record { v = v }))) in
      let n = one_count ten in
      done_over bytes over (e ∙ sym (one_args w h mode v (length p) (length list) (length scratch))) (omega arith) (omega arith)
