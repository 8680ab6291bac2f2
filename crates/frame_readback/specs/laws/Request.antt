-- All that specs/Request states is so: the writer's definition over two sets, and its first bytes, by computing; the rest from the laws of the writer.
-- Assumes nothing.
use Prim.Native.Nat.{ℕ, ◌+◌, ◌/◌, ◌%◌}
use Rattle.std.specs.Prelude.{◌≡◌, false, length, get_or, take, drop}
use Rattle.std.proofs.Math.Path.{refl, ap, ap₂}
use Rattle.std.proofs.Common.{◌∙◌, arith, length-append, take_at}
use mathlib.Core.List.{List, ◌++◌}
use Rattle.whole.specs.Row.{◌⇒◌∣◌}
use Rattle.wire.specs.Le.{bytes16, bytes32}
use Rattle.wire.specs.laws.Wrote.{wrote_bytes}
use Rattle.quants.specs.Quants.{quant_bytes, same, quant_for, sets_of}
use Rattle.quants.specs.laws.Quants.{set_five, sets_two, index_two, two_bytes}
use Rattle.quants.specs.declared.Quants.{Quants}
use Rattle.frame_layout.specs.Bytes.{Tile, begin_of, region_of, set_count, set_head, front_of, frame_of, tiles_of, end_of}
use Rattle.frame_pieces.specs.Parts.{tile_with, cols_of, tiles_no}
use Rattle.frame_pieces.specs.laws.Parts.{count_is}
use Rattle.frame_write.specs.Encode.{tile_part}
use Rattle.frame_write.specs.Sets.{tile_over, frame_over}
use Rattle.frame_write.specs.laws.FrameWrite.{frame_over_once}
use Rattle.frame_write.specs.laws.Numbers as SendNumbers
use Rattle.frame_write.specs.laws.OneSet.{one_set}
use Rattle.frame_readback.specs.Request.{tile_of_two, TwoSets}
use Rattle.frame_readback.specs.laws.OurFrames.{our_own_frames_over}

module _ (index w h mode : ℕ) (q : Quants) (p : List ℕ) (e : same q ≡ false) where
  two_tile : tile_over p w h mode q ≡ tile_of_two p w h mode q.luma.v q.chroma.v
  unfolding tile_over tile_with quant_for ◌⇒◌∣◌
  two_tile = ap with_index (index_two q e)
    where
      with_index : ℕ → ℕ → Tile
      with_index i k =
          tile_with i (k % cols_of w) (k / cols_of w) (tile_part p w h mode q.luma.v k 0) (tile_part p w h mode q.chroma.v k 1)
          (tile_part p w h mode q.chroma.v k 2)

  two_written :
      frame_over index w h mode q p ≡ frame_of index w h mode (q.luma.v ++ q.chroma.v) (tiles_no w h) (tile_of_two p w h mode q.luma.v q.chroma.v)
  unfolding frame_over
  two_written = ap₂ (λ (s : List ℕ) (tile : ℕ → Tile). frame_of index w h mode s (tiles_no w h) tile) (sets_two q e) two_tile

  module _ (l : length q.luma.v ≡ 10) (k : length q.chroma.v ≡ 10) where
    abbrev behind : List ℕ
    behind = tiles_of (tile_over p w h mode q) (tiles_no w h) 0 ++ end_of

    said_there : get_or (frame_over index w h mode q p) 51 0 ≡ set_count (sets_of q)
    unfolding frame_over frame_of front_of begin_of region_of set_head bytes16 bytes32
    said_there = refl

    sets_there : drop 59 (frame_over index w h mode q p) ≡ quant_bytes (sets_of q) ++ behind
    unfolding frame_over frame_of front_of begin_of region_of set_head bytes16 bytes32
    sets_there = refl

    two_said : get_or (frame_over index w h mode q p) 51 0 ≡ 2
    two_said = said_there ∙ (count_is q l k ∙ ap (λ (n : ℕ). 1 + n) (index_two q e))

    two-sets : take 10 (drop 59 (frame_over index w h mode q p)) ≡ quant_bytes q.luma.v ++ quant_bytes q.chroma.v
    two-sets =
        let b = two_bytes q l k e in
        let n = length-append (quant_bytes q.luma.v) (quant_bytes q.chroma.v) in
        ap (take 10) (sets_there ∙ ap (λ (x : List ℕ). x ++ behind) b)
        ∙ take_at (quant_bytes q.luma.v ++ quant_bytes q.chroma.v) behind 10 (omega (arith, set_five q.luma.v l, set_five q.chroma.v k))

pub two_sets : TwoSets
two_sets = record {
  one_set = one_set;
  two_written = two_written;
  two_said = λ index w h mode q p l k e. two_said index w h mode q p e l k;
  two-sets = λ index w h mode q p l k e. two-sets index w h mode q p e l k;
  done_bytes = λ c e. wrote_bytes _ _ c.out c.out' c.answer c.promise.wrote e;
  our_frames = λ glass s₀ ho ho' hr c either hw e f pic y cb cr tmp pic' y' cb' cr' tmp' answer ly lb lr lt room done.
      let r =
      our_own_frames_over glass s₀ c.width c.height c.mode ho ho' hr either hw e c.quants c.index c.pixels c.list c.list'
      c.scratch c.scratch'
      c.out c.out' c.answer c.luma c.chroma c.promise f pic y cb cr tmp pic' y' cb' cr' tmp' answer ly lb lr lt room done in
      (record { one = r.0.one; two = r.0.two; three = r.0.three; four = r.0.four }, r.1);
  one_answer = λ c list' scratch' out' r x. frame_over_once _ _ _ _ _ _ _ _ _ _ _ _ _ _ _ _ _ c.promise x;
  work_untouched = λ c e. SendNumbers.work_untouched _ _ _ _ _ _ _ _ _ _ _ _ _ c.promise e;
  work_zeros = λ c o. SendNumbers.work_zeros _ _ _ _ _ _ _ _ _ _ _ _ _ c.promise o;
}
