-- Where luma and chroma are equal the writer over both is the writer over one set: every byte, every refusal and every list is as before.
-- Assumes nothing.
use Prim.Native.Nat.{ℕ, zero, suc, ◌+◌, ◌/◌, ◌%◌}
use Rattle.std.specs.Prelude.{◌≡◌, Bool, true, false, leb, ℤ, length, Result}
use Rattle.std.proofs.Math.Path.{refl, ap, ap₂}
use Rattle.std.proofs.Common.{sym, ◌∙◌, subst}
use mathlib.Core.List.{List}
use Rattle.whole.specs.Row.{◌!◌⨾◌, ◌⇒◌∣◌, ◌⨟◌}
use Rattle.wire.specs.Wrote.{Wrote}
use Rattle.wire.specs.declared.Refusal.{Refusal}
use Rattle.bands.specs.Bands.{is_good}
use Rattle.bands.specs.declared.Quant.{Quant}
use Rattle.quants.specs.Quants.{same, quant_for, chroma_index, one_for}
use Rattle.quants.specs.laws.Quants.{same_is, is_same, sets_one, index_one}
use Rattle.quants.specs.declared.Quants.{Quants}
use Rattle.frame_layout.specs.Bytes.{Tile, frame_of}
use Rattle.frame_pieces.specs.Parts.{tile_with, cols_of, tiles_no}
use Rattle.frame_write.specs.Encode.{tile_part, picture_tile, picture_frame, tile_refusal, refusals}
use Rattle.frame_write.specs.FrameWrite.{arg_fault, send_fault, work_left, FrameWritten}
use Rattle.frame_write.specs.Sets.{good_sets, tile_over, frame_over, tile_refusal_over, refusals_over, arg_fault_over, send_fault_over, FrameWrittenOver}
use Rattle.frame_write.specs.laws.FrameWrite.{frame_over_once}

-- equal sets are one set for both
pub one-for : (q : Quants) → same q ≡ true → one_for q.luma.v ≡ q
one-for q e = ap (λ (x : Quant). record { luma = q.luma; chroma = x }) (same_is q e)

-- ---- one set for both: what is written, and what is refused

module _ (p : List ℕ) (w h mode : ℕ) (v : List ℕ) where
  one_index : chroma_index (one_for v) ≡ 0
  one_index = index_one (one_for v) (is_same (record { v = v }))

  pub one_tile : tile_over p w h mode (one_for v) ≡ picture_tile p w h mode v
  unfolding tile_over picture_tile quant_for ◌⇒◌∣◌
  one_tile = ap with_index one_index
    where
      with_index : ℕ → ℕ → Tile
      with_index i k = tile_with i (k % cols_of w) (k / cols_of w) (tile_part p w h mode v k 0) (tile_part p w h mode v k 1) (tile_part p w h mode v k 2)

  pub one_frame : (index : ℕ) → frame_over index w h mode (one_for v) p ≡ picture_frame index w h mode v p
  unfolding frame_over picture_frame
  one_frame index =
      ap₂ (λ (s : List ℕ) (tile : ℕ → Tile). frame_of index w h mode s (tiles_no w h) tile) (sets_one (one_for v) (is_same (record { v = v }))) one_tile

  one_refusal : (k : ℕ) → tile_refusal_over p w h mode (one_for v) k ≡ tile_refusal p w h mode v k
  unfolding tile_refusal_over tile_refusal quant_for ◌⇒◌∣◌
  one_refusal k = refl

  pub one_refusals : (n i : ℕ) → refusals_over p w h mode (one_for v) n i ≡ refusals p w h mode v n i
  unfolding refusals_over refusals
  one_refusals zero i = refl
  one_refusals (suc n) i = ap₂ ◌⨟◌ (one_refusal i) (one_refusals n (i + 1))

  pub one_send : (index room : ℕ) → send_fault_over index w h mode (one_for v) p room ≡ send_fault index w h mode v p room
  unfolding send_fault_over send_fault
  one_send index room =
      ap₂ (λ (r : ℕ) (bytes : List ℕ). r ⨟ (leb (length bytes) room ! 13 ⨾ 0)) (one_refusals (tiles_no w h) 0) (one_frame index)

-- the same set judged again
twice : (t : Bool) → (t ! false ⨾ t) ≡ t
unfolding ◌!◌⨾◌
twice true = refl
twice false = refl

pub one_args : (w h mode : ℕ) (v : List ℕ) (pixels list scratch : ℕ) →
    arg_fault_over w h mode (one_for v) pixels list scratch ≡ arg_fault w h mode v pixels list scratch
unfolding arg_fault_over arg_fault good_sets
one_args w h mode v pixels list scratch = rw (twice (is_good v))

-- ---- THE LAW: luma and chroma equal, and every byte is as before

pub one_set : (index w h mode : ℕ) (q : Quants) (p : List ℕ) → same q ≡ true → frame_over index w h mode q p ≡ picture_frame index w h mode q.luma.v p
one_set index w h mode q p e =
    ap (λ (x : Quants). frame_over index w h mode x p) (sym (one-for q e)) ∙ one_frame p w h mode q.luma.v index

-- ---- the promise over one set is the promise over both

module _ (w h mode : ℕ) (v : List ℕ) (index : ℕ) (p : List ℕ) (list list' scratch scratch' : List ℤ) (out out' : List ℕ) (r : Result ℕ Refusal) where
  arguments : arg_fault_over w h mode (one_for v) (length p) (length list) (length scratch) ≡ arg_fault w h mode v (length p) (length list) (length scratch)
  arguments = one_args w h mode v (length p) (length list) (length scratch)

  abbrev fault_over : ℕ
  fault_over = arg_fault_over w h mode (one_for v) (length p) (length list) (length scratch) ⨟ send_fault_over index w h mode (one_for v) p (length out)

  abbrev fault_one : ℕ
  fault_one = arg_fault w h mode v (length p) (length list) (length scratch) ⨟ send_fault index w h mode v p (length out)

  faults : fault_over ≡ fault_one
  faults = ap₂ ◌⨟◌ arguments (one_send p w h mode v index (length out))

  pub as_one : FrameWrittenOver w h mode (one_for v) index p list list' scratch scratch' out out' r →
      FrameWritten w h mode v index p list list' scratch scratch' out out' r
  as_one x = record {
    wrote = subst (λ (f : ℕ). Wrote f (picture_frame index w h mode v p) out out' r) faults
        (subst (λ (bytes : List ℕ). Wrote fault_over bytes out out' r)
        (one_frame p w h mode v index) x.wrote);
    first = x.first ∙ ap (λ (f : ℕ). work_left f list) arguments;
    second = x.second ∙ ap (λ (f : ℕ). work_left f scratch) arguments;
  }

  pub as_over : FrameWritten w h mode v index p list list' scratch scratch' out out' r →
      FrameWrittenOver w h mode (one_for v) index p list list' scratch scratch' out out' r
  as_over x = record {
    wrote = subst (λ (f : ℕ). Wrote f (frame_over index w h mode (one_for v) p) out out' r) (sym faults)
        (subst (λ (bytes : List ℕ). Wrote fault_one bytes out out' r)
        (sym (one_frame p w h mode v index)) x.wrote);
    first = x.first ∙ ap (λ (f : ℕ). work_left f list) (sym arguments);
    second = x.second ∙ ap (λ (f : ℕ). work_left f scratch) (sym arguments);
  }

-- and so it leaves one answer too
pub frame_once :
    (w h mode : ℕ) (q : List ℕ) (index : ℕ) (p : List ℕ) (list a a' scratch b b' : List ℤ) (out c c' : List ℕ) (r r' : Result ℕ Refusal)
    → FrameWritten w h mode q index p list a scratch b out c r
    → FrameWritten w h mode q index p list a' scratch b' out c' r'
    → (r ≡ r') × (a ≡ a') × (b ≡ b') × (c ≡ c')
frame_once w h mode q index p list a a' scratch b b' out c c' r r' x y =
    frame_over_once w h mode (one_for q) index p list a a' scratch b b' out c c' r r' (as_over _ _ _ _ _ _ _ _ _ _ _ _ _ x)
    (as_over _ _ _ _ _ _ _ _ _ _ _ _ _ y)
