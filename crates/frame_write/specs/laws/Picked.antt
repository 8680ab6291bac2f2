-- A frame over a list of tile numbers: with no list it is the full frame, and so it is where all tiles are listed.
-- Assumes nothing.
use Prim.Native.Nat.{ℕ, zero, suc, ◌+◌, ◌≤◌, ◌<◌}
use Rattle.std.specs.Prelude.{◌≡◌, leb, length, get_or, Result}
use Rattle.std.proofs.Math.Path.{refl, ap, ap₂, sym}
use Rattle.std.proofs.Common.{◌∙◌, subst, arith, add-zero}
use mathlib.Core.List.{List, [], ◌∷◌, ◌++◌}
use Rattle.std.proofs.Math.Nat.{zero-add}
use Rattle.std.proofs.Math.ListN.{get_or-eq_default}
use Rattle.whole.specs.Row.{◌!◌⨾◌, ◌⨟◌}
use Rattle.wire.specs.Wrote.{Wrote}
use Rattle.wire.specs.declared.Refusal.{Refusal}
use Rattle.quants.specs.Quants.{sets_of, one_for}
use Rattle.quants.specs.declared.Quants.{Quants}
use Rattle.frame_layout.specs.Bytes.{Tile, tile_of, tiles_of, front_of, frame_of, end_of}
use Rattle.frame_pieces.specs.Parts.{tiles_no}
use Rattle.frame_write.specs.Encode.{picture_frame}
use Rattle.frame_write.specs.Sets.{tile_over, frame_over, tile_refusal_over, refusals_over, send_fault_over}
use Rattle.frame_write.specs.Picked.{stops_of, frame_picked, refusals_picked, send_fault_picked, up_to, all_tiles}
use Rattle.frame_write.specs.Job.{sent_at, TilesThere}
use Rattle.frame_write.specs.laws.OneSet.{one_frame}
use Rattle.frame_write.specs.laws.Stops.{stops_same}

-- ---- a frame is made of the tiles that it has

tiles_same : (a b : ℕ → Tile) (n i : ℕ) → ((j : ℕ) → i ≤ j → j < i + n → a j ≡ b j) → tiles_of a n i ≡ tiles_of b n i
unfolding tiles_of
tiles_same a b zero i h = refl
tiles_same a b (suc n) i h =
    ap₂ (λ (t : Tile) (rest : List ℕ). tile_of t ++ rest) (h i (omega arith) (omega arith))
    (tiles_same a b n (i + 1) (λ j l m. h j (omega arith) (omega arith)))

frame_same : (index w h mode : ℕ) (s : List ℕ) (n : ℕ) (a b : ℕ → Tile) → ((i : ℕ) → i < n → a i ≡ b i) →
    frame_of index w h mode s n a ≡ frame_of index w h mode s n b
unfolding frame_of
frame_same index w h mode s n a b e =
    ap (λ (d : List ℕ). front_of index w h mode s n (length d) ++ (d ++ end_of)) (tiles_same a b n 0 (λ j l m. e j (omega arith)))

-- a number that is listed is there whatever stands for the others
there : (ks : List ℕ) (i a b : ℕ) → i < length ks → get_or ks i a ≡ get_or ks i b
there [] i a b l = absurd (omega arith)
there (k ∷ ks) zero a b l = refl
there (k ∷ ks) (suc i) a b l = there ks i a b (omega arith)

pub sent_is : (ks : List ℕ) (i : ℕ) → i < length ks → sent_at ks i ≡ get_or ks i 0
unfolding sent_at
sent_is ks i l = there ks i i 0 l

pub sent_past : (ks : List ℕ) (i : ℕ) → length ks ≤ i → sent_at ks i ≡ i
unfolding sent_at
sent_past ks i l = get_or-eq_default ks i l

-- with no list there are as many tiles as the picture has
pub all_there : (w h n : ℕ) → n ≡ tiles_no w h → n ≤ 2048 → TilesThere w h [] n
all_there w h n e l = record { few = l; there = λ i k. omega (arith, sent_past [] i (omega arith), e) }

-- ---- the numbers of all tiles

pub all_long : (n i : ℕ) → length (up_to n i) ≡ n
unfolding up_to
all_long zero i = refl
all_long (suc n) i = ap suc (all_long n (i + 1))

pub all_at : (n i j : ℕ) → j < n → get_or (up_to n i) j 0 ≡ i + j
unfolding up_to
all_at zero i j l = absurd (omega arith)
all_at (suc n) i zero l = sym (add-zero i)
all_at (suc n) i (suc j) l = let e : i + 1 + j ≡ i + suc j = omega arith in all_at n (i + 1) j (omega arith) ∙ e

module _ (p : List ℕ) (w h mode : ℕ) (q : Quants) where
  -- refusals of tiles that stand one after the other
  pub along : (n i : ℕ) → refusals_over p w h mode q n i ≡ stops_of (tile_refusal_over p w h mode q) n i
  unfolding refusals_over stops_of
  along zero i = refl
  along (suc n) i = ap (λ (f : ℕ). tile_refusal_over p w h mode q i ⨟ f) (along n (i + 1))

  -- what the passes send: the tile at place i of the list, or with no list tile i
  abbrev tile_by : List ℕ → ℕ → Tile
  tile_by ks i = tile_over p w h mode q (sent_at ks i)

  abbrev stop_by : List ℕ → ℕ → ℕ
  stop_by ks i = tile_refusal_over p w h mode q (sent_at ks i)

  abbrev frame_by : ℕ → List ℕ → ℕ → List ℕ
  frame_by index ks n = frame_of index w h mode (sets_of q) n (tile_by ks)

  abbrev fault_by : ℕ → List ℕ → ℕ → ℕ → ℕ
  fault_by index ks n room = stops_of (stop_by ks) n 0 ⨟ (leb (length (frame_by index ks n)) room ! 13 ⨾ 0)

  -- a frame that was sent is the definition's, by equal bytes and equal refusals
  wrote_is : (index n : ℕ) (ks bytes out out' : List ℕ) (stop : ℕ) (r : Result ℕ Refusal) → frame_by index ks n ≡ bytes → stops_of (stop_by ks) n 0 ≡ stop →
      Wrote (fault_by index ks n (length out)) (frame_by index ks n) out out' r → Wrote (stop ⨟ (leb (length bytes) (length out) ! 13 ⨾ 0)) bytes out out' r
  wrote_is index n ks bytes out out' stop r e g x =
      subst (λ (s : ℕ). Wrote (s ⨟ (leb (length bytes) (length out) ! 13 ⨾ 0)) bytes out out' r) g
      (subst (λ (b : List ℕ). Wrote (stops_of (stop_by ks) n 0 ⨟ (leb (length b) (length out) ! 13 ⨾ 0)) b out out' r) e x)

  -- no list: the full frame
  pub as_all : (index n : ℕ) (out out' : List ℕ) (r : Result ℕ Refusal) → n ≡ tiles_no w h →
      Wrote (fault_by index [] n (length out)) (frame_by index [] n) out out' r →
      Wrote (send_fault_over index w h mode q p (length out)) (frame_over index w h mode q p) out out' r
  unfolding send_fault_over frame_over sent_at
  as_all index n out out' r e x =
      wrote_is index n [] _ out out' _ r (ap (frame_by index []) e)
      (ap (λ (k : ℕ). stops_of (tile_refusal_over p w h mode q) k 0) e ∙ sym (along (tiles_no w h) 0)) x

  -- a list: the listed tiles
  pub as_listed : (index : ℕ) (ks out out' : List ℕ) (r : Result ℕ Refusal) →
      Wrote (fault_by index ks (length ks) (length out)) (frame_by index ks (length ks)) out out' r →
      Wrote (send_fault_picked index w h mode q p ks (length out)) (frame_picked index w h mode q p ks) out out' r
  unfolding send_fault_picked refusals_picked frame_picked
  as_listed index ks out out' r x =
      wrote_is index (length ks) ks _ out out' _ r
      (frame_same index w h mode (sets_of q) (length ks) (tile_by ks) _ (λ i l. ap (tile_over p w h mode q) (sent_is ks i l)))
      (stops_same (stop_by ks) _ (length ks) 0 (λ i a l. ap (tile_refusal_over p w h mode q) (sent_is ks i (omega arith)))) x

  -- ---- THE LAW: all tiles listed, and every byte and every refusal is the full frame's

  pub all_refusals : refusals_picked p w h mode q (all_tiles w h) ≡ refusals_over p w h mode q (tiles_no w h) 0
  unfolding refusals_picked all_tiles
  all_refusals =
      ap (λ (n : ℕ). stops_of (λ i. tile_refusal_over p w h mode q (get_or (all_tiles w h) i 0)) n 0) (all_long (tiles_no w h) 0)
      ∙ stops_same _ _ (tiles_no w h) 0 (λ i a l. ap (tile_refusal_over p w h mode q) (all_at (tiles_no w h) 0 i (omega arith) ∙ zero-add i))
      ∙ sym (along (tiles_no w h) 0)

  pub all_frame : (index : ℕ) → frame_picked index w h mode q p (all_tiles w h) ≡ frame_over index w h mode q p
  unfolding frame_picked frame_over all_tiles
  all_frame index =
      ap (λ (n : ℕ). frame_of index w h mode (sets_of q) n (λ i. tile_over p w h mode q (get_or (all_tiles w h) i 0))) (all_long (tiles_no w h) 0)
      ∙ frame_same index w h mode (sets_of q) (tiles_no w h) _ _ (λ i l. ap (tile_over p w h mode q) (all_at (tiles_no w h) 0 i l ∙ zero-add i))

  pub all_send : (index room : ℕ) → send_fault_picked index w h mode q p (all_tiles w h) room ≡ send_fault_over index w h mode q p room
  unfolding send_fault_picked send_fault_over
  all_send index room = ap₂ (λ (f : ℕ) (bytes : List ℕ). f ⨟ (leb (length bytes) room ! 13 ⨾ 0)) all_refusals (all_frame index)

-- and with one set for both it is 01's frame
pub all_picture : (index w h mode : ℕ) (v p : List ℕ) → frame_picked index w h mode (one_for v) p (all_tiles w h) ≡ picture_frame index w h mode v p
all_picture index w h mode v p = all_frame p w h mode (one_for v) index ∙ one_frame p w h mode v index
