-- What stands when a tile, the tiles, or the frame has been put; one law for each, in plain variables.
use Rattle.std.specs.Prelude.{ℕ, suc, ◌+◌, ◌*◌, ◌-◌, ◌<◌, ◌≤◌, ◌≡◌}
use Rattle.std.proofs.Math.Path.{refl, ap}
use Rattle.std.proofs.Common.{sym, ◌∙◌, subst, mul-le-mul}
use mathlib.Core.List.{List, [], ◌++◌, append_assoc, append-nil}
use native.Mathlib.Omega.{arith}
use Rattle.std.proofs.Math.Nat.{sub-zero}
use Rattle.std.proofs.Math.ListN.{length, length-append}
use Rattle.wire.specs.Le.{bytes16, bytes32, patch, written}
use Rattle.wire.specs.laws.Le.{patch_next, patch_refill, patch_none, patch_front}
use Rattle.frame_layout.specs.Bytes.{Tile, tile_len, tile_head, tile_of, tiles_of, begin_of, region_of, set_count, set_head, end_of, front_of, frame_of}
use Rattle.frame_layout.specs.laws.ReadBack.{length_behind, sets_long}
use Rattle.quants.specs.Quants.{sets_of, chroma_index}
use Rattle.quants.specs.laws.Quants.{sets_tens}
use Rattle.quants.specs.declared.Quants.{Quants}
use Rattle.frame_layout.specs.laws.Here.{tile_length}
use Rattle.frame_pieces.specs.Parts.{tile_with, head_of, filled, set_head_of, front_with, closed, cols_of}

-- ---- a block that was opened with length 0, its length filled in

fill_len : (kind len : ℕ) (rest : List ℕ) → patch (bytes16 kind ++ (bytes32 0 ++ rest)) 2 (bytes32 len) ≡ bytes16 kind ++ (bytes32 len ++ rest)
unfolding patch bytes16 bytes32
fill_len kind len rest = refl

six : (kind : ℕ) (rest : List ℕ) → length (bytes16 kind ++ (bytes32 0 ++ rest)) ≡ 6 + length rest
unfolding bytes16 bytes32
six kind rest = omega arith

pub block_closed : (x y xs : List ℕ) (at kind len : ℕ) (rest : List ℕ) → x ≡ patch xs at (bytes16 kind ++ (bytes32 0 ++ rest)) →
    y ≡ patch x (at + 2) (bytes32 len) → at ≤ length xs → y ≡ patch xs at (bytes16 kind ++ (bytes32 len ++ rest))
unfolding bytes32
block_closed x y xs at kind len rest e f h =
    patch_refill x y xs (bytes16 kind ++ (bytes32 0 ++ rest)) (bytes32 len) at 2 e f (omega (arith, six kind rest)) h
    ∙ ap (patch xs at) (fill_len kind len rest)

-- ---- a tile: its head is put with lengths 0, the codes behind it, then the lengths are filled in

head_19 : (ic x y l a b c : ℕ) (S : List ℕ) → length (head_of ic x y l a b c ++ S) ≡ 19 + length S
unfolding head_of bytes16 bytes32
head_19 ic x y l a b c S = omega arith

head_long : (ic x y l a b c : ℕ) → length (head_of ic x y l a b c) ≡ 19
unfolding head_of bytes16 bytes32
head_long ic x y l a b c = refl

fill_2 : (ic x y l : ℕ) (S : List ℕ) → patch (head_of ic x y 0 0 0 0 ++ S) 2 (bytes32 l) ≡ head_of ic x y l 0 0 0 ++ S
unfolding patch head_of bytes16 bytes32
fill_2 ic x y l S = refl

fill_13 : (ic x y l a : ℕ) (S : List ℕ) → patch (head_of ic x y l 0 0 0 ++ S) 13 (bytes16 a) ≡ head_of ic x y l a 0 0 ++ S
unfolding patch head_of bytes16 bytes32
fill_13 ic x y l a S = refl

fill_15 : (ic x y l a b : ℕ) (S : List ℕ) → patch (head_of ic x y l a 0 0 ++ S) 15 (bytes16 b) ≡ head_of ic x y l a b 0 ++ S
unfolding patch head_of bytes16 bytes32
fill_15 ic x y l a b S = refl

fill_17 : (ic x y l a b c : ℕ) (S : List ℕ) → patch (head_of ic x y l a b 0 ++ S) 17 (bytes16 c) ≡ head_of ic x y l a b c ++ S
unfolding patch head_of bytes16 bytes32
fill_17 ic x y l a b c S = refl

-- the four lengths filled in, where a tile with lengths 0 stands
pub tile_filled : (o o₀ S : List ℕ) (ic x y at l a b c : ℕ) → at ≤ length o₀ → o ≡ patch o₀ at (head_of ic x y 0 0 0 0 ++ S) →
    filled o at l a b c ≡ patch o₀ at (head_of ic x y l a b c ++ S)
unfolding filled bytes16 bytes32
tile_filled o o₀ S ic x y at l a b c h e =
    let v1 = patch_refill o _ o₀ _ (bytes32 l) at 2 e refl (omega (arith, head_19 ic x y 0 0 0 0 S)) h ∙ ap (patch o₀ at) (fill_2 ic x y l S) in
    let v2 = patch_refill _ _ o₀ _ (bytes16 a) at 13 v1 refl (omega (arith, head_19 ic x y l 0 0 0 S)) h ∙ ap (patch o₀ at) (fill_13 ic x y l a S) in
    let v3 = patch_refill _ _ o₀ _ (bytes16 b) at 15 v2 refl (omega (arith, head_19 ic x y l a 0 0 S)) h ∙ ap (patch o₀ at) (fill_15 ic x y l a b S) in
    patch_refill _ _ o₀ _ (bytes16 c) at 17 v3 refl (omega (arith, head_19 ic x y l a b 0 S)) h ∙ ap (patch o₀ at) (fill_17 ic x y l a b c S)

tile_is : (ic x y : ℕ) (ys cbs crs : List ℕ) →
    head_of ic x y (tile_len (tile_with ic x y ys cbs crs)) (length ys) (length cbs) (length crs) ++ (ys ++ (cbs ++ crs)) ≡ tile_of
    (tile_with ic x y ys cbs crs)
unfolding tile_of tile_head head_of tile_with
tile_is ic x y ys cbs crs = refl

pub tile_parts : (ic x y : ℕ) (ys cbs crs : List ℕ) → tile_len (tile_with ic x y ys cbs crs) ≡ 19 + length ys + length cbs + length crs
unfolding tile_len tile_with
tile_parts ic x y ys cbs crs = refl

-- o1 .. o4 are the output after the head and after each code; b, c, e the places behind each code
pub tile-put :
    (o o1 o2 o3 o4 o5 Y Cb Cr : List ℕ) (ic x y at b c e : ℕ) → at ≤ length o →
    o1 ≡ patch o at (head_of ic x y 0 0 0 0) →
    o2 ≡ patch o1 (at + 19) Y → b ≡ at + 19 + length Y →
    o3 ≡ patch o2 b Cb → c ≡ b + length Cb →
    o4 ≡ patch o3 c Cr → e ≡ c + length Cr →
    o5 ≡ filled o4 at (e - at) (b - (at + 19)) (c - b) (e - c) →
    (o5 ≡ patch o at (tile_of (tile_with ic x y Y Cb Cr))) × (e ≡ at + tile_len (tile_with ic x y Y Cb Cr))
tile-put o o1 o2 o3 o4 o5 Y Cb Cr ic x y at b c e h p1 p2 eb p3 ec p4 ee p5 =
    let S = Y ++ (Cb ++ Cr) in
    let H = head_of ic x y 0 0 0 0 in
    let t = tile_with ic x y Y Cb Cr in
    let long = tile_parts ic x y Y Cb Cr in
    let n1 : b - (at + 19) ≡ length Y = omega arith in
    let n2 : c - b ≡ length Cb = omega arith in
    let n3 : e - c ≡ length Cr = omega arith in
    let n0 : e - at ≡ tile_len t = omega arith in
    let hl : length H ≡ 19 = head_long ic x y 0 0 0 0 in
    let w2 = patch_next o1 o2 o H Y at (at + 19) p1 p2 (ap (λ (z : ℕ). at + z) (sym hl)) h in
    let w3 = patch_next o2 o3 o (H ++ Y) Cb at b w2 p3 (omega (arith, length-append H Y)) h in
    let w4 = patch_next o3 o4 o ((H ++ Y) ++ Cb) Cr at c w3 p4 (omega (arith, length-append H Y, length-append (H ++ Y) Cb)) h in
    let v4 : o4 ≡ patch o at (H ++ S) = w4 ∙ ap (patch o at) (append_assoc (H ++ Y) Cb Cr ∙ append_assoc H Y (Cb ++ Cr)) in
    let v5 : o5 ≡ patch o at (head_of ic x y (e - at) (b - (at + 19)) (c - b) (e - c) ++ S) = p5 ∙ tile_filled o4 o S ic x y at _ _ _ _ h v4 in
    (v5 ∙ ap (patch o at) (rw (n0, n1, n2, n3) (tile_is ic x y Y Cb Cr)), omega arith)

-- ---- the loop over the tiles: done is what has been put so far, from a place on

left : (n i : ℕ) → i < n → n - i ≡ suc (n - (i + 1))
left n i h = omega arith

pub tiles_step : (tile : ℕ → Tile) (n i : ℕ) → i < n → tiles_of tile (n - i) i ≡ tile_of (tile i) ++ tiles_of tile (n - (i + 1)) (i + 1)
unfolding tiles_of
tiles_step tile n i l = rw (left n i l)

pub tiles_step_length : (tile : ℕ → Tile) (n i : ℕ) → i < n → length (tiles_of tile (n - i) i) ≡ tile_len (tile i) + length
    (tiles_of tile (n - (i + 1)) (i + 1))
tiles_step_length tile n i l =
    ap length (tiles_step tile n i l)
    ∙ (length-append (tile_of (tile i)) _ ∙ ap (λ (k : ℕ). k + length (tiles_of tile (n - (i + 1)) (i + 1))) (tile_length (tile i)))

pub record Front (tile : ℕ → Tile) (n i from at : ℕ) (out₀ out : List ℕ) : Type 0 where
  pub done : List ℕ
  pub is : out ≡ patch out₀ from done
  pub here : at ≡ from + length done
  pub rest : done ++ tiles_of tile (n - i) i ≡ tiles_of tile n 0

pub front_start : (tile : ℕ → Tile) (n from : ℕ) (out : List ℕ) → Front tile n 0 from from out out
front_start tile n from out = record { done = []; is = patch_none out from; here = omega arith; rest = rw sub-zero }

-- a tile still fits
pub front_fits : (tile : ℕ → Tile) (n i from at : ℕ) (out₀ out : List ℕ) → i < n → Front tile n i from at out₀ out →
    from + length (tiles_of tile n 0) ≤ length out → at + tile_len (tile i) ≤ length out
front_fits tile n i from at out₀ out l f r =
    let a = f.here in
    let s = sym (length-append f.done (tiles_of tile (n - i) i)) ∙ ap length f.rest in
    let t = tiles_step_length tile n i l in
    omega arith

pub front_grows : (tile : ℕ → Tile) (n i from at at' : ℕ) (out₀ out out' : List ℕ) → i < n → from ≤ length out₀ → Front tile n i from at out₀ out →
    out' ≡ patch out at (tile_of (tile i)) → at' ≡ at + tile_len (tile i) → Front tile n (i + 1) from at' out₀ out'
front_grows tile n i from at at' out₀ out out' l h f e s =
    let a = f.here in
    let t = tile_length (tile i) in
    let u = length-append f.done (tile_of (tile i)) in
    record {
      done = f.done ++ tile_of (tile i);
      is = patch_next out out' out₀ f.done (tile_of (tile i)) from at f.is e a h;
      here = omega arith;
      rest = append_assoc f.done (tile_of (tile i)) _ ∙ (ap (λ (z : List ℕ). f.done ++ z) (sym (tiles_step tile n i l)) ∙ f.rest);
    }

pub front_ends : (tile : ℕ → Tile) (n i from at : ℕ) (out₀ out : List ℕ) → n ≤ i → Front tile n i from at out₀ out →
    (out ≡ patch out₀ from (tiles_of tile n 0)) × (at ≡ from + length (tiles_of tile n 0))
unfolding tiles_of
front_ends tile n i from at out₀ out l f =
    let z : n - i ≡ 0 = omega arith in
    let d : f.done ≡ tiles_of tile n 0 = sym (append-nil f.done) ∙ subst (λ (k : ℕ). f.done ++ tiles_of tile k i ≡ tiles_of tile n 0) z f.rest in
    (f.is ∙ ap (patch out₀ from) d, f.here ∙ ap (λ (xs : List ℕ). from + length xs) d)

-- ---- the frame: the front with lengths 0, the tiles, the end, then the tileset's two lengths

front_is : (idx w h et : ℕ) (q : List ℕ) (n size : ℕ) → front_with idx w h et q n (22 + 5 * set_count q + size) size ≡ front_of idx w h et q n size
unfolding front_with front_of set_head_of set_head begin_of region_of bytes16 bytes32
front_is idx w h et q n size = refl

-- 59 bytes and five a set
module _ (idx w h et : ℕ) (q : List ℕ) (n : ℕ) (tens : length q ≡ 10 * set_count q) where
  pub front_long : (len size : ℕ) → length (front_with idx w h et q n len size) ≡ 59 + 5 * set_count q
  unfolding front_with set_head_of begin_of region_of bytes16 bytes32
  front_long len size = omega (arith, sets_long q tens)

  fill_39 : (len : ℕ) (S : List ℕ) → patch (front_with idx w h et q n 0 0 ++ S) 39 (bytes32 len) ≡ front_with idx w h et q n len 0 ++ S
  unfolding patch front_with set_head_of begin_of region_of bytes16 bytes32
  fill_39 len S = refl

  fill_55 : (len size : ℕ) (S : List ℕ) → patch (front_with idx w h et q n len 0 ++ S) 55 (bytes32 size) ≡ front_with idx w h et q n len size ++ S
  unfolding patch front_with set_head_of begin_of region_of bytes16 bytes32
  fill_55 len size S = refl

  pub frame_long : (tile : ℕ → Tile) → length (frame_of idx w h et q n tile) ≡ 67 + 5 * set_count q + length (tiles_of tile n 0)
  unfolding frame_of
  frame_long tile =
      let D = tiles_of tile n 0 in
      let a = length-append (front_of idx w h et q n (length D)) (D ++ end_of) in
      let b = length_behind D in
      let c : length (front_of idx w h et q n (length D)) ≡ 59 + 5 * set_count q =
      ap length (sym (front_is idx w h et q n (length D))) ∙ front_long (22 + 5 * set_count q + length D) (length D) in
      omega arith

  pub frame_put :
      (o o1 o2 o3 : List ℕ) (from e : ℕ) (tile : ℕ → Tile) → from ≡ 59 + 5 * set_count q →
      o1 ≡ patch o 0 (front_with idx w h et q n 0 0) →
      o2 ≡ patch o1 from (tiles_of tile n 0) → e ≡ from + length (tiles_of tile n 0) →
      o3 ≡ closed o2 from e →
      (o3 ≡ written (frame_of idx w h et q n tile) o) × (e + 8 ≡ length (frame_of idx w h et q n tile))
  unfolding frame_of closed bytes32
  frame_put o o1 o2 o3 from e tile ef p1 p2 ee p3 =
      let D = tiles_of tile n 0 in
      let H = front_with idx w h et q n 0 0 in
      let S = D ++ end_of in
      let hl = front_long 0 0 in
      let h2 = front_long (e - 37) 0 in
      let w2 = patch_next o1 o2 o H D 0 from p1 p2 (omega arith) (omega arith) in
      let w3 = patch_next o2 (patch o2 e end_of) o (H ++ D) end_of 0 e w2 refl (omega (arith, length-append H D)) (omega arith) in
      let v3 = w3 ∙ ap (patch o 0) (append_assoc H D end_of) in
      let v4 =
      patch_refill _ _ o (H ++ S) (bytes32 (e - 37)) 0 39 v3 refl (omega (arith, length-append H S)) (omega arith)
      ∙ ap (patch o 0) (fill_39 (e - 37) S) in
      let v5 = patch_refill _ o3 o (front_with idx w h et q n (e - 37) 0 ++ S) (bytes32 (e - from)) 0 55 v4 p3
      (omega (arith, length-append (front_with idx w h et q n (e - 37) 0) S)) (omega arith)
      ∙ ap (patch o 0) (fill_55 (e - 37) (e - from) S) in
      let n1 : e - 37 ≡ 22 + 5 * set_count q + length D = omega arith in
      let n2 : e - from ≡ length D = omega arith in
      let f : front_with idx w h et q n (e - 37) (e - from) ≡ front_of idx w h et q n (length D) = rw (n1, n2) (front_is idx w h et q n (length D)) in
      (v5 ∙ (ap (λ (z : List ℕ). patch o 0 (z ++ S)) f ∙ patch_front o (front_of idx w h et q n (length D) ++ S)), omega (arith, frame_long tile))

-- how many sets a frame of ours has
pub count_is : (q : Quants) → length q.luma.v ≡ 10 → length q.chroma.v ≡ 10 → set_count (sets_of q) ≡ 1 + chroma_index q
unfolding set_count
count_is q l k = omega (arith, sets_tens q l k)

pub tens_of : (q : Quants) → length q.luma.v ≡ 10 → length q.chroma.v ≡ 10 → length (sets_of q) ≡ 10 * set_count (sets_of q)
tens_of q l k = sets_tens q l k ∙ ap (λ (n : ℕ). 10 * n) (sym (count_is q l k))

-- ---- tiles a row, and tiles

pub few_tiles : (a b w h : ℕ) → 64 * a ≤ w + 63 → 64 * b ≤ h + 63 → w ≤ 4096 → h ≤ 2048 → a * b ≤ 2048
few_tiles a b w h p q lw lh =
    let x : a ≤ 64 = omega arith in
    let y : b ≤ 32 = omega arith in
    mul-le-mul {n₂ = 64} {m₂ = 32} x y

-- a size that 01 allows: no product of it is too big
pub size_small : (w h : ℕ) → w ≤ 4096 → h ≤ 2048 → w * h ≤ 8388608
size_small w h a b = mul-le-mul {n₂ = 4096} {m₂ = 2048} a b

pub some_cols : (w : ℕ) → 1 ≤ w → 1 ≤ cols_of w
unfolding cols_of
some_cols w h = omega arith
