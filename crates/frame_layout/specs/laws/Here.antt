-- What stands at a place of a list whose rest from there on is known.
use Rattle.std.specs.Prelude.{ℕ, ◌+◌, ◌*◌, ◌-◌, ◌/◌, ◌%◌, ◌<◌, ◌≤◌, ◌≡◌, refl, List, ◌++◌, length, get_or, drop}
use Rattle.std.proofs.Common.{ap, sym, ◌∙◌, append_assoc, arith, add-zero, length-append, length-drop, get_or-drop, drop-drop, drop_at}
use Rattle.std.proofs.Math.Nat.{div-div-eq-div-mul}
use Rattle.std.proofs.Math.Seq.{take-append_seam}
use Rattle.wire.specs.Le.{le16, le32, bytes16, bytes32}
use Rattle.frame_layout.specs.Bytes.{Tile, tile_len, tile_head, tile_of}
use Rattle.frame_layout.specs.Reader.{size_at, tile_at}

pub byte_in : (d xs : List ℕ) (at k : ℕ) → drop at d ≡ xs → get_or d (at + k) 0 ≡ get_or xs k 0
byte_in d xs at k e = sym (get_or-drop at d k 0) ∙ ap (λ (z : List ℕ). get_or z k 0) e

pub le16_in : (d xs : List ℕ) (at k : ℕ) → drop at d ≡ xs → le16 d (at + k) ≡ le16 xs k
unfolding le16
le16_in d xs at k e =
    let s : at + k + 1 ≡ at + (k + 1) = omega arith in
    rw (s, byte_in d xs at k e, byte_in d xs at (k + 1) e)

pub le32_in : (d xs : List ℕ) (at k : ℕ) → drop at d ≡ xs → le32 d (at + k) ≡ le32 xs k
unfolding le32
le32_in d xs at k e =
    let s : at + k + 2 ≡ at + (k + 2) = omega arith in
    rw (s, le16_in d xs at k e, le16_in d xs at (k + 2) e)

-- past a known front
pub past : (d xs rest : List ℕ) (at k : ℕ) → drop at d ≡ xs ++ rest → length xs ≡ k → drop (at + k) d ≡ rest
past d xs rest at k e l = sym (drop-drop k at d) ∙ (ap (drop k) e ∙ drop_at xs rest k l)

-- what a number is by its bytes
pub two_bytes : (v : ℕ) → v < 65536 → v % 256 + 256 * (v / 256 % 256) ≡ v
two_bytes v h = omega arith

low_half : (v a b : ℕ) → v / 256 ≡ a → b ≡ a / 256 → v % 256 + 256 * (a % 256) ≡ v % 65536
low_half v a b p q = omega arith

pub four_bytes : (v : ℕ) → v < 4294967296 → v % 256 + 256 * (v / 256 % 256) + 65536 * (v / 65536 % 256 + 256 * (v / 16777216 % 256)) ≡ v
four_bytes v h =
    let a : v / 65536 ≡ v / 256 / 256 = sym (div-div-eq-div-mul v 256 256) in
    let b : v / 65536 / 256 ≡ v / 16777216 = div-div-eq-div-mul v 65536 256 in
    let low : v % 256 + 256 * (v / 256 % 256) ≡ v % 65536 = low_half v (v / 256) (v / 65536) refl a in
    let high : v / 65536 % 256 + 256 * (v / 65536 / 256 % 256) ≡ v / 65536 = two_bytes (v / 65536) (omega arith) in
    rw (low, ← b, high) (omega arith)

-- the numbers of a written tile fit their fields
pub record Fits (t : Tile) : Type 0 where
  pub x : t.x < 65536
  pub y : t.y < 65536
  pub ly : length t.ys < 65536
  pub lcb : length t.cbs < 65536
  pub lcr : length t.crs < 65536

-- what stands at the place of a written tile
pub record TileHere (d : List ℕ) (at : ℕ) (t : Tile) (rest : List ℕ) : Type 0 where
  pub kind : le16 d at ≡ 0xCAC3
  pub size : size_at d at ≡ tile_len t
  pub ly : le16 d (at + 13) ≡ length t.ys
  pub lcb : le16 d (at + 15) ≡ length t.cbs
  pub lcr : le16 d (at + 17) ≡ length t.crs
  pub is : tile_at d at ≡ t
  pub next : drop (at + tile_len t) d ≡ rest
  pub room : length d - at ≡ tile_len t + length rest

first : (d : List ℕ) (at : ℕ) → le16 d at ≡ le16 d (at + 0)
first d at = rw add-zero

pub tile_length : (t : Tile) → length (tile_of t) ≡ tile_len t
unfolding tile_of tile_head tile_len bytes16 bytes32
tile_length t = simp length-append (omega arith)

small : (t : Tile) → Fits t → tile_len t < 4294967296
unfolding tile_len
small t f = omega (arith, f.ly, f.lcb, f.lcr)

pub tile_least : (t : Tile) → Fits t → tile_len t ≤ 196624
unfolding tile_len
tile_least t f = omega (arith, f.ly, f.lcb, f.lcr)

-- the head of a tile, field by field
head_kind : (t : Tile) (rest : List ℕ) → le16 (tile_head t ++ rest) 0 ≡ 0xCAC3
unfolding tile_head bytes16 bytes32 le16
head_kind t rest = refl

head_size : (t : Tile) (rest : List ℕ) → tile_len t < 4294967296 → le32 (tile_head t ++ rest) 2 ≡ tile_len t
unfolding tile_head bytes16 bytes32 le16 le32
head_size t rest h = four_bytes (tile_len t) h

-- a field of 16 bits of the head
head_x : (t : Tile) (rest : List ℕ) → t.x < 65536 → le16 (tile_head t ++ rest) 9 ≡ t.x
unfolding tile_head bytes16 bytes32 le16
head_x t rest h = two_bytes t.x h

head_y : (t : Tile) (rest : List ℕ) → t.y < 65536 → le16 (tile_head t ++ rest) 11 ≡ t.y
unfolding tile_head bytes16 bytes32 le16
head_y t rest h = two_bytes t.y h

head_ly : (t : Tile) (rest : List ℕ) → length t.ys < 65536 → le16 (tile_head t ++ rest) 13 ≡ length t.ys
unfolding tile_head bytes16 bytes32 le16
head_ly t rest h = two_bytes (length t.ys) h

head_lcb : (t : Tile) (rest : List ℕ) → length t.cbs < 65536 → le16 (tile_head t ++ rest) 15 ≡ length t.cbs
unfolding tile_head bytes16 bytes32 le16
head_lcb t rest h = two_bytes (length t.cbs) h

head_lcr : (t : Tile) (rest : List ℕ) → length t.crs < 65536 → le16 (tile_head t ++ rest) 17 ≡ length t.crs
unfolding tile_head bytes16 bytes32 le16
head_lcr t rest h = two_bytes (length t.crs) h

head_bytes : (t : Tile) (rest : List ℕ) →
    (get_or (tile_head t ++ rest) 6 0 ≡ t.qy) × ((get_or (tile_head t ++ rest) 7 0 ≡ t.qcb) × (get_or (tile_head t ++ rest) 8 0 ≡ t.qcr))
unfolding tile_head bytes16 bytes32
head_bytes t rest = (refl, (refl, refl))

head_19 : (t : Tile) → length (tile_head t) ≡ 19
unfolding tile_head bytes16 bytes32
head_19 t = refl

tile_is : (t : Tile) (a b c x y : ℕ) (p q r : List ℕ) → a ≡ t.qy → b ≡ t.qcb → c ≡ t.qcr → x ≡ t.x → y ≡ t.y → p ≡ t.ys → q ≡ t.cbs → r ≡ t.crs →
    ◌≡◌ {A = Tile} (record { qy = a; qcb = b; qcr = c; x = x; y = y; ys = p; cbs = q; crs = r }) t
tile_is t a b c x y p q r e₁ e₂ e₃ e₄ e₅ e₆ e₇ e₈ = rw (e₁, e₂, e₃, e₄, e₅, e₆, e₇, e₈)

pub tile_here : (d : List ℕ) (at : ℕ) (t : Tile) (rest : List ℕ) → Fits t → drop at d ≡ tile_of t ++ rest → TileHere d at t rest
unfolding tile_of size_at tile_at
tile_here d at t rest f e =
    let s = t.ys ++ (t.cbs ++ (t.crs ++ rest)) in
    let o : drop at d ≡ tile_head t ++ s =
    e ∙ (append_assoc (tile_head t) (t.ys ++ (t.cbs ++ t.crs)) rest
    ∙ ap (λ (z : List ℕ). tile_head t ++ z) (append_assoc t.ys (t.cbs ++ t.crs) rest ∙ ap (λ (z : List ℕ). t.ys ++ z)
    (append_assoc t.cbs t.crs rest))) in
    let ly = le16_in d (tile_head t ++ s) at 13 o ∙ head_ly t s f.ly in
    let lcb = le16_in d (tile_head t ++ s) at 15 o ∙ head_lcb t s f.lcb in
    let lcr = le16_in d (tile_head t ++ s) at 17 o ∙ head_lcr t s f.lcr in
    let b = head_bytes t s in
    let p₁ = past d (tile_head t) s at 19 o (head_19 t) in
    let p₂ = past d t.ys (t.cbs ++ (t.crs ++ rest)) (at + 19) (length t.ys) p₁ refl in
    let p₃ = past d t.cbs (t.crs ++ rest) (at + 19 + length t.ys) (length t.cbs) p₂ refl in
    record {
      kind = first d at ∙ (le16_in d (tile_head t ++ s) at 0 o ∙ head_kind t s);
      size = le32_in d (tile_head t ++ s) at 2 o ∙ head_size t s (small t f);
      ly = ly;
      lcb = lcb;
      lcr = lcr;
      is = tile_is t _ _ _ _ _ _ _ _
          (byte_in d (tile_head t ++ s) at 6 o ∙ b.0)
          (byte_in d (tile_head t ++ s) at 7 o ∙ b.1.0)
          (byte_in d (tile_head t ++ s) at 8 o ∙ b.1.1)
          (le16_in d (tile_head t ++ s) at 9 o ∙ head_x t s f.x)
          (le16_in d (tile_head t ++ s) at 11 o ∙ head_y t s f.y)
          (rw (ly, p₁) (take-append_seam t.ys _))
          (rw (ly, lcb, p₂) (take-append_seam t.cbs _))
          (rw (ly, lcb, lcr, p₃) (take-append_seam t.crs _));
      next = past d (tile_of t) rest at (tile_len t) e (tile_length t);
      room = sym (length-drop at d) ∙ (ap length e ∙ (length-append (tile_of t) rest ∙ ap (λ (k : ℕ). k + length rest) (tile_length t)));
    }
