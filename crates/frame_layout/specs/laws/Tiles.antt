-- Written tiles have no fault, and are read as what they are.
use Rattle.std.specs.Prelude.{ℕ, zero, suc, ◌+◌, ◌*◌, ◌-◌, ◌<◌, ◌≤◌, ◌≡◌, refl, Bool, true, List, [], ◌∷◌, length, drop}
use Rattle.std.proofs.Common.{ap, ap₂, sym, ◌∙◌, subst, arith, length-drop, le-leb, eq-eqb}
use Rattle.wire.specs.Le.{le16}
use Rattle.whole.specs.Row.{◌⨟◌}
use Rattle.whole.specs.laws.Row.{rows, passes, goes_on}
use Rattle.frame_layout.specs.Bytes.{Tile, tile_len, tiles_of}
use Rattle.frame_layout.specs.Reader.{block_judge, size_at, fixed_head, least_head, body_judge, tile_at, codes_fault, tile_fault, tiles_fault, tiles_in}
use Rattle.frame_layout.specs.laws.Here.{Fits, TileHere, tile_here}

-- no fault in two parts
pub none : (n b : ℕ) → 0 ≡ n → 0 ≡ b → 0 ≡ (n ⨟ b)
none n b p q = goes_on n b 0 (sym p) q

pub head_none : (kind is : ℕ) (b : Bool) (size room : ℕ) → is ≡ kind → b ≡ true → size ≤ room → 0 ≡ block_judge kind is b size room
unfolding block_judge
head_none kind is b size room e h l = search rows

pub least_none :
    (kind least : ℕ) (m : List ℕ) (at : ℕ) → 6 ≤ least → le16 m at ≡ kind → least ≤ size_at m at → size_at m at ≤ length m - at →
    0 ≡ least_head kind least m at
unfolding least_head
least_none kind least m at s e l r =
    passes _ _ _ _ (le-leb 6 (length m - at) (omega arith)) (head_none _ _ _ _ _ e (le-leb least (size_at m at) l) r)

pub fixed_none :
    (kind size : ℕ) (m : List ℕ) (at : ℕ) → 6 ≤ size → le16 m at ≡ kind → size_at m at ≡ size → size_at m at ≤ length m - at → 0 ≡ fixed_head kind size m at
unfolding fixed_head
fixed_none kind size m at s e l r =
    passes _ _ _ _ (le-leb 6 (length m - at) (omega arith)) (head_none _ _ _ _ _ e (eq-eqb (size_at m at) size l) r)

body_none : (w h q size ly lcb lcr qy qcb qcr x y : ℕ) → size ≡ 19 + ly + lcb + lcr → qy < q → qcb < q → qcr < q → 64 * x < w → 64 * y < h →
    0 ≡ body_judge w h q size ly lcb lcr qy qcb qcr x y
unfolding body_judge
body_none w h q size ly lcb lcr qy qcb qcr x y e a b c f g = search rows depth 14 fits 20000

-- a tile that a reader takes: its numbers fit, its indices, its place and its codes are in order
pub record Good (judge : ℕ → List ℕ → ℕ) (w h q : ℕ) (t : Tile) : Type 0 where
  pub fits : Fits t
  pub iy : t.qy < q
  pub icb : t.qcb < q
  pub icr : t.qcr < q
  pub px : 64 * t.x < w
  pub py : 64 * t.y < h
  pub codes : 0 ≡ codes_fault judge t

pub tile_none :
    (judge : ℕ → List ℕ → ℕ) (w h q : ℕ) (d : List ℕ) (at : ℕ) (t : Tile) (rest : List ℕ) → Good judge w h q t → TileHere d at t rest →
    0 ≡ tile_fault judge w h q d at
unfolding tile_fault tile_len tile_at
tile_none judge w h q d at t rest g e =
    none _ _ (least_none 0xCAC3 19 d at (omega arith) e.kind (omega (arith, e.size)) (omega (arith, e.size, e.room)))
    (none _ _ (body_none _ _ _ _ _ _ _ _ _ _ _ _ (rw (e.size, e.ly, e.lcb, e.lcr)) (at_tile (λ z. z.qy < q) g.iy)
    (at_tile (λ z. z.qcb < q) g.icb) (at_tile (λ z. z.qcr < q) g.icr)
    (at_tile (λ z. 64 * z.x < w) g.px) (at_tile (λ z. 64 * z.y < h) g.py))
    (at_tile (λ z. 0 ≡ codes_fault judge z) g.codes))
  where
    at_tile : (P : Tile → Type 0) → P t → P (tile_at d at)
    at_tile P p = subst P (sym e.is) p

-- the tiles written, as a list
unfoldable pub listed : (ℕ → Tile) → ℕ → ℕ → List Tile
listed tile zero i = []
listed tile (suc n) i = tile i ∷ listed tile n (i + 1)

-- a walk over written tiles
pub record Walked (judge : ℕ → List ℕ → ℕ) (w h q : ℕ) (d : List ℕ) (at : ℕ) (tile : ℕ → Tile) (n i : ℕ) : Type 0 where
  pub fault : 0 ≡ tiles_fault judge w h q d n at
  pub tiles : tiles_in d n at ≡ listed tile n i

pub tiles_walked : (judge : ℕ → List ℕ → ℕ) (w h q : ℕ) (tile : ℕ → Tile) (N : ℕ) → ((k : ℕ) → k < N → Good judge w h q (tile k)) →
    (d : List ℕ) (n i at : ℕ) → n + i ≡ N → at ≤ length d → drop at d ≡ tiles_of tile n i → Walked judge w h q d at tile n i
unfolding tiles_of tiles_fault tiles_in listed
tiles_walked judge w h q tile N good d zero i at s l e =
    let z : length d - at ≡ 0 = sym (length-drop at d) ∙ ap length e in
    record { fault = passes _ _ _ _ (eq-eqb at (length d) (omega arith)) refl; tiles = refl }
tiles_walked judge w h q tile N good d (suc n) i at s l e =
    let g = good i (omega arith) in
    let t = tile_here d at (tile i) (tiles_of tile n (i + 1)) g.fits e in
    let more =
    tiles_walked judge w h q tile N good d n (i + 1) (at + size_at d at) (omega arith) (omega (arith, t.size, t.room, g.fits))
    (rw t.size t.next) in
    record { fault = none _ _ (tile_none judge w h q d at (tile i) _ g t) more.fault; tiles = ap₂ ◌∷◌ t.is more.tiles }
