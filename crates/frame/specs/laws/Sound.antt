-- For the auditor: document 02, request Eight. "The frame is checked, then decoded again to draw, and the second decode still carries a way out with
-- a refusal. Our auditor asks what the glass shows if it is taken. Show that after a passed check it can't be taken, and remove it."
-- Said of the frame call's promise alone (no code in it): where the call answers 0, no component of a listed tile is refused. The drawing pass is
-- entered only then (`frame_draw::paint::show` asks for a frame without a fault); each component that it decodes is one of these
-- (`tile_back::samples` asks that its number is 0), and decoding for drawing has no answer to give.
-- (01 is this project's scope document, 02 its change requests, 001 is MS-RDPRFX: README, "What 01 is".)
use Rattle.std.specs.Prelude.{ℕ, zero, suc, ◌+◌, ◌≤◌, ◌<◌, ◌≡◌, ℤ, length, Result}
use Rattle.std.proofs.Common.{sym, subst, ⊎_elim, arith}
use mathlib.Core.List.Memᴰ
use mathlib.Core.List.{List, Memᴰ}
use Rattle.whole.specs.laws.Row.{both}
use Rattle.frame_layout.specs.Bytes.{Tile}
use Rattle.frame_layout.specs.Reader.{tile_fault, tiles_fault, tiles_in, frame_tiles, size_at, set_place, set_at, quant_count, tile_count, data_of}
use Rattle.frame_blocks.specs.Tiles.{index_of, code_part}
use Rattle.frame_blocks.specs.laws.Tiles.{sound_part, tile_sound}
use Rattle.frame_blocks.specs.Judged.{judged, in_set}
use Rattle.session.specs.declared.Session.{Session}
use Rattle.wire.specs.Refusal.{number_of}
use Rattle.wire.specs.declared.Refusal.{Refusal}
use Rattle.frame.specs.Frame.{FrameRead}
use Rattle.frame.specs.laws.Frame.{message_good}
use Rattle.frame.specs.laws.Glass.{accepted}

-- every tile of a walk without a fault is sound in its three components
walked_sound :
    (judge : ℕ → List ℕ → ℕ) (w h q : ℕ) (d : List ℕ) (n at : ℕ) → at ≤ length d → 0 ≡ tiles_fault judge w h q d n at →
    (t : Tile) → Memᴰ t (tiles_in d n at) → (k : ℕ) → k < 3 → 0 ≡ judge (index_of t k) (code_part t k)
unfolding tiles_fault tiles_in
walked_sound judge w h q d zero at l e t m k b = absurd (Memᴰ.not-nil m)
walked_sound judge w h q d (suc n) at l e t m k b =
    let p = both (tile_fault judge w h q d at) (tiles_fault judge w h q d n (at + size_at d at)) e in
    let s = tile_sound judge w h q d at l p.0 in
    ⊎_elim (λ x. subst (λ (u : Tile). 0 ≡ judge (index_of u k) (code_part u k)) (sym x) (sound_part judge q d at k s b))
    (λ x. walked_sound judge w h q d n (at + size_at d at) s.good.whole.there p.1 t x k b) (Memᴰ.cases_cons m)

-- component k (0, 1, 2: Y, Cb, Cr) of a listed tile, by the number that the check pass and any reader of it must give: its code, LL3's sums, scaling
abbrev pub component_number : Session → List ℕ → Tile → ℕ → ℕ
component_number s m t k = judged s.mode (set_at m (set_place m) (index_of t k)) (code_part t k)

-- THE STATEMENT: a frame call that answers 0 has drawn tiles none of whose components can be refused
pub drawn_sound :
    (word : ℕ) (s : Session) (m pic : List ℕ) (y cb cr tmp : List ℤ) (pic' : List ℕ) (y' cb' cr' tmp' : List ℤ) (r : Result ℕ Refusal) →
    FrameRead word s m pic y cb cr tmp pic' y' cb' cr' tmp' r → number_of r ≡ 0 →
    (t : Tile) → Memᴰ t (frame_tiles m) → (k : ℕ) → k < 3 → component_number s m t k ≡ 0
unfolding frame_tiles in_set
drawn_sound word s m pic y cb cr tmp pic' y' cb' cr' tmp' r done z t l k b =
    let a = accepted word s m pic y cb cr tmp pic' y' cb' cr' tmp' r done z in
    let g = message_good s.width s.height s.mode m a.message in
    let at = set_place m in
    sym (walked_sound (in_set s.mode m at) s.width s.height (quant_count m at) (data_of m at) (tile_count m at) 0 (omega arith) g.tiles t l k b)
