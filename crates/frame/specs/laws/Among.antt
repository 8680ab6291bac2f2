-- Which numbers a frame can come to: 12 and 2 come from the record and the lent memory alone, never from the message.
use Prim.Native.Nat.{ℕ, zero, suc, ◌+◌, ◌≤◌}
use Rattle.std.specs.Prelude.{Bool, List, [], ◌∷◌, get_or}
use Rattle.std.proofs.Math.Path.{refl}
use Rattle.whole.specs.Among.{among, Among}
use Rattle.whole.specs.laws.Among.{numbers, each, among_then, among_all, among_most}
use Rattle.code.specs.laws.Numbers.{full_fault_among}
use Rattle.bands.specs.Bands.{sums_fault, scale_fault}
use Rattle.tile_back.specs.Component.{component_fault}
use Rattle.frame_layout.specs.Reader.{block_judge, fixed_head, least_head, codec_judge, begin_judge, region_judge, last_judge, set_judge, body_judge, size_at}
use Rattle.frame_layout.specs.Reader.{codec_fault, begin_fault, region_fault, halves_fault, quants_fault, codes_fault, tile_fault, tiles_fault, set_fault}
use Rattle.frame_layout.specs.Reader.{end_fault}
use Rattle.frame_layout.specs.Reader.{frame_fault}
use Rattle.frame_blocks.specs.Judged.{judged}
use Rattle.session.specs.declared.Session.{Session}
use Rattle.frame.specs.Frame.{call_fault, frame_number}

-- what a message can come to: neither 12 nor 2
abbrev pub message_numbers : List ℕ
message_numbers = 0 ∷ 1 ∷ 3 ∷ 4 ∷ 5 ∷ 6 ∷ 7 ∷ 8 ∷ 9 ∷ 10 ∷ 11 ∷ []

-- it is one of them
abbrev OfMessage : ℕ → Type 0
OfMessage n = Among message_numbers n

-- ---- a component

pub read_among : (mode : ℕ) (q s : List ℕ) → OfMessage (component_fault mode q s)
unfolding component_fault sums_fault scale_fault among each
read_among mode q s = among_then _ _ (among_all message_numbers (full_fault_among mode s) refl) (search numbers)

-- ---- the blocks

head_among : (kind is : ℕ) (t : Bool) (size room : ℕ) → OfMessage (block_judge kind is t size room)
unfolding block_judge among
head_among kind is t size room = search numbers

fixed_among : (kind size : ℕ) (m : List ℕ) (at : ℕ) → OfMessage (fixed_head kind size m at)
unfolding fixed_head among
fixed_among kind size m at = search (numbers, head_among)

least_among : (kind least : ℕ) (m : List ℕ) (at : ℕ) → OfMessage (least_head kind least m at)
unfolding least_head among
least_among kind least m at = search (numbers, head_among)

codec_among : (m : List ℕ) (at : ℕ) → OfMessage (codec_fault m at)
unfolding codec_fault codec_judge among
codec_among m at = search numbers

begin_among : (m : List ℕ) (at : ℕ) → OfMessage (begin_fault m at)
unfolding begin_fault begin_judge among
begin_among m at = search (numbers, fixed_among, codec_among)

region_among : (m : List ℕ) (at : ℕ) → OfMessage (region_fault m at)
unfolding region_fault region_judge last_judge among
region_among m at = search (numbers, least_among, codec_among) depth 9

halves_among : (b : ℕ) → OfMessage (halves_fault b)
unfolding halves_fault among
halves_among b = search numbers

quants_among : (m : List ℕ) (k at : ℕ) → OfMessage (quants_fault m k at)
unfolding quants_fault among
quants_among m zero at = search numbers
quants_among m (suc k) at = among_then _ _ (halves_among (get_or m at 0)) (quants_among m k (at + 1))

module _ (judge : ℕ → List ℕ → ℕ) (o : (j : ℕ) (code : List ℕ) → OfMessage (judge j code)) (w h q : ℕ) (d : List ℕ) where
  tile_among : (at : ℕ) → OfMessage (tile_fault judge w h q d at)
  unfolding tile_fault body_judge codes_fault among
  tile_among at = search (numbers, least_among, o) depth 12

  tiles_among : (n at : ℕ) → OfMessage (tiles_fault judge w h q d n at)
  unfolding tiles_fault among
  tiles_among zero at = search numbers
  tiles_among (suc n) at = among_then _ _ (tile_among at) (tiles_among n (at + size_at d at))

set_among : (w h et : ℕ) (m : List ℕ) (at : ℕ) → OfMessage (set_fault judged w h et m at)
unfolding set_fault set_judge judged among
set_among w h et m at =
    among_then _ _ (least_among _ _ m at) (among_then _ _ (codec_among m at) (among_then _ _ (search numbers depth 9)
    (among_then _ _ (quants_among m _ _) (tiles_among _ (λ j code. read_among et _ code) w h _ _ _ 0))))

pub message_among : (w h et : ℕ) (m : List ℕ) → OfMessage (frame_fault judged w h et m)
unfolding frame_fault end_fault among
message_among w h et m = search (numbers, begin_among, region_among, set_among, fixed_among, codec_among) depth 9

-- ---- the call

-- before the message: 0, 12 or 2
pub call_among : (word : ℕ) (s : Session) (p a b c t : ℕ) → Among (0 ∷ 12 ∷ 2 ∷ []) (call_fault word s p a b c t)
unfolding call_fault among
call_among word s p a b c t = search numbers

-- no number is past 01's last
pub number_few : (word : ℕ) (s : Session) (p a b c t : ℕ) (m : List ℕ) → frame_number (call_fault word s p a b c t) s m ≤ 13
unfolding frame_number each among
number_few word s p a b c t m =
    among_most 13 {ks = 12 ∷ 2 ∷ message_numbers}
    (among_then _ _ (among_all _ (call_among word s p a b c t) refl) (among_all _ (message_among s.width s.height s.mode m) refl)) refl
