-- Which numbers the frame writer answers, and what its work lists hold on each: 01, "The frame writer's work lists are untouched on 5, 7 and 2 and hold
-- only zeros after every other answer."
-- Assumes nothing.
-- (01 is this project's scope document, 02 its change requests, 001 is MS-RDPRFX: README, "What 01 is".)
use Rattle.std.specs.Prelude.{ℕ, zero, suc, ◌+◌, ◌≤◌, ◌≡◌, List, [], ◌∷◌, ℤ, pos, length, replicate, Result}
use Rattle.std.proofs.Math.Path.{refl, sym}
use Rattle.std.proofs.Common.{◌∙◌, subst}
use Rattle.whole.specs.Row.{◌⨟◌}
use Rattle.whole.specs.Among.{among, Among, Other}
use Rattle.whole.specs.laws.Among.{numbers, each, among_then, among_all, among_most, among_none, first_there, first_none}
use Rattle.wire.specs.Refusal.{number_of}
use Rattle.wire.specs.declared.Refusal.{Refusal}
use Rattle.bands.specs.Bands.{range_fault, sums_fault, scale_fault, coefficients_fault}
use Rattle.quants.specs.declared.Quants.{Quants}
use Rattle.frame_write.specs.Encode.{part_refusal}
use Rattle.frame_write.specs.Sets.{tile_refusal_over, refusals_over, arg_fault_over, send_fault_over, FrameWrittenOver}
use Rattle.frame_write.specs.Picked.{stops_of}
use Rattle.frame_write.specs.laws.FrameWrite.{untouched, cleared}
use Rattle.frame_write.specs.laws.Picked.{along}

-- what is judged of the arguments, and after them
abbrev pub arg_numbers : List ℕ
arg_numbers = 5 ∷ 7 ∷ 2 ∷ []

abbrev pub send_numbers : List ℕ
send_numbers = 0 ∷ 9 ∷ 6 ∷ 13 ∷ []

pub arg_among : (w h mode : ℕ) (q : Quants) (pixels list scratch : ℕ) → Among (0 ∷ arg_numbers) (arg_fault_over w h mode q pixels list scratch)
unfolding arg_fault_over among
arg_among w h mode q pixels list scratch = search numbers depth 10

part_among : (mode : ℕ) (q : List ℕ) (zs : List ℤ) → Among send_numbers (part_refusal mode q zs)
unfolding part_refusal coefficients_fault range_fault sums_fault scale_fault among
part_among mode q zs = search numbers depth 9

pub tile_among : (p : List ℕ) (w h mode : ℕ) (q : Quants) (k : ℕ) → Among send_numbers (tile_refusal_over p w h mode q k)
unfolding tile_refusal_over
tile_among p w h mode q k = among_then _ _ (part_among mode _ _) (among_then _ _ (part_among mode _ _) (part_among mode _ _))

pub stops_among : (stop : ℕ → ℕ) → ((i : ℕ) → Among send_numbers (stop i)) → (n i : ℕ) → Among send_numbers (stops_of stop n i)
unfolding stops_of among
stops_among stop h zero i = search numbers
stops_among stop h (suc n) i = among_then _ _ (h i) (stops_among stop h n (i + 1))

tiles_among : (p : List ℕ) (w h mode : ℕ) (q : Quants) (n i : ℕ) → Among send_numbers (refusals_over p w h mode q n i)
tiles_among p w h mode q n i = rw (along p w h mode q n i) (stops_among (tile_refusal_over p w h mode q) (tile_among p w h mode q) n i)

pub send_among : (index w h mode : ℕ) (q : Quants) (p : List ℕ) (room : ℕ) → Among send_numbers (send_fault_over index w h mode q p room)
unfolding send_fault_over among
send_among index w h mode q p room = search (numbers, tiles_among)

-- which numbers its first fault comes to
pub fault_among : (w h mode : ℕ) (q : Quants) (index : ℕ) (p : List ℕ) (list scratch room : ℕ) →
    Among (5 ∷ 7 ∷ 2 ∷ send_numbers) (arg_fault_over w h mode q (length p) list scratch ⨟ send_fault_over index w h mode q p room)
unfolding each among
fault_among w h mode q index p list scratch room =
    among_then _ _ (among_all _ (arg_among w h mode q (length p) list scratch) refl) (among_all _ (send_among index w h mode q p room) refl)

pub fault_few : (w h mode : ℕ) (q : Quants) (index : ℕ) (p : List ℕ) (list scratch room : ℕ) →
    (arg_fault_over w h mode q (length p) list scratch ⨟ send_fault_over index w h mode q p room) ≤ 13
unfolding each
fault_few w h mode q index p list scratch room = among_most 13 (fault_among w h mode q index p list scratch room) refl

module _ (w h mode : ℕ) (q : Quants) (index : ℕ) (p : List ℕ) (list list' scratch scratch' : List ℤ) (out out' : List ℕ) (r : Result ℕ Refusal)
    (x : FrameWrittenOver w h mode q index p list list' scratch scratch' out out' r) where
  arguments : ℕ
  arguments = arg_fault_over w h mode q (length p) (length list) (length scratch)

  -- which numbers the call answers
  pub frame_written_among : Among (5 ∷ 7 ∷ 2 ∷ send_numbers) (number_of r)
  frame_written_among = rw x.wrote.number (fault_among w h mode q index p (length list) (length scratch) (length out))

  pub work_untouched : Among arg_numbers (number_of r) → (list' ≡ list) × (scratch' ≡ scratch)
  unfolding arguments each among
  work_untouched e =
      let o = among_none arg_numbers (send_among index w h mode q p (length out)) refl in
      let f = first_there arguments _ o (subst (Among arg_numbers) x.wrote.number e) in
      (x.first ∙ sym (untouched _ arguments list refl f), x.second ∙ sym (untouched _ arguments scratch refl f))

  pub work_zeros : Other arg_numbers (number_of r) → (list' ≡ replicate 4096 (pos 0)) × (scratch' ≡ replicate 4096 (pos 0))
  unfolding arguments
  work_zeros o =
      let z = sym (first_none arguments _ (arg_among w h mode q (length p) (length list) (length scratch)) (subst (Other arg_numbers) x.wrote.number o)) in
      (x.first ∙ sym (cleared _ list _ z refl), x.second ∙ sym (cleared _ scratch _ z refl))
