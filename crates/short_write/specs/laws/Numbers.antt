-- Which numbers the short frame's writer answers, and what its work lists hold on each: "untouched on 5, 7 and 2", and "only zeros after every other
-- answer" (01).
-- Assumes nothing.
-- (01 is this project's scope document, 02 its change requests, 001 is MS-RDPRFX: README, "What 01 is".)
use Rattle.std.specs.Prelude.{ℕ, ◌≡◌, List, [], ◌∷◌, ℤ, pos, length, replicate, get_or, Result}
use Rattle.std.proofs.Math.Path.{refl, sym}
use Rattle.std.proofs.Common.{◌∙◌, subst}
use Rattle.whole.specs.Row.{◌⨟◌}
use Rattle.whole.specs.Among.{among, Among, Other}
use Rattle.whole.specs.laws.Among.{numbers, each, among_then, among_all, among_none, first_there, first_none}
use Rattle.quants.specs.declared.Quants.{Quants}
use Rattle.frame_write.specs.Picked.{refusals_picked, send_fault_picked}
use Rattle.frame_write.specs.laws.FrameWrite.{untouched, cleared}
use Rattle.frame_write.specs.laws.Numbers.{arg_numbers, send_numbers, arg_among, tile_among, stops_among}
use Rattle.plan.specs.Plan.{picks_fault}
use Rattle.plan.specs.Answer.{plan_number}
use Rattle.plan.specs.declared.check.PlanRefusal.{PlanRefusal}
use Rattle.short_write.specs.Short.{own_fault, short_fault, ShortWritten}

-- what "this check" says
abbrev pub list_numbers : List ℕ
list_numbers = 16 ∷ 8 ∷ 17 ∷ []

pub own_among : (w h mode : ℕ) (q : Quants) (old new list scratch : ℕ) → Among (0 ∷ arg_numbers) (own_fault w h mode q old new list scratch)
unfolding own_fault among
own_among w h mode q old new list scratch = among_then _ _ (arg_among w h mode q new list scratch) (search numbers)

pub list_among : (old new : List ℕ) (w h : ℕ) (ks : List ℕ) → Among (0 ∷ list_numbers) (picks_fault old new w h ks)
unfolding picks_fault among
list_among old new w h ks = search numbers depth 8

picked_among : (p : List ℕ) (w h mode : ℕ) (q : Quants) (ks : List ℕ) → Among send_numbers (refusals_picked p w h mode q ks)
unfolding refusals_picked
picked_among p w h mode q ks = stops_among _ (λ i. tile_among p w h mode q (get_or ks i 0)) (length ks) 0

send_among : (index w h mode : ℕ) (q : Quants) (p ks : List ℕ) (room : ℕ) → Among send_numbers (send_fault_picked index w h mode q p ks room)
unfolding send_fault_picked among
send_among index w h mode q p ks room = search (numbers, picked_among)

-- which numbers the first fault comes to
abbrev pub plan_numbers : List ℕ
plan_numbers = 5 ∷ 7 ∷ 2 ∷ 16 ∷ 8 ∷ 17 ∷ send_numbers

pub short_among : (w h mode : ℕ) (q : Quants) (index : ℕ) (old new ks : List ℕ) (list scratch room : ℕ) →
    Among plan_numbers (short_fault w h mode q index old new ks list scratch room)
unfolding short_fault each among
short_among w h mode q index old new ks list scratch room =
    among_then _ _ (among_all _ (own_among w h mode q (length old) (length new) list scratch) refl)
    (among_then _ _ (among_all _ (list_among old new w h ks) refl) (among_all _ (send_among index w h mode q new ks room) refl))

module _ (w h mode : ℕ) (q : Quants) (index : ℕ) (old new ks : List ℕ) (list list' scratch scratch' : List ℤ) (out out' : List ℕ) (r : Result ℕ PlanRefusal)
    (x : ShortWritten w h mode q index old new ks list list' scratch scratch' out out' r) where
  own : ℕ
  own = own_fault w h mode q (length old) (length new) (length list) (length scratch)

  later : ℕ
  later = picks_fault old new w h ks ⨟ send_fault_picked index w h mode q new ks (length out)

  number_is : plan_number r ≡ (own ⨟ later)
  unfolding own later short_fault
  number_is = x.wrote.number

  own_numbers : Among (0 ∷ arg_numbers) own
  unfolding own
  own_numbers = own_among w h mode q (length old) (length new) (length list) (length scratch)

  abbrev later_numbers : List ℕ
  later_numbers = 16 ∷ 8 ∷ 17 ∷ send_numbers

  later-numbers : Among later_numbers later
  unfolding later each among
  later-numbers =
      among_then _ _ (among_all _ (list_among old new w h ks) refl) (among_all _ (send_among index w h mode q new ks (length out)) refl)

  -- which numbers the call answers
  pub short_written_among : Among plan_numbers (plan_number r)
  short_written_among = rw x.wrote.number (short_among w h mode q index old new ks (length list) (length scratch) (length out))

  pub work_untouched : Among arg_numbers (plan_number r) → (list' ≡ list) × (scratch' ≡ scratch)
  unfolding own each among
  work_untouched e =
      let f = first_there own _ (among_none arg_numbers later-numbers refl) (subst (Among arg_numbers) number_is e) in
      (x.first ∙ sym (untouched _ own list refl f), x.second ∙ sym (untouched _ own scratch refl f))

  pub work_zeros : Other arg_numbers (plan_number r) → (list' ≡ replicate 4096 (pos 0)) × (scratch' ≡ replicate 4096 (pos 0))
  unfolding own
  work_zeros o =
      let z = sym (first_none own _ own_numbers (subst (Other arg_numbers) number_is o)) in
      (x.first ∙ sym (cleared _ list _ z refl), x.second ∙ sym (cleared _ scratch _ z refl))
