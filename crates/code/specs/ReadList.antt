-- What reading a code finds: 01, "The component code", with the numbers 1, 9 and 10 and "each code element is read in full (1) before it is judged, 9
-- before 10".
-- (01 is this project's scope document, 02 its change requests, 001 is MS-RDPRFX: README, "What 01 is".)
use Rattle.std.specs.Prelude.{Result, Ok, Err}
use Rattle.std.specs.Prelude.{Option, None}
use Rattle.std.specs.Prelude.{ℕ, zero, suc, ◌+◌, ◌*◌, ◌-◌, ◌/◌, ◌^◌, min, Bool, true, false, List, [], ◌∷◌, ◌++◌, drop, take, replicate, ltb, leb}
use Rattle.whole.specs.Row.{◌⇒◌∣◌}
use Rattle.bits.specs.Bits.{got, num_of, gr_of}
use Rattle.code.specs.Code.{raised, kr_after, kp_one, kp_two, size}
use Rattle.code.specs.declared.element.State.{State}
use Rattle.wire.specs.declared.Refusal.{Refusal}
use Rattle.wire.specs.declared.Refusal.TheVariants.{Cut, Range, Overrun}
use Rattle.code.specs.declared.element.Element.{Element}
use Rattle.code.specs.declared.element.Element.TheVariants.{Zeros, One, Two}

-- the largest folded value in range
abbrev pub folded_most : ℕ
folded_most = 65534

abbrev pub state_at : ℕ → ℕ → ℕ → State
state_at a p r = record { at = a; kp = p; krp = r }

-- ---- one element: its numbers are read one after the other, and too few bits for one of them is `cut`; then it is judged

-- a run's value, read in full: z zeros, the sign s, the magnitude less 1 g; 9, then
-- 10 "a remainder run with no place left for its value"; "kp - 6"
abbrev pub judge_run : ℕ → ℕ → ℕ → ℕ → ℕ → ℕ → ℕ → Result Element Refusal
judge_run kp krp left z s g at =
    ltb 32766 g ⇒ Err Range ∣
    leb left z ⇒ Err Overrun ∣
    Ok (One z (2 * (g + 1) - s) (state_at at (kp - 6) (kr_after krp g)))

abbrev pub run_third : ℕ → ℕ → ℕ → ℕ → ℕ → Option (ℕ × ℕ) → Result Element Refusal
run_third kp krp left z s None = Err Cut
run_third kp krp left z s (got g at) = judge_run kp krp left z s g at

abbrev pub run_second : ℕ → ℕ → ℕ → List Bool → ℕ → Option (ℕ × ℕ) → Result Element Refusal
run_second kp krp left B z None = Err Cut
run_second kp krp left B z (got s at) = run_third kp krp left z s (gr_of (krp / 8) at B)

abbrev pub run_first : ℕ → ℕ → ℕ → List Bool → Option (ℕ × ℕ) → Result Element Refusal
run_first kp krp left B None = Err Cut
run_first kp krp left B (got z at) = run_second kp krp left B z (num_of 1 0 at (drop at B))

-- "k > 0: each bit 0 is 2^k zeros, then kp + 4." "Bit 1: k bits give the remaining zeros, then a sign bit, then GR + 1 is the magnitude"
abbrev pub run_elem : ℕ → ℕ → ℕ → List Bool → Option (ℕ × ℕ) → Result Element Refusal
run_elem kp krp left B None = Err Cut
run_elem kp krp left B (got zero at) = Ok (Zeros (2 ^ (kp / 8)) (state_at at (raised 4 kp) krp))
run_elem kp krp left B (got (suc b) at) = run_first kp krp left B (num_of (kp / 8) 0 at (drop at B))

-- "k = 0, RLGR1: GR g."
abbrev pub one_elem : ℕ → ℕ → Option (ℕ × ℕ) → Result Element Refusal
one_elem kp krp None = Err Cut
one_elem kp krp (got g at) = ltb folded_most g ⇒ Err Range ∣ Ok (One 0 g (state_at at (kp_one kp g) (kr_after krp g)))

-- a pair out of range: "a first half above g is range", or either half too large
abbrev pub wide : ℕ → ℕ → Bool
wide g a = ltb g a ⇒ true ∣ ltb folded_most a ⇒ true ∣ ltb folded_most (g - a)

-- 10 "a second value not zero with no place"
abbrev pub no_second_place : ℕ → ℕ → Bool
no_second_place left b = ltb left 2 ⇒ ltb 0 b ∣ false

abbrev pub judge_two : ℕ → ℕ → ℕ → ℕ → ℕ → ℕ → Result Element Refusal
judge_two kp krp left g a at =
    wide g a ⇒ Err Range ∣
    no_second_place left (g - a) ⇒ Err Overrun ∣
    Ok (Two a (g - a) (state_at at (kp_two kp a (g - a)) (kr_after krp g)))

abbrev pub two_second : ℕ → ℕ → ℕ → ℕ → Option (ℕ × ℕ) → Result Element Refusal
two_second kp krp left g None = Err Cut
two_second kp krp left g (got a at) = judge_two kp krp left g a at

-- "k = 0, RLGR3: GR g, then as many bits as g has give the first half, g less that the second"
abbrev pub two_elem : ℕ → ℕ → ℕ → List Bool → Option (ℕ × ℕ) → Result Element Refusal
two_elem kp krp left B None = Err Cut
two_elem kp krp left B (got g at) = two_second kp krp left g (num_of (size g) 0 at (drop at B))

-- the element at the place `at` of B, with `left` places left in the list
unfoldable pub elem_of : Bool → ℕ → ℕ → ℕ → ℕ → List Bool → Result Element Refusal
unfolding kp_one kp_two kr_after size ◌⇒◌∣◌
elem_of rlgr3 kp krp left at B =
    ltb kp 8 ⇒ (rlgr3 ⇒ two_elem kp krp left B (gr_of (krp / 8) at B) ∣ one_elem kp krp (gr_of (krp / 8) at B)) ∣
    run_elem kp krp left B (num_of 1 0 at (drop at B))

-- ---- a whole list

-- the values and the place past the code, or a refusal
pub data Walked : Type 0 where
  whole : List ℕ → ℕ → Walked
  bad : Refusal → Walked

-- one element's values behind those done: "A full run reaching or passing the 4,096th place is clipped there"
abbrev pub step : Result Element Refusal → ℕ → List ℕ → (State → ℕ → List ℕ → Walked) → Walked
step (Err r) left done go = bad r
step (Ok (Zeros n s)) left done go = go s (left - n) (done ++ replicate (min n left) 0)
step (Ok (One z v s)) left done go = go s (left - (z + 1)) (done ++ (replicate z 0 ++ (v ∷ [])))
step (Ok (Two a b s)) left done go = go s (left - 2) (done ++ take left (a ∷ b ∷ []))

-- the `left` values from a state on, behind those already done; f bounds the number of elements
unfoldable pub walk : ℕ → Bool → ℕ → ℕ → ℕ → ℕ → List ℕ → List Bool → Walked
unfolding elem_of
walk zero rlgr3 kp krp at left done B = whole done at
walk (suc f) rlgr3 kp krp at zero done B = whole done at
walk (suc f) rlgr3 kp krp at (suc left) done B =
    step (elem_of rlgr3 kp krp (suc left) at B) (suc left) done (λ s l d. walk f rlgr3 s.kp s.krp s.at l d B)

-- the n values of the code that B begins with
unfoldable pub read_list : Bool → ℕ → List Bool → Walked
unfolding walk
read_list rlgr3 n B = walk n rlgr3 8 8 0 n [] B
