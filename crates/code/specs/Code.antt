-- The code of a list, defined from the list alone: 01, "The component code" (001, 3.1.8.1.7).
-- Values are folded numbers (Fold.antt). The mode is a Bool: `rlgr3` says RLGR3, else it is RLGR1.
-- (01 is this project's scope document, 02 its change requests, 001 is MS-RDPRFX: README, "What 01 is".)
use Rattle.std.specs.Prelude.{ℕ, zero, suc, ◌+◌, ◌-◌, ◌/◌, ◌^◌, ◌≤◌, min, Bool, true, false, List, [], ◌∷◌, ◌++◌, length, drop, get_or, ltb, leb}
use Rattle.whole.specs.Row.{◌⇒◌∣◌}
use Rattle.bits.specs.Bits.{odd, num_bits, gr_bits}
use Rattle.code.specs.declared.element.Item.{Item}
use Rattle.code.specs.declared.element.Item.TheVariants.{Full, Run, Single, Twin}

-- ---- the running parameters: "k = floor(kp/8), kr = floor(krp/8); kp and krp stay in 0 to 80 by clamping"

-- p and d more (d less is p - d, which stops at 0)
abbrev pub raised : ℕ → ℕ → ℕ
raised d p = min 80 (p + d)

-- "A GR number: v ones, a zero, kr bits b; it is v x 2^kr + b." is grBits of the crate bits.
-- "Then krp falls by 2 if v = 0, rises by v if v > 1."
unfoldable pub kr_next : ℕ → ℕ → ℕ
kr_next krp zero = krp - 2
kr_next krp (suc zero) = krp
kr_next krp (suc (suc v)) = raised (suc (suc v)) krp

unfoldable pub kr_after : ℕ → ℕ → ℕ
unfolding kr_next
kr_after krp g = kr_next krp (g / 2 ^ (krp / 8))

-- RLGR1: "Zero: kp + 3, else kp - 3."
unfoldable pub kp_one : ℕ → ℕ → ℕ
kp_one kp zero = raised 3 kp
kp_one kp (suc v) = kp - 3

-- RLGR3: "Both zero: kp + 6; both not: kp - 6."
unfoldable pub kp_two : ℕ → ℕ → ℕ → ℕ
kp_two kp zero zero = raised 6 kp
kp_two kp zero (suc b) = kp
kp_two kp (suc a) zero = kp
kp_two kp (suc a) (suc b) = kp - 6

-- ---- the bits of one thing

-- "as many bits as g has (0 has none)"; f bounds the count
unfoldable pub size_f : ℕ → ℕ → ℕ
size_f zero g = zero
size_f (suc f) zero = zero
size_f (suc f) (suc g) = suc (size_f f (suc g / 2))

unfoldable pub size : ℕ → ℕ
unfolding size_f
size g = size_f g g

-- "Bit 1: k bits give the remaining zeros, then a sign bit (1 negative), then GR + 1 is the magnitude"
-- (of a folded v above 0: negative if v is odd, and the magnitude less 1 is (v - 1)/2)
unfoldable pub run_bits : ℕ → ℕ → ℕ → ℕ → List Bool
unfolding num_bits gr_bits
run_bits kp krp z v = true ∷ (num_bits (kp / 8) z ++ (odd v ∷ gr_bits (krp / 8) ((v - 1) / 2)))

-- "GR g, then as many bits as g has give the first half, g less that the second"
unfoldable pub pair_bits : ℕ → ℕ → ℕ → List Bool
unfolding gr_bits num_bits size
pair_bits krp a b = gr_bits (krp / 8) (a + b) ++ num_bits (size (a + b)) a

-- ---- what stands next in the code of a list

-- the zeros at the front of a list
unfoldable pub zeros_of : List ℕ → ℕ
zeros_of [] = 0
zeros_of (zero ∷ xs) = suc (zeros_of xs)
zeros_of (suc x ∷ xs) = 0

-- "k = 0, RLGR3": a pair ("If one place is left the second must be zero"); "k = 0, RLGR1": a single value;
-- "k > 0": a full run where 2^k zeros stand there, or where the zeros reach the end
-- ("The writer closes a list's last zeros, while k > 0, with full runs until they are covered."), else the remaining zeros and a value
unfoldable pub item_of : Bool → ℕ → List ℕ → Item
unfolding ◌⇒◌∣◌
item_of rlgr3 kp l =
    ltb kp 8 ⇒ (rlgr3 ⇒ Twin (get_or l 0 0) (get_or l 1 0) ∣ Single (get_or l 0 0)) ∣
    leb (min (2 ^ (kp / 8)) (length l)) (zeros_of l) ⇒ Full ∣
    Run (zeros_of l) (get_or l (zeros_of l) 0)

-- its bits: "each bit 0 is 2^k zeros"
unfoldable pub item_bits : ℕ → ℕ → Item → List Bool
item_bits kp krp Full = false ∷ []
item_bits kp krp (Run z v) = run_bits kp krp z v
item_bits kp krp (Single v) = gr_bits (krp / 8) v
item_bits kp krp (Twin a b) = pair_bits krp a b

-- how many values it covers: "A full run reaching or passing the 4,096th place is clipped there and ends the code."
unfoldable pub item_used : ℕ → Item → ℕ
item_used kp Full = 2 ^ (kp / 8)
item_used kp (Run z v) = suc z
item_used kp (Single v) = 1
item_used kp (Twin a b) = 2

-- kp after it: "2^k zeros, then kp + 4"; after a run's value "kp - 6"
unfoldable pub item_kp : ℕ → Item → ℕ
item_kp kp Full = raised 4 kp
item_kp kp (Run z v) = kp - 6
item_kp kp (Single v) = kp_one kp v
item_kp kp (Twin a b) = kp_two kp a b

-- krp after it: changed by its GR number, if it has one
unfoldable pub item_krp : ℕ → Item → ℕ
item_krp krp Full = krp
item_krp krp (Run z v) = kr_after krp ((v - 1) / 2)
item_krp krp (Single v) = kr_after krp v
item_krp krp (Twin a b) = kr_after krp (a + b)

-- ---- the code

-- the code of a list from the state kp, krp on: the next item's bits, then the code of what is left; f bounds the list's length
unfoldable pub code_f : ℕ → Bool → ℕ → ℕ → List ℕ → List Bool
code_f zero rlgr3 kp krp xs = []
code_f (suc f) rlgr3 kp krp [] = []
code_f (suc f) rlgr3 kp krp (x ∷ xs) =
    item_bits kp krp (item_of rlgr3 kp (x ∷ xs)) ++
    code_f f rlgr3 (item_kp kp (item_of rlgr3 kp (x ∷ xs))) (item_krp krp (item_of rlgr3 kp (x ∷ xs))) (drop (item_used kp (item_of rlgr3 kp (x ∷ xs))) (x ∷ xs))

-- "Start: kp = 8, krp = 8". "The code of a list is defined from the list alone, one for every list of demand 3, and never as what a reader takes"
unfoldable pub code_of : Bool → List ℕ → List Bool
unfolding code_f
code_of rlgr3 xs = code_f (length xs) rlgr3 8 8 xs

-- every value is in range: from -32,767 to 32,767 is folded from 0 to 65,534
abbrev pub InRange : List ℕ → Type 0
InRange xs = (i : ℕ) → get_or xs i 0 ≤ 65534
