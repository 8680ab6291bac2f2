-- Bits read with zeros past the end, and an element judged once: did it end within the bytes? What both are beside the product's definitions,
-- where each number can be cut, is laws/Zeros.
use Rattle.std.specs.Prelude.{ℕ, zero, suc, ◌+◌, ◌*◌, ◌^◌, Bool, true, false, List, [], ◌∷◌, drop, get_or, Result, Ok, Err}
use Rattle.whole.specs.Row.{◌⇒◌∣◌}
use Rattle.bits.specs.Bits.{val}
use Rattle.code.specs.declared.element.Element.{Element}
use Rattle.wire.specs.declared.Refusal.{Refusal}
use Rattle.wire.specs.declared.Refusal.TheVariants.{Cut, Range, Overrun}

-- the ones that bs begins with
unfoldable pub ones_in : List Bool → ℕ
ones_in [] = 0
ones_in (true ∷ bs) = suc (ones_in bs)
ones_in (false ∷ bs) = 0

-- k bits from the place `at` on as a number, high bit first, behind those already in acc
unfoldable pub num_in : ℕ → ℕ → ℕ → List Bool → ℕ
num_in zero acc at B = acc
num_in (suc k) acc at B = num_in k (acc * 2 + val (get_or B at false)) (at + 1) B

-- "A GR number: v ones, a zero, kr bits b; it is v x 2^kr + b."
unfoldable pub gr_in : ℕ → ℕ → List Bool → ℕ
gr_in k at B = ones_in (drop at B) * 2 ^ k + num_in k 0 (at + ones_in (drop at B) + 1) B

-- "read in full (1) before it is judged, 9 before 10"
abbrev pub judged_of : Bool → Bool → Bool → Element → Result Element Refusal
judged_of cut range overrun e = cut ⇒ Err Cut ∣ range ⇒ Err Range ∣ overrun ⇒ Err Overrun ∣ Ok e
