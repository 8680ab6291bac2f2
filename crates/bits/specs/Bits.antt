-- Bits, high bit first: of a number, of a byte list; and the three ways a bit list is read from a place on.
use Rattle.std.specs.Prelude.{ℕ, zero, suc, ◌+◌, ◌*◌, ◌/◌, ◌%◌, ◌^◌, Bool, true, false, List, [], ◌∷◌, ◌++◌, drop, replicate, eqb, Option, Some, None}

-- a number that was read, and the place of the bit past it
pattern abbrev pub got : ℕ → ℕ → Option (ℕ × ℕ)
got value next = Some (value, next)

-- the lowest bit of a number
abbrev pub odd : ℕ → Bool
odd n = eqb (n % 2) 1

-- a bit as a number
abbrev pub val : Bool → ℕ
val true = 1
val false = 0

-- the k low bits of n, high bit first
unfoldable pub num_bits : ℕ → ℕ → List Bool
num_bits zero n = []
num_bits (suc k) n = odd (n / 2 ^ k) ∷ num_bits k n

-- the bits of a byte list
unfoldable pub bits_of : List ℕ → List Bool
bits_of [] = []
bits_of (b ∷ bs) = num_bits 8 b ++ bits_of bs

-- how many ones stand at the front of bs, which stands at the place `at`: the count (added to v) and the place past the zero after them
unfoldable pub ones_of : ℕ → ℕ → List Bool → Option (ℕ × ℕ)
ones_of v at [] = None
ones_of v at (true ∷ bs) = ones_of (v + 1) (at + 1) bs
ones_of v at (false ∷ bs) = got v (at + 1)

-- k bits as a number, high bit first, behind those already in acc
unfoldable pub num_of : ℕ → ℕ → ℕ → List Bool → Option (ℕ × ℕ)
num_of zero acc at bs = got acc at
num_of (suc k) acc at [] = None
num_of (suc k) acc at (b ∷ bs) = num_of k (acc * 2 + val b) (at + 1) bs

abbrev pub then_low : ℕ → ℕ → Option (ℕ × ℕ) → Option (ℕ × ℕ)
then_low k v None = None
then_low k v (got b at) = got (v * 2 ^ k + b) at

abbrev pub then_bits : ℕ → List Bool → Option (ℕ × ℕ) → Option (ℕ × ℕ)
then_bits k B None = None
then_bits k B (got v at) = then_low k v (num_of k 0 at (drop at B))

-- a GR number at the place `at` of B: v ones, a zero, k bits b; it is v * 2 ^ k + b
abbrev pub gr_of : ℕ → ℕ → List Bool → Option (ℕ × ℕ)
gr_of k at B = then_bits k B (ones_of 0 at (drop at B))

-- the same number written
unfoldable pub gr_bits : ℕ → ℕ → List Bool
unfolding num_bits
gr_bits k n = replicate (n / 2 ^ k) true ++ (false ∷ num_bits k n)
