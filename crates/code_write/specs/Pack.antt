-- Bits as bytes, computed: filled up with zero bits to a whole byte, then taken by eights. 01, "Bits go high bit first."
-- (01 is this project's scope document, 02 its change requests, 001 is MS-RDPRFX: README, "What 01 is".)
use Rattle.std.specs.Prelude.{ℕ, zero, suc, ◌+◌, ◌*◌, ◌-◌, ◌/◌, ◌%◌, Bool, false, List, [], ◌∷◌, ◌++◌, length, take, drop, replicate}
use Rattle.bits.specs.Bits.{val}

-- the number that some bits are, behind those already in acc
unfoldable pub value : ℕ → List Bool → ℕ
value acc [] = acc
value acc (b ∷ bs) = value (acc * 2 + val b) bs

-- zero bits up to a whole byte
unfoldable pub filled : List Bool → List Bool
filled bs = bs ++ replicate ((8 - length bs % 8) % 8) false

-- the first n eights, each a byte
unfoldable pub eights : ℕ → List Bool → List ℕ
unfolding value
eights zero bs = []
eights (suc n) bs = value 0 (take 8 bs) ∷ eights n (drop 8 bs)

unfoldable pub packed : List Bool → List ℕ
unfolding eights filled
packed bs = eights ((length bs + 7) / 8) (filled bs)
