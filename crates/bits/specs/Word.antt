-- 57 bits as one number: document 02, request Ten, "Look at a word at a time and count its leading bits."
-- (01 is this project's scope document, 02 its change requests, 001 is MS-RDPRFX: README, "What 01 is".)
use Rattle.std.specs.Prelude.{ℕ, zero, suc, ◌+◌, ◌*◌, Bool, true, false, List, [], ◌∷◌, get_or}

-- four bytes of a list, high byte first, as a number
abbrev pub four_of : List ℕ → ℕ → ℕ
four_of s j = ((get_or s j 0 * 256 + get_or s (j + 1) 0) * 256 + get_or s (j + 2) 0) * 256 + get_or s (j + 3) 0

-- the number that some bytes are, high byte first, behind those already in acc
unfoldable pub horner : ℕ → List ℕ → ℕ
horner acc [] = acc
horner acc (b ∷ bs) = horner (acc * 256 + b) bs

-- the first n of some bits, zeros past their end
unfoldable pub padded : ℕ → List Bool → List Bool
padded zero bs = []
padded (suc n) [] = false ∷ padded n []
padded (suc n) (b ∷ bs) = b ∷ padded n bs

-- how many zeros some bits begin with
unfoldable pub front_zeros : List Bool → ℕ
front_zeros [] = 0
front_zeros (false ∷ bs) = suc (front_zeros bs)
front_zeros (true ∷ bs) = 0

-- how many ones some bits begin with
unfoldable pub front_ones : List Bool → ℕ
front_ones [] = 0
front_ones (true ∷ bs) = suc (front_ones bs)
front_ones (false ∷ bs) = 0
