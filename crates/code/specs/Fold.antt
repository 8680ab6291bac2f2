-- Signed numbers folded to whole numbers: 01, "The component code".
-- (01 is this project's scope document, 02 its change requests, 001 is MS-RDPRFX: README, "What 01 is".)
use Rattle.std.specs.Prelude.{ℕ, ◌+◌, ◌*◌, ◌/◌, ◌%◌, Bool, true, false, ℤ, pos, negsuc, eqb}

-- "Even is g/2, odd is -(g+1)/2." (negsuc h is -(h + 1), and for odd g (g + 1)/2 is g/2 + 1)
unfoldable pub unfold_by : Bool → ℕ → ℤ
unfold_by true h = pos h
unfold_by false h = negsuc h

unfoldable pub unfold_z : ℕ → ℤ
unfolding unfold_by
unfold_z g = unfold_by (eqb (g % 2) 0) (g / 2)

-- the same backwards: 2x for x from 0 on, -2x - 1 below 0
unfoldable pub fold_z : ℤ → ℕ
fold_z (pos n) = n * 2
fold_z (negsuc n) = n * 2 + 1
