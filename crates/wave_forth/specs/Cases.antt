-- A worked line of this layer, by computation: four numbers forth. All halves but one are of odd negative numbers, and both edges are in it.
-- (01 is this project's scope document, 02 its change requests, 001 is MS-RDPRFX: README, "What 01 is".)
use Rattle.std.specs.Prelude.{◌≡◌, List, [], ◌∷◌, ℤ, pos, negsuc}
use Rattle.whole.specs.Tab.{at, table}
use Rattle.wave_forth.specs.Halves.{line_high, line_low}

-- 5 -3 -8 -11
abbrev pub line : List ℤ
line = pos 5 ∷ negsuc 2 ∷ negsuc 7 ∷ negsuc 10 ∷ []

-- "H[n] = floor((x[2n+1] - floor((x[2n] + x[2n+2])/2))/2)": floor((-3 + 2)/2) is -1, and with the last even x past the end floor((-11 + 8)/2) is -2.
-- "L[n] = x[2n] + floor((H[n-1] + H[n])/2)": with H[0] for H[-1] 5 - 1 is 4, and -8 + floor(-3/2) is -10
pub record Worked : Type 0 where
  pub highs : table 2 (line_high 2 (at line)) ≡ negsuc 0 ∷ negsuc 1 ∷ []
  pub lows : table 2 (line_low 2 (at line)) ≡ pos 4 ∷ negsuc 9 ∷ []
