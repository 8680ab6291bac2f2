-- Document 01, "Cases on both sides": "tileset 5051 .. RLGR3; .. 4451 .. RLGR1", and "quantiser 5 and 16 never pass".
-- (01 is this project's scope document, 02 its change requests, 001 is MS-RDPRFX: README, "What 01 is".)
use Rattle.std.specs.Prelude.{ℕ, ◌/◌, ◌%◌, ◌≤◌, ◌<◌, ◌≡◌, refl}
use Rattle.std.proofs.Common.{arith}
use Rattle.whole.specs.Row.{◌!◌⨾◌}
use Rattle.whole.specs.laws.Row.{rows}
use Rattle.frame_layout.specs.Bytes.{props_of}
use Rattle.frame_layout.specs.Reader.{props_good, halves_fault}
use Rattle.frame_blocks.specs.Cases.{PropsCases}

pub props_cases : PropsCases
unfolding props_good props_of ◌!◌⨾◌
props_cases = record { three = refl; three_not_one = refl; one = refl; one_not_three = refl; three_written = refl; one_written = refl }

-- a quantiser of 5 in either half, and one of 16, is a fault whatever stands beside it
pub low_five : (b : ℕ) → b % 16 ≡ 5 → 7 ≡ halves_fault b
unfolding halves_fault
low_five b e = let l : b % 16 < 6 = omega arith in search rows

pub high_five : (b : ℕ) → 6 ≤ b % 16 → b / 16 ≡ 5 → 7 ≡ halves_fault b
unfolding halves_fault
high_five b l e = let g : b / 16 < 6 = omega arith in search rows

pub high_sixteen : (b : ℕ) → 6 ≤ b % 16 → b / 16 ≡ 16 → 7 ≡ halves_fault b
unfolding halves_fault
high_sixteen b l e = let g : 15 < b / 16 = omega arith in let k : 6 ≤ b / 16 = omega arith in search rows
