-- The component writer: what it answers and what it leaves, for every input. 01, "Numbers the fitter sees" and "Component writer: 2, 9, 6, 13."
-- (01 is this project's scope document, 02 its change requests, 001 is MS-RDPRFX: README, "What 01 is".)
use Rattle.std.specs.Prelude.{ℕ, zero, suc, ◌≡◌, Bool, true, false, List, [], ◌∷◌, leb, eqb, ℤ, nat_abs, length, Result, Ok, Err}
use Rattle.whole.specs.Row.{◌!◌⨾◌, ◌⨟◌}
use Rattle.wire.specs.Mode.{is_mode}
use Rattle.wire.specs.Wrote.{Wrote}
use Rattle.wire.specs.Refusal.{refusal_of, number_of, count_of}
use Rattle.wire.specs.declared.Refusal.{Refusal}
use Rattle.code.specs.OneCode.{code}
use Rattle.code_write.specs.Pack.{packed}

-- ---- the bytes

-- the code of a list, filled up
unfoldable pub bytes_of : ℕ → List ℤ → List ℕ
bytes_of mode zs = packed (code mode zs)

-- ---- the faults

-- not 9: no number is "outside -32,767 to 32,767"
unfoldable pub all_in_range : List ℤ → Bool
all_in_range [] = true
all_in_range (z ∷ zs) = leb (nat_abs z) 32767 ! false ⨾ all_in_range zs

-- of a component by itself: "9 (as the reader would judge) then 6", which is given over "65,535 bytes in a component"
unfoldable pub code_fault : ℕ → List ℤ → ℕ
code_fault mode zs = all_in_range zs ! 9 ⨾ leb (length (bytes_of mode zs)) 65535 ! 6 ⨾ 0

-- "Component calls first refuse a mode that is neither of the two (5)." Then 2: the "component list is not 4,096 numbers"
unfoldable pub ask_fault : ℕ → ℕ → ℕ
ask_fault mode n = is_mode mode ! 5 ⨾ eqb n 4096 ! 2 ⨾ 0

-- 13: "the lent output is shorter than what is to be written"
unfoldable pub write_fault : ℕ → List ℤ → ℕ → ℕ
write_fault mode zs room =
    ask_fault mode (length zs) ⨟
    (code_fault mode zs ⨟
    (leb (length (bytes_of mode zs)) room ! 13 ⨾ 0))

-- ---- what the functions promise

-- the writer: its output as it was and as it is, and its answer
abbrev pub ComponentWritten : ℕ → List ℤ → List ℕ → List ℕ → Result ℕ Refusal → Type 0
ComponentWritten mode zs out out' r = Wrote (write_fault mode zs (length out)) (bytes_of mode zs) out out' r

-- measured by itself: the refusal, or the size in bytes
unfoldable pub sized_of : ℕ → ℕ → Result ℕ Refusal
sized_of zero bytes = Ok bytes
sized_of (suc n) bytes = Err (refusal_of (suc n))

-- what measures: the refusal, and where there is none the size in bytes
pub record Measures (refusal bytes : ℕ) (r : Result ℕ Refusal) : Type 0 where
  pub number : number_of r ≡ refusal
  pub size : number_of r ≡ 0 → count_of r ≡ bytes
