-- The component reader: what it answers and what it leaves, for every input. 01, "Numbers the fitter sees".
-- (01 is this project's scope document, 02 its change requests, 001 is MS-RDPRFX: README, "What 01 is".)
use Rattle.std.specs.Prelude.{ℕ, zero, suc, ◌≡◌, Bool, true, false, List, [], ◌∷◌, map, ltb, leb, eqb, ℤ, pos, length, drop, replicate}
use Rattle.whole.specs.Row.{◌!◌⨾◌}
use Rattle.wire.specs.Mode.{is_mode}
use Rattle.bits.specs.Bits.{bits_of}
use Rattle.code.specs.Fold.{unfold_z}
use Rattle.code.specs.ReadList.{Walked, whole, bad, read_list}
use Rattle.wire.specs.Refusal.{refusal_number, refusal_of}
use Rattle.code.specs.declared.read.Reading.{Reading}
use Rattle.code.specs.declared.read.Reading.TheVariants.{Done, Tail, Refused}

-- ---- the answer: 01's number, and its values

unfoldable pub reading_number : Reading → ℕ
reading_number (Done bits) = 0
reading_number (Tail bits) = 11
reading_number (Refused r) = refusal_number r

-- "The component reader reports the code's length in bits on 0 and 11, else 0."
unfoldable pub reading_bits : Reading → ℕ
reading_bits (Done bits) = bits
reading_bits (Tail bits) = bits
reading_bits (Refused r) = 0

-- ---- the code

unfoldable pub no_ones : List Bool → Bool
no_ones [] = true
no_ones (true ∷ bs) = false
no_ones (false ∷ bs) = no_ones bs

-- not 11: "after the 4,096th value, 8 or more bits remain or one of them is 1"
unfoldable pub clean : List Bool → Bool
clean bs = ltb (length bs) 8 ! false ⨾ no_ones bs

-- what reading the 4,096 values of a code says of the whole
unfoldable pub end_reading : List Bool → Walked → Reading
end_reading B (bad r) = Refused r
end_reading B (whole xs at) = clean (drop at B) ! Tail at ⨾ Done at

-- and what it leaves: "fills it with zeros on 1, 9, 10, 11"
unfoldable pub end_list : List Bool → Walked → List ℤ
end_list B (bad r) = replicate 4096 (pos 0)
end_list B (whole xs at) = clean (drop at B) ! replicate 4096 (pos 0) ⨾ map unfold_z xs

unfoldable pub code_reading : Bool → List ℕ → Reading
code_reading rlgr3 s = end_reading (bits_of s) (read_list rlgr3 4096 (bits_of s))

unfoldable pub code_list : Bool → List ℕ → List ℤ
code_list rlgr3 s = end_list (bits_of s) (read_list rlgr3 4096 (bits_of s))

-- ---- the call

-- "Component calls first refuse a mode that is neither of the two (5). Component reader: 2, 6, then the code":
-- of the mode, the list's length and the number of bytes
unfoldable pub shell_fault : ℕ → ℕ → ℕ → ℕ
shell_fault mode n len =
    is_mode mode ! 5 ⨾
    eqb n 4096 ! 2 ⨾
    leb len 65535 ! 6 ⨾
    0

unfoldable pub after_shell : ℕ → Reading → Reading
after_shell zero r = r
after_shell (suc n) r = Refused (refusal_of (suc n))

-- the answer of a call: of the mode, the list's length and the bytes
unfoldable pub reading : ℕ → ℕ → List ℕ → Reading
reading mode n s = after_shell (shell_fault mode n (length s)) (code_reading (eqb mode 4) s)

unfoldable pub read_fault : ℕ → ℕ → List ℕ → ℕ
read_fault mode n s = reading_number (reading mode n s)

unfoldable pub read_bits : ℕ → ℕ → List ℕ → ℕ
read_bits mode n s = reading_bits (reading mode n s)

-- the numbers of a code, zeros where it is refused
unfoldable pub decoded : ℕ → List ℕ → List ℤ
decoded mode s = code_list (eqb mode 4) s

-- the list at exit: "leaves its output list untouched on 5, 2 and 6"
unfoldable pub read_into : ℕ → List ℕ → List ℤ → List ℤ
read_into mode s before = eqb (shell_fault mode (length before) (length s)) 0 ! before ⨾ decoded mode s

-- ---- what the functions promise

-- the code alone: on a refusal nothing is said of the list, which the call clears
pub record CodeRead (rlgr3 : Bool) (s : List ℕ) (after : List ℤ) (r : Reading) : Type 0 where
  pub answer : r ≡ code_reading rlgr3 s
  pub list : reading_number r ≡ 0 → after ≡ code_list rlgr3 s

pub record ComponentRead (mode : ℕ) (s : List ℕ) (before after : List ℤ) (r : Reading) : Type 0 where
  pub answer : r ≡ reading mode (length before) s
  pub list : after ≡ read_into mode s before
