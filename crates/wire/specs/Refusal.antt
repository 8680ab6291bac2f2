-- 01, "Numbers the fitter sees": why a call refuses, by its name and its number; and what a call answers, done or refused.
-- (01 is this project's scope document, 02 its change requests, 001 is MS-RDPRFX: README, "What 01 is".)
use Rattle.std.specs.Prelude.{ℕ, eqb, Result, Ok, Err}
use Rattle.whole.specs.Row.{◌⇒◌∣◌}
use Rattle.wire.specs.declared.Refusal.{Refusal}
use Rattle.wire.specs.declared.Refusal.TheVariants.{Cut, Buffer, Kind, Length, Field, TooBig, Quant, Place, Range, Overrun, Tail, Order, Room}

-- the table's numbers; of a code 1 is "the code being read, needs more than is there"
abbrev pub refusal_number : Refusal → ℕ
refusal_number Cut = 1
refusal_number Buffer = 2
refusal_number Kind = 3
refusal_number Length = 4
refusal_number Field = 5
refusal_number TooBig = 6
refusal_number Quant = 7
refusal_number Place = 8
refusal_number Range = 9
refusal_number Overrun = 10
refusal_number Tail = 11
refusal_number Order = 12
refusal_number Room = 13

-- the refusal of a number; one that is none of 01's is the last
unfoldable pub refusal_of : ℕ → Refusal
refusal_of n =
    eqb n 1 ⇒ Cut ∣
    eqb n 2 ⇒ Buffer ∣
    eqb n 3 ⇒ Kind ∣
    eqb n 4 ⇒ Length ∣
    eqb n 5 ⇒ Field ∣
    eqb n 6 ⇒ TooBig ∣
    eqb n 7 ⇒ Quant ∣
    eqb n 8 ⇒ Place ∣
    eqb n 9 ⇒ Range ∣
    eqb n 10 ⇒ Overrun ∣
    eqb n 11 ⇒ Tail ∣
    eqb n 12 ⇒ Order ∣
    Room

-- "0 done"; else the number of what it is refused for
abbrev pub number_by : {A E : Type 0} → (E → ℕ) → Result A E → ℕ
number_by value (Ok a) = 0
number_by value (Err refusal) = value refusal

abbrev pub number_of : {A : Type 0} → Result A Refusal → ℕ
number_of answer = number_by refusal_number answer

-- "when done they say the length in bytes, refused 0"; "A done frame reports numTiles, a refused one 0."
abbrev pub count_of : {E : Type 0} → Result ℕ E → ℕ
count_of (Ok n) = n
count_of (Err refusal) = 0
