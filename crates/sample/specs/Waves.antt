-- A level of the wavelet's way back on a work list (01, "Bands and the wavelet"), where it can be made; else the list stays as it was.
-- (01 is this project's scope document, 02 its change requests, 001 is MS-RDPRFX: README, "What 01 is".)
use Rattle.std.specs.Prelude.{ℕ, ◌*◌, ◌-◌, Bool, false, List, leb, eqb, ℤ, length}
use Rattle.whole.specs.Row.{◌!◌⨾◌, ◌⇒◌∣◌}
use Rattle.code_write.specs.Write.{all_in_range}
use Rattle.wave_back.specs.laws.Level.{level_from}

-- can the level whose bands are n by n be made? Of 4,096 numbers in range, m being the length of the list lent as scratch
unfoldable pub is_ready : List ℤ → ℕ → ℕ → Bool
is_ready l m n =
    leb 2 n ! false ⨾
    leb n 32 ! false ⨾
    eqb (length l) 4096 ! false ⨾
    eqb m 4096 ! false ⨾
    all_in_range l

-- the list after that level, whose bands stand at its end
unfoldable pub levelled : ℕ → ℕ → List ℤ → List ℤ
levelled n m l =
    is_ready l m n ⇒ level_from (4096 - 4 * (n * n)) n l ∣
    l
