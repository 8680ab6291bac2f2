-- Two pictures of one size, as files have them.
use Rattle.std.specs.Prelude.{List, ℕ, eqb, Result, Ok, Err}
use Rattle.whole.specs.Row.{◌!◌⨾◌}
use Rattle.app_pictures.specs.Ppm.{picture_of}
use Rattle.app_pictures.specs.declared.ppm.Head.{Head}
use Rattle.app_pictures.specs.declared.ppm.Unfit.{Unfit}
use Rattle.app_send.specs.declared.faults.Fault.{Fault}
use Rattle.app_send.specs.declared.faults.Fault.TheVariants.{Picture, Differ}
use Rattle.app_send.specs.declared.pair.Pair.{Pair}

abbrev pub one_pair : Head → Head → Pair
one_pair one two = record { width = one.width; height = one.height; old = one.at; new = two.at }

-- of one size
unfoldable pub sized_pair : Head → Head → Result Pair Fault
sized_pair one two =
    eqb two.width one.width ! Err Differ ⨾
    eqb two.height one.height ! Err Differ ⨾
    Ok (one_pair one two)

-- the first picture's fault, then the second's
abbrev pub second_pair : Head → Result Head Unfit → Result Pair Fault
second_pair one (Ok two) = sized_pair one two
second_pair one (Err unfit) = Err (Picture unfit)

abbrev pub heads_pair : Result Head Unfit → Result Head Unfit → Result Pair Fault
heads_pair (Ok one) two = second_pair one two
heads_pair (Err unfit) two = Err (Picture unfit)

abbrev pub pair_of : List ℕ → List ℕ → Result Pair Fault
pair_of old new = heads_pair (picture_of old) (picture_of new)
