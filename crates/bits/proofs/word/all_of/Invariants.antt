-- `bits::word::all_of` meets its contract. The loop's invariant: the bytes still to come, behind w, are the number; w has 8 bits for each byte
-- before. Assumes nothing.
use Prim.Native.Nat.{◌*◌, ◌<◌, ◌^◌}
use mathlib.Core.Path.{◌≡◌}
use lib.ListN.{drop}
use Rattle.bits.specs.Word.{horner}
use Rattle.bits.proofs.word.all_of.Given as goal

abbrev pub invariant-loop-b : goal.invariant-loop-b
invariant-loop-b l = (horner l.w (drop l.b-index l.s) ≡ horner 0 l.s) × (l.w < 2 ^ (8 * l.b-index))
