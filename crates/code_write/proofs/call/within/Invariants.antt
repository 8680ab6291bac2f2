-- What the loop keeps: what it found and what is left of the list are the whole list.
use mathlib.Core.Path.{◌≡◌}
use mathlib.Core.Bool.{Bool, ◌&&◌}
use mathlib.Core.List.{List}
use lib.IntN.{ℤ}
use lib.ListN.{drop}
use Rattle.code_write.specs.laws.Span.{all_from}
use Rattle.code_write.proofs.call.within.Given as goal

abbrev pub invariant-loop-x : goal.invariant-loop-x
invariant-loop-x l =
    let all : List ℤ → Bool = all_from l.least l.most in
    (l.good && all (drop l.x-index l.list)) ≡ all l.list
