-- As many places agree in all as among those passed and those left.
use Rattle.std.proofs.Common.{◌≡◌, ◌≤◌, ◌+◌, drop}
use Rattle.sample.specs.Compare.{agreeing}
use Rattle.sample.proofs.stages.agree.Given as goal

abbrev pub invariant-loop-i : goal.invariant-loop-i
invariant-loop-i l = (l.same ≤ l.i) × (l.same + agreeing (drop l.i l.got) (drop l.i l.want) ≡ agreeing l.got l.want)
