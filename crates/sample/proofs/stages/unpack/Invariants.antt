-- Each place that is passed has the file's number.
use Rattle.std.proofs.Common.{◌≡◌, ℕ, ◌<◌, get_or, pos}
use Rattle.sample.specs.Compare.{value_at}
use Rattle.sample.proofs.stages.unpack.Given as goal

abbrev pub invariant-loop-i : goal.invariant-loop-i
invariant-loop-i l = (n : ℕ) → n < l.i → get_or l.list n (pos 0) ≡ value_at l.bytes n
