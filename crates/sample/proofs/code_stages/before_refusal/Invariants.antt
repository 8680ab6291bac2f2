-- Fewer places are left after each element.
use Rattle.sample.proofs.code_stages.before_refusal.Given as goal

abbrev pub decreases-loop-e : goal.decreases-loop-e
decreases-loop-e l = l.left
