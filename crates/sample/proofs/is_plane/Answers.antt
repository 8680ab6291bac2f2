-- The samples are 4,096 numbers in range, as tested.
use Rattle.sample.proofs.Range.{plane-of}
use Rattle.sample.proofs.is_plane.Goals as goal

pub returns-then-samples-eq4096 : goal.returns-then-samples-eq4096
returns-then-samples-eq4096 c = λ e. plane-of c.args.samples.now _ c.if-samples-eq4096.true c.in_range.ensures e
