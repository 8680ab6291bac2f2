-- The two numbers are read where the definition reads them.
use Rattle.session.specs.Header.{sync_fault}
use Rattle.session.proofs.sync_fault.Goals as goal

pub returns : goal.returns
unfolding sync_fault
returns c = cc
