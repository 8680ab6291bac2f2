-- The three numbers are read where the definition reads them.
use Rattle.session.specs.Header.{versions_fault}
use Rattle.session.proofs.versions_fault.Goals as goal

pub returns : goal.returns
unfolding versions_fault
returns c = cc
