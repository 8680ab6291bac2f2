-- The five numbers are read where the definition reads them.
use Rattle.session.specs.Header.{context_fault}
use Rattle.session.proofs.context_fault.Goals as goal

pub returns : goal.returns
unfolding context_fault
returns c = cc
