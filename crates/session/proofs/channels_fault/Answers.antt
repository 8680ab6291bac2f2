-- The four numbers are read where the definition reads them.
use Rattle.session.specs.Header.{channels_fault}
use Rattle.session.proofs.channels_fault.Goals as goal

pub returns : goal.returns
unfolding channels_fault
returns c = cc
