-- The one place where an opened file is taken at its word (`as_opened`).
use Rattle.app_compare.specs.Outside.{as_opened}
use Rattle.app_compare.proofs.files.open.Goals as goal

pub returns : goal.returns
returns c = as_opened _ _
