-- The one place where a read is taken at its word (`as_read`): what came is a piece of the file behind the descriptor, at the place that was set. A place that
-- cannot be set gives nothing.
use Rattle.app_compare.specs.laws.Files.{read_known}
use Rattle.app_compare.specs.Outside.{as_read}
use Rattle.std.proofs.Common.{arith}
use Rattle.app_compare.proofs.files.read_into.Goals as goal

pub returns-in-Some : goal.returns-in-Some
returns-in-Some c = (c.read_from.ensures, read_known _ _ _ _ (as_read _))

pub returns-in-None : goal.returns-in-None
returns-in-None c = (omega arith, read_known _ _ _ _ (as_read _))
