-- Only the index is another.

use Rattle.app_send.proofs.both.next.Goals as goal

pub returns : goal.returns
returns c = cc
