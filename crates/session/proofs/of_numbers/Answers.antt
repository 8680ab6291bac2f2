-- `of_numbers` meets its contract: that of `of_glass`.

use Rattle.session.proofs.of_numbers.Goals as goal

pub returns : goal.returns
returns c = c.of_glass.ensures
