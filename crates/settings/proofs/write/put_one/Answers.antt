-- `settings::write::put_one` meets its contract: the front, the set, the mode. Assumes nothing.
use mathlib.Core.Path.{◌≡◌}
use borrow.Author.Rules.{rules}
use lib.ListN.{length}
use Rattle.settings.specs.laws.Write.{one_put}
use Rattle.settings.proofs.write.put_one.Goals as goal
use Rattle.settings.proofs.write.put_one.Goals.{Start}

ten : (s : Start) → length s.args.q.v ≡ 10
ten s = search rules

pub returns : goal.returns
returns c =
    one_put _ _ _ _ _ _ (ten (goal.at.returns c).Start) c.put_front.ensures c.put_set.ensures c.put8_at.ensures
