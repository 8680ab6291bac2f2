-- `settings::write::put_two` meets its contract: the front, luma's set, chroma's, the mode. Assumes nothing.
use mathlib.Core.Path.{◌≡◌}
use borrow.Author.Rules.{rules}
use lib.ListN.{length}
use Rattle.settings.specs.laws.Write.{two_put}
use Rattle.settings.proofs.write.put_two.Goals as goal
use Rattle.settings.proofs.write.put_two.Goals.{Start}

ten : (s : Start) → (length s.args.luma.v ≡ 10) × (length s.args.chroma.v ≡ 10)
ten s = search rules

pub returns : goal.returns
returns c =
    let t = ten (goal.at.returns c).Start in
    two_put _ _ _ _ _ _ _ _ t.0 t.1 c.put_front.ensures c.put_set.ensures c.put_set-2.ensures c.put8_at.ensures
