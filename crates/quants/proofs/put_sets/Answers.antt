-- `quants::put_sets` meets its contract: luma's set, and where they differ chroma's right behind it. Assumes nothing.
use mathlib.Core.Path.{◌≡◌, sym, ◌∙◌}
use native.Mathlib.Omega.{arith}
use borrow.Author.Rules.{rules}
use lib.ListN.{length}
use Rattle.quants.specs.laws.Quants.{index_two, one_put, two_put}
use Rattle.quants.proofs.put_sets.Goals as goal
use Rattle.quants.proofs.put_sets.Goals.{Start}

ten : (s : Start) → (length s.args.q.luma.v ≡ 10) × (length s.args.q.chroma.v ≡ 10)
ten s = search rules

pub returns-then-is_same : goal.returns-then-is_same
returns-then-is_same c =
    one_put c.args.q (ten (goal.at.returns-then-is_same c).Start).0 (ten (goal.at.returns-then-is_same c).Start).1 _ _ _
    (sym c.is_same.ensures ∙ c.if-is_same.true) c.put_set.ensures

pub put_set-requires-2 : goal.put_set-requires-2
put_set-requires-2 c =
    (omega (arith, c.requires.0, index_two c.args.q (sym c.is_same.ensures ∙ c.if-is_same.false)), c.requires.2)

pub returns : goal.returns
returns c =
    two_put c.args.q (ten (goal.at.returns c).Start).0 (ten (goal.at.returns c).Start).1 _ _ _ _ (sym c.is_same.ensures ∙ c.if-is_same.false)
    (omega (arith, c.requires.0)) c.put_set.ensures
    c.put_set-2.ensures
