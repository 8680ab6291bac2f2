-- `tile_diff::pic::judge` meets its contract: each return is a row of `verdict_of`.
use mathlib.Core.Path.{refl, sym, ◌∙◌}
use Rattle.whole.specs.laws.Row.{passes, fails}
use Rattle.tile_diff.specs.Pic.{verdict_of}
use Rattle.tile_diff.proofs.pic.judge.Goals as goal

pub returns-then-is_whole-2 : goal.returns-then-is_whole-2
unfolding verdict_of
returns-then-is_whole-2 c =
    let is_whole = c.is_whole in
    let if1 = c.if-is_whole in
    let is-whole2 = c.is_whole-then-is_whole in
    let if2 = c.if-is_whole-2 in
    let sizes-judge = c.sizes_judge in
    passes _ _ _ _ (sym is_whole.ensures ∙ if1.true) (passes _ _ _ _ (sym is-whole2.ensures ∙ if2.true) sizes-judge.ensures)

pub returns-then-is_whole : goal.returns-then-is_whole
unfolding verdict_of
returns-then-is_whole c =
    let is_whole = c.is_whole in
    let if1 = c.if-is_whole in
    let is-whole2 = c.is_whole-then-is_whole in
    let if2 = c.if-is_whole-2 in
    passes _ _ _ _ (sym is_whole.ensures ∙ if1.true) (fails _ _ _ _ (sym is-whole2.ensures ∙ if2.false) refl)

pub returns : goal.returns
unfolding verdict_of
returns c = fails _ _ _ _ (sym c.is_whole.ensures ∙ c.if-is_whole.false) refl
