-- The part from the place to the end was lent, and came back written (`lent_behind`).
use borrow.Author.Rules.{rules}
use Rattle.app_send.specs.Stream.{frame_fault}
use Rattle.app_send.specs.laws.Stream.{lent_behind}
use Rattle.app_send.proofs.frame_behind.Goals as goal

pub returns : goal.returns
returns c =
    let a = c.args in
    lent_behind (λ k. frame_fault a.t a.pixels.now k) a.at _ a.out.now _ _ c.requires c.frame_into.ensures (search rules)
