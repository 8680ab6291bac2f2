-- The part from the place to the end was lent, and came back written (`lent_behind`).
use borrow.Author.Rules.{rules}
use Rattle.app_send.specs.Both.{short_fault_in}
use Rattle.app_send.specs.laws.Stream.{lent_behind}
use Rattle.app_send.proofs.both.short_behind.Goals as goal

pub returns : goal.returns
returns c =
    let a = c.args in
    lent_behind (λ k. short_fault_in a.t a.old.now a.new.now a.picks.now k) a.at _ a.out.now _ _ c.requires c.short_into.ensures (search rules)
