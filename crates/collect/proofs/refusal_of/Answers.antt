-- `collect::refusal_of` meets its contract: each return is a row of `refusal_of`.
use Rattle.std.proofs.Common.{le-ltb}
use Rattle.whole.specs.laws.Row.{rows, case_no}
use Rattle.collect.specs.Collect.{refusal_of}
use Rattle.collect.proofs.refusal_of.Goals as goal

pub returns-then-seen-lt6 : goal.returns-then-seen-lt6
unfolding refusal_of
returns-then-seen-lt6 c = search rows

pub returns : goal.returns
unfolding refusal_of
returns c = case_no _ _ _ _ (le-ltb c.args.seen 6 c.if-seen-lt6.false) c.head_fault.ensures
