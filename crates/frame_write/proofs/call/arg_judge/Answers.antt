-- Each return is one row of `arg_fault_over`; a size that is good is one that 01 allows.
use mathlib.Core.Path.{sym, ◌∙◌}
use Rattle.whole.specs.laws.Row.{rows}
use Rattle.session.specs.laws.Header.{allowed}
use Rattle.frame_write.specs.Sets.{arg_fault_over}
use Rattle.frame_write.proofs.call.arg_judge.Goals as goal

pub returns-then-not-is_size : goal.returns-then-not-is_size
unfolding arg_fault_over
returns-then-not-is_size c = search rows depth 14 fits 20000

pub returns-then-not-is_mode : goal.returns-then-not-is_mode
unfolding arg_fault_over
returns-then-not-is_mode c = search rows depth 14 fits 20000

pub returns-then-not-is_good : goal.returns-then-not-is_good
unfolding arg_fault_over
returns-then-not-is_good c = search rows depth 14 fits 20000

pub is_pixels-requires : goal.is_pixels-requires
is_pixels-requires c =
    let j = c.args.job in
    let k = allowed j.width j.height j.mode (sym c.is_size.ensures ∙ c.if-not-is_size.false) (sym c.is_mode.ensures ∙ c.if-not-is_mode.false) in
    (k.most_w, k.most_h)

pub returns-then-not-is_pixels : goal.returns-then-not-is_pixels
unfolding arg_fault_over
returns-then-not-is_pixels c = search rows depth 14 fits 20000

pub returns-then-list-ne4096 : goal.returns-then-list-ne4096
unfolding arg_fault_over
returns-then-list-ne4096 c = search rows depth 14 fits 20000

pub returns-then-scratch-ne4096 : goal.returns-then-scratch-ne4096
unfolding arg_fault_over
returns-then-scratch-ne4096 c = search rows depth 14 fits 20000

pub returns : goal.returns
unfolding arg_fault_over
returns c = search rows depth 14 fits 20000
