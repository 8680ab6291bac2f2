-- Each return is one row of `closed_of`.
use Rattle.whole.specs.laws.Row.{rows}
use Rattle.std.proofs.Common.{arith}
use Rattle.app_pictures.specs.Ppm.{closed_of}
use Rattle.app_pictures.specs.laws.Ppm.{blank_in}
use Rattle.app_pictures.proofs.ppm.closed.Goals as goal

pub returns-then-not-blank_at : goal.returns-then-not-blank_at
unfolding closed_of
returns-then-not-blank_at c = search rows

pub returns-then-most-ne255 : goal.returns-then-most-ne255
unfolding closed_of
returns-then-most-ne255 c = search rows

pub overflow_add-result : goal.overflow_add-result
overflow_add-result c =
    let b = blank_in c.args.m.now c.args.most.at _ c.blank_at.ensures c.if-not-blank_at.false in
    omega arith

pub returns : goal.returns
unfolding closed_of
returns c = search rows
