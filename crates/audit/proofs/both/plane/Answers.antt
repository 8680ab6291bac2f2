-- `plane` meets its contract: where both numbers are 0, both lists are planes. Assumes nothing.
use mathlib.Core.Path.{sym, ◌∙◌}
use native.Mathlib.Omega.{arith}
use Rattle.bands.specs.Bands.{QuantGood}
use Rattle.bands.specs.laws.Band.{good_set}
use Rattle.audit.specs.laws.Planes.{ours_plane, plain_plane}
use Rattle.audit.proofs.both.plane.Goals as goal
use Rattle.audit.proofs.both.plane.Goals.{Else-not-is_good}

-- the set is good where the test was passed
set : (e : Else-not-is_good) → QuantGood e.args.q.v
set e = good_set _ (sym e.is_good.ensures ∙ e.if-not-is_good.false)

pub returns-then-ours-ne4096 : goal.returns-then-ours-ne4096
returns-then-ours-ne4096 c = λ z. absurd (omega arith)

pub returns-then-plain-ne4096 : goal.returns-then-plain-ne4096
returns-then-plain-ne4096 c = λ z. absurd (omega arith)

pub returns-then-tmp-ne4096 : goal.returns-then-tmp-ne4096
returns-then-tmp-ne4096 c = λ z. absurd (omega arith)

pub returns-then-not-is_good : goal.returns-then-not-is_good
returns-then-not-is_good c = λ z. absurd (omega arith)

pub component_fault-requires : goal.component_fault-requires
component_fault-requires c = (c.if-ours-ne4096.false, set (goal.at.component_fault-requires c).Else-not-is_good)

pub samples-requires : goal.samples-requires
samples-requires c = (c.if-plain-ne4096.false, c.if-tmp-ne4096.false, set (goal.at.samples-requires c).Else-not-is_good)

pub returns-then-n-m : goal.returns-then-n-m
returns-then-n-m c = λ z. absurd (omega arith)

pub returns-then-n-ne0 : goal.returns-then-n-ne0
returns-then-n-ne0 c = λ z. absurd (c.if-n-ne0.true z)

pub samples-requires-2 : goal.samples-requires-2
samples-requires-2 c =
    let f = c.component_fault in (
      f.auto.work ∙ c.if-ours-ne4096.false,
      c.samples.auto.tmp ∙ c.if-tmp-ne4096.false,
      set (goal.at.samples-requires-2 c).Else-not-is_good,
      sym c.if-n-ne0.false ∙ (c.number_of-n.ensures ∙ f.ensures.number),
    )

pub returns-then-eq : goal.returns-then-eq
returns-then-eq c =
    let p = c.samples in
    let a = c.args in
    let z = sym c.if-n-ne0.false ∙ (c.number_of-n.ensures ∙ c.component_fault.ensures.number) in
    λ y. (
      ours_plane a.mode a.q.v a.code.now z _ c.samples-2.ensures,
      plain_plane a.mode a.q.v a.code.now z a.plain.now p.new.work _ p.ensures,
    )

pub returns : goal.returns
returns c = λ z. absurd (omega arith)
