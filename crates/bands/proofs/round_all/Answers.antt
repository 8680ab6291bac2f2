-- The bands are rounded, then LL3, lent as the last 64 places, comes back as differences (`differed`).
use mathlib.Core.Path.{◌≡◌, ◌∙◌, ap, subst, sym}
use native.Mathlib.Omega.{arith}
use lib.ListN.{length}
use Rattle.whole.specs.laws.Tab.{AllNear}
use Rattle.whole.specs.laws.Part.{part_near, part_length}
use Rattle.bands.specs.Rounding.{rounded_by, differences}
use Rattle.bands.specs.laws.Rounding.{rounded_near, differed}
use Rattle.bands.proofs.round_all.Goals as goal

pub difference_part-requires : goal.difference_part-requires
difference_part-requires c =
    let e = c.round_bands.ensures in
    let n =
    rounded_near c.args.q.v c.args.work.now
    c.requires.2 c.requires.1 in
    let l : length c.round_bands.new.work ≡ 4096 = ap length e ∙ n.0 in (
      part_length c.round_bands.new.work 4032 4096 (omega arith) (omega arith),
      part_near c.round_bands.new.work 4032 64 (subst (AllNear 268443648) (sym e) n.1),
    )

pub returns : goal.returns
unfolding rounded_by
returns c =
    let e = c.round_bands.ensures in
    let n = rounded_near c.args.q.v c.args.work.now c.requires.2 c.requires.1 in
    differed c.round_bands.new.work c.difference_part.new.part (ap length e ∙ n.0) c.difference_part.ensures ∙ ap differences e
