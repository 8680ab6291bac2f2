-- Each return is one row of `row_same`; the second feeds `row_is` with what the three callees give.
use mathlib.Core.Path.{ap, ◌∙◌}
use mir.Syntax.{w32}
use mir.Facts.{to_z-of_z}
use native.Mathlib.Omega.{arith}
use Rattle.whole.specs.laws.Row.{rows}
use Rattle.sample.specs.Compare.{place_of, row_same}
use Rattle.sample.specs.laws.Compare.{row_is}
use Rattle.sample.proofs.stages.row_same.Goals as goal

pub returns-then-rows-a : goal.returns-then-rows-a
unfolding row_same
returns-then-rows-a c = search rows

pub returns : goal.returns
returns c =
    row_is _ _ _ _ _ c.args.a _ _ (omega (arith, c.if-rows-a.false))
    (c.place_of-b.ensures ∙ ap place_of (to_z-of_z {w = w32} (record { sfits = c.place_of-arg-1.given })))
    c.part.ensures c.part-2.ensures c.agree.ensures
