-- The code is refused, a value is out of range and the list cleared, or it has its coefficients.
use Rattle.std.proofs.Common.{refl, ap, ◌∙◌, arith, replicate, pos}
use Rattle.wire.specs.laws.Refusal.{number_pos}
use Rattle.code.specs.Read.{reading_number}
use Rattle.plain.specs.laws.Parts.{part_refused, part_good, part_bad, part_done}
use Rattle.plain.proofs.component.Goals as goal

pub returns-in-Tail : goal.returns-in-Tail
unfolding reading_number
returns-in-Tail c = part_refused _ _ _ _ _ _ c.requires.0 c.in-Tail.ensures 11 refl (λ z. omega (arith, z))

pub returns-in-Refused : goal.returns-in-Refused
unfolding reading_number
returns-in-Refused c = part_refused _ _ _ _ _ _ c.requires.0 c.in-Refused.ensures _ refl (number_pos _)

pub fit-requires : goal.fit-requires
unfolding reading_number
fit-requires c =
    let g = part_good c.args.mode c.args.q.v _ _ _ _ c.requires.0 c.in-Done.ensures 0 refl refl in (g.0, g.1, c.requires.1)

pub returns-in-Err : goal.returns-in-Err
unfolding reading_number
returns-in-Err c =
    part_bad _ _ _ _ _ _ c.requires.0 c.in-Done.ensures 0 refl refl _ _ c.in-Err.ensures _ (number_pos _)
    (c.clear.ensures ∙ ap (λ k. replicate k (pos 0)) (c.fit.auto.work ∙ c.read_component.auto.list ∙ c.requires.0))

pub returns : goal.returns
unfolding reading_number
returns c = part_done _ _ _ _ _ _ c.requires.0 c.in-Done.ensures 0 refl refl _ 0 c.in_default.ensures refl
