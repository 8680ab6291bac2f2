-- Each return is one row of `component_of`; every component of three bytes is small (`component_near`).
use mathlib.Core.Path.{◌≡◌, ◌∙◌, sym, subst}
use native.Mathlib.Omega.{arith}
use borrow.Author.Tests.{eq-eqb, ne_eqb}
use mir.Syntax.{w32}
use mir.Val.{to_z, of_z}
use Rattle.whole.specs.laws.Row.{case_yes, case_no}
use Rattle.whole.specs.laws.Near.{Near, back_ok}
use Rattle.tile_forth.specs.TileForth.{component_of}
use Rattle.tile_forth.specs.laws.TileForth.{component_near}
use Rattle.tile_forth.proofs.component.Goals as goal

pub returns-then-c-eq0 : goal.returns-then-c-eq0
unfolding component_of
returns-then-c-eq0 c =
    let v = back_ok w32 c.luma.result c.luma.type_inv ∙ c.luma.ensures in
    let e : to_z w32 (of_z w32 c.luma.result) ≡ component_of c.args.c c.args.r c.args.g c.args.b =
    case_yes _ _ _ _ (eq-eqb c.args.c 0 c.if-c-eq0.true) v in (
      e,
      subst (Near 16384) (sym e)
          (component_near c.args.c c.args.r c.args.g c.args.b (omega (arith, c.ranges)) (omega (arith, c.ranges))
          (omega (arith, c.ranges))),
    )

pub returns-then-c-eq1 : goal.returns-then-c-eq1
unfolding component_of
returns-then-c-eq1 c =
    let v = back_ok w32 c.cb.result c.cb.type_inv ∙ c.cb.ensures in
    let e : to_z w32 (of_z w32 c.cb.result) ≡ component_of c.args.c c.args.r c.args.g c.args.b =
    case_no _ _ _ _ (ne_eqb c.args.c 0 c.if-c-eq0.false) (case_yes _ _ _ _ (eq-eqb c.args.c 1 c.if-c-eq1.true) v) in (
      e,
      subst (Near 16384) (sym e)
          (component_near c.args.c c.args.r c.args.g c.args.b (omega (arith, c.ranges)) (omega (arith, c.ranges))
          (omega (arith, c.ranges))),
    )

pub returns : goal.returns
unfolding component_of
returns c =
    let v = back_ok w32 c.cr.result c.cr.type_inv ∙ c.cr.ensures in
    let e : to_z w32 (of_z w32 c.cr.result) ≡ component_of c.args.c c.args.r c.args.g c.args.b =
    case_no _ _ _ _ (ne_eqb c.args.c 0 c.if-c-eq0.false) (case_no _ _ _ _ (ne_eqb c.args.c 1 c.if-c-eq1.false) v) in (
      e,
      subst (Near 16384) (sym e)
          (component_near c.args.c c.args.r c.args.g c.args.b (omega (arith, c.ranges)) (omega (arith, c.ranges))
          (omega (arith, c.ranges))),
    )
