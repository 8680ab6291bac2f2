-- `forth::tile_forth` meets its contract.
use mathlib.Core.Path.{◌∙◌, ap, sym, refl, subst}
use lib.Dec.{lit≤}
use Rattle.whole.specs.laws.Tab.{AllNear}
use Rattle.whole.specs.laws.More.{all_wide}
use Rattle.wave_forth.specs.Forth.{forth_from, tile_forth}
use Rattle.wave_forth.specs.laws.Forth.{from_near}
use Rattle.wave_forth.proofs.tile.tile_forth.Goals as goal

pub level_from-requires : goal.level_from-requires
level_from-requires c = (lit≤ tt, lit≤ tt, c.requires.0, c.requires.0, c.requires.1, all_wide (lit≤ tt) c.requires.2, refl)

pub level_from-requires-2 : goal.level_from-requires-2
level_from-requires-2 c =
    let f = c.level_from in (
      lit≤ tt,
      lit≤ tt,
      f.auto.work ∙ c.requires.0,
      f.auto.work ∙ c.requires.0,
      f.auto.tmp
          ∙ c.requires.1,
      all_wide (lit≤ tt) (subst (AllNear _) (sym f.ensures) (from_near 0 32 c.args.work.now c.requires.2)),
      refl,
    )

pub level_from-requires-3 : goal.level_from-requires-3
level_from-requires-3 c =
    let f = c.level_from in
    let g = c.level_from-2 in
    let e = g.ensures ∙ ap (forth_from 3072 16) f.ensures in (
      lit≤ tt,
      lit≤ tt,
      g.auto.work ∙ f.auto.work ∙ c.requires.0,
      g.auto.work ∙ f.auto.work ∙ c.requires.0,
      g.auto.tmp ∙ f.auto.tmp ∙ c.requires.1,
      all_wide (lit≤ tt)
          (subst (AllNear _) (sym e) (from_near 3072 16 (forth_from 0 32 c.args.work.now) (from_near 0 32 c.args.work.now c.requires.2))),
      refl,
    )

pub returns : goal.returns
unfolding tile_forth
returns c =
    let f = c.level_from in
    let g = c.level_from-2 in
    let h = c.level_from-3 in
    h.ensures ∙ ap (forth_from 3840 8) (g.ensures ∙ ap (forth_from 3072 16) f.ensures)
