-- `wavelet::tile_back` meets its contract.
use mathlib.Core.Path.{◌∙◌, ap, sym, refl, subst}
use lib.Dec.{lit≤}
use Rattle.whole.specs.laws.Tab.{AllNear}
use Rattle.whole.specs.laws.More.{all_wide}
use Rattle.wave_back.specs.laws.Level.{level_from, halves_all, third, second, tile_is}
use Rattle.wave_back.proofs.tile.tile_back.Goals as goal

pub level_from-requires : goal.level_from-requires
level_from-requires c =
    (lit≤ tt, lit≤ tt, c.requires.0, c.requires.0, c.requires.1, all_wide (lit≤ tt) c.requires.2, refl)

pub level_from-requires-2 : goal.level_from-requires-2
level_from-requires-2 c =
    let f = c.level_from in (
      lit≤ tt,
      lit≤ tt,
      f.auto.work ∙ c.requires.0,
      f.auto.work ∙ c.requires.0,
      f.auto.tmp
          ∙ c.requires.1,
      subst (AllNear 67108863) (sym f.ensures) (halves_all (lit≤ tt) (lit≤ tt) (third c.args.work.now c.requires.0 c.requires.2)),
      refl,
    )

pub level_from-requires-3 : goal.level_from-requires-3
level_from-requires-3 c =
    let f = c.level_from in
    let g = c.level_from-2 in
    let e = g.ensures ∙ ap (level_from 3072 16) f.ensures in (
      lit≤ tt,
      lit≤ tt,
      g.auto.work ∙ f.auto.work ∙ c.requires.0,
      g.auto.work ∙ f.auto.work ∙ c.requires.0,
      g.auto.tmp ∙ f.auto.tmp ∙ c.requires.1,
      subst (AllNear 67108863) (sym e) (halves_all (lit≤ tt) (lit≤ tt) (second c.args.work.now c.requires.0 c.requires.2)),
      refl,
    )

pub returns : goal.returns
returns c =
    let f = c.level_from in
    let g = c.level_from-2 in
    let h = c.level_from-3 in
    h.ensures ∙ ap (level_from 0 32) (g.ensures ∙ ap (level_from 3072 16) f.ensures) ∙ tile_is c.args.work.now c.requires.0
