-- `tile` meets its contract: three levels, each near enough for the next. Assumes nothing.
use mathlib.Core.Path.{◌∙◌, ap, sym, refl, subst}
use lib.Dec.{lit≤}
use Rattle.whole.specs.laws.Tab.{AllNear}
use Rattle.whole.specs.laws.More.{all_wide}
use Rattle.wave_back.specs.laws.Level.{level_from, halves_all, third, second, tile_is}
use Rattle.plain.proofs.tile.Goals as goal

pub level-requires : goal.level-requires
level-requires c =
    let pre = c.requires in
    (record { some = lit≤ tt; small = lit≤ tt; len = pre.0; fits = refl; near = all_wide (lit≤ tt) pre.2 }, pre.1)

pub level-requires-2 : goal.level-requires-2
level-requires-2 c =
    let f = c.level in
    let pre = c.requires in
    let args = c.args in
    let near = subst (AllNear 67108863) (sym f.ensures) (halves_all (lit≤ tt) (lit≤ tt) (third args.work.now pre.0 pre.2)) in
    (record { some = lit≤ tt; small = lit≤ tt; len = f.auto.work ∙ pre.0; fits = refl; near = near }, f.auto.tmp ∙ pre.1)

pub level-requires-3 : goal.level-requires-3
level-requires-3 c =
    let g = c.level-2 in
    let f = c.level in
    let pre = c.requires in
    let args = c.args in
    let e = g.ensures ∙ ap (level_from 3072 16) f.ensures in
    let near = subst (AllNear 67108863) (sym e) (halves_all (lit≤ tt) (lit≤ tt) (second args.work.now pre.0 pre.2)) in
    (record { some = lit≤ tt; small = lit≤ tt; len = g.auto.work ∙ f.auto.work ∙ pre.0; fits = refl; near = near }, g.auto.tmp ∙ f.auto.tmp ∙ pre.1)

pub returns : goal.returns
returns c =
    let level3 = c.level-3 in
    let level2 = c.level-2 in
    let the-level = c.level in
    let pre = c.requires in
    let args = c.args in
    level3.ensures ∙ ap (level_from 0 32) (level2.ensures ∙ ap (level_from 3072 16) the-level.ensures) ∙ tile_is args.work.now pre.0
