-- Samples, wavelet, rounding: each call's equation put into the next; the bound goes along (`forth_near`).
use mathlib.Core.Path.{◌∙◌, ap, sym, subst}
use lib.Dec.{lit≤}
use lib.ListN.{length}
use Rattle.whole.specs.laws.Tab.{AllNear}
use Rattle.whole.specs.laws.More.{all_wide}
use Rattle.wave_forth.specs.Forth.{tile_forth}
use Rattle.wave_forth.specs.laws.Forth.{forth_length, forth_near}
use Rattle.bands.specs.Rounding.{rounded_by}
use Rattle.tile_forth.specs.TileForth.{rounded_of}
use Rattle.tile_forth.proofs.load_component.Goals as goal

pub tile_forth-requires : goal.tile_forth-requires
tile_forth-requires c =
    (c.load.auto.work ∙ c.requires.work_len.0, c.requires.work_len.1, all_wide (lit≤ tt) c.load.ensures.1)

pub round_all-requires : goal.round_all-requires
round_all-requires c =
    let e = c.tile_forth.ensures in
    let l = c.load.auto.work ∙ c.requires.work_len.0 in
    (ap length e ∙ forth_length _ l, subst (AllNear 268435456) (sym e) (all_wide (lit≤ tt) (forth_near _ c.load.ensures.1)), c.requires.work_len.2)

pub returns : goal.returns
unfolding rounded_of
returns c =
    c.round_all.ensures ∙ ap (rounded_by c.args.q.v) (c.tile_forth.ensures ∙ ap tile_forth c.load.ensures.0)
