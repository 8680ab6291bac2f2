-- The lines, and the last line (`texted_tiles`).
use mathlib.Core.Path.{◌∙◌}
use Rattle.app_compare.specs.laws.Text.{texted_tiles}
use native.Mathlib.Omega.{arith}
use Rattle.app_compare.proofs.text.put_all.Goals as goal

pub put_tiles-requires : goal.put_tiles-requires
put_tiles-requires c =
    omega (arith, c.put_lines-l.ensures.fits, c.put_lines-l.auto.out, c.requires.1)

pub returns : goal.returns
returns c =
    let d = c.put_lines-l in
    let p = c.put_tiles.ensures in
    texted_tiles _ _ _ _ _ _ (d.auto.out ∙ c.requires.1) d.ensures p
