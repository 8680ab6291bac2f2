-- One of the three texts.
use Rattle.app_compare.specs.laws.Text.{texted_bad, texted_size, texted_way}
use native.Mathlib.Omega.{arith}
use Rattle.app_compare.proofs.text.text.Goals as goal

pub put-requires : goal.put-requires
put-requires c =
    omega (arith, c.requires.1)

pub put-requires-in-Size : goal.put-requires-in-Size
put-requires-in-Size c =
    omega (arith, c.requires.1)

pub put_all-requires : goal.put_all-requires
put_all-requires c =
    (c.requires.0 c.in-Tiles.is, c.requires.1)

pub returns-in-Bad : goal.returns-in-Bad
returns-in-Bad c =
    texted_way _ _ _ _ _ c.in-Bad.is (texted_bad _ _ _ _ c.requires.1 c.put.ensures)

pub returns-in-Size : goal.returns-in-Size
returns-in-Size c =
    texted_way _ _ _ _ _ c.in-Size.is (texted_size _ _ _ _ c.requires.1 c.put-in-Size.ensures)

pub returns-in-Tiles : goal.returns-in-Tiles
returns-in-Tiles c =
    texted_way _ _ _ _ _ c.in-Tiles.is c.put_all.ensures
