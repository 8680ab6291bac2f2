-- A row is what stands at its place (`row_known`).
use Rattle.app_compare.specs.laws.Files.{row_known}
use native.Mathlib.Omega.{arith}
use Rattle.app_compare.proofs.files.read_row.Goals as goal

pub read_at-requires : goal.read_at-requires
read_at-requires c =
    (omega (arith, c.place.ensures.1), omega (arith, c.requires.0, c.requires.1))

pub returns : goal.returns
returns c =
    row_known _ _ _ _ _ c.place.ensures.0 c.read_at.ensures
