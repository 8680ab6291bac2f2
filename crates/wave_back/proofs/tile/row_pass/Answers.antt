-- `wavelet::row_pass` meets its contract.
use Prim.Native.Nat.{◌*◌, ◌-◌}
use mathlib.Core.Path.{◌≡◌, ◌∙◌, ap}
use mathlib.Core.List.{List, ◌++◌}
use native.Mathlib.Omega.{arith}
use lib.IntN.{ℤ}
use lib.ListN.{length, length-take}
use Rattle.whole.specs.laws.Part.{part_near}
use Rattle.whole.specs.laws.Tab.{length_grid}
use Rattle.wave_back.specs.laws.Level.{low_rows, high_rows, halves, quarter, second_half}
use Rattle.wave_back.proofs.tile.row_pass.Goals as goal

pub rows-requires : goal.rows-requires
rows-requires c =
    let q = c.args.n * c.args.n in (
      c.requires.0,
      omega arith,
      quarter q (3 * q) (4 * q - 3 * q) c.args.region.now c.requires.2 (omega arith) (omega arith),
      quarter q 0 (q - 0) c.args.region.now c.requires.2 (omega arith) (omega arith),
      simp length-take (omega arith),
      part_near c.args.region.now (3 * q) (4 * q - 3 * q) c.requires.4,
      part_near c.args.region.now 0 (q - 0) c.requires.4,
    )

pub rows-requires-2 : goal.rows-requires-2
rows-requires-2 c =
    let q = c.args.n * c.args.n in (
      c.requires.0,
      omega arith,
      quarter q q (2 * q - q) c.args.region.now c.requires.2 (omega arith) (omega arith),
      quarter q (2 * q) (3 * q - 2 * q) c.args.region.now c.requires.2 (omega arith) (omega arith),
      second_half c.args.n c.rows.new.out c.args.tmp.now
          (ap length c.rows.ensures ∙ length_grid _ _ _) c.requires.3,
      part_near c.args.region.now q (2 * q - q) c.requires.4,
      part_near c.args.region.now (2 * q) (3 * q - 2 * q) c.requires.4,
    )

pub returns : goal.returns
returns c =
    let f = c.rows in
    let g = c.rows-2 in
    halves c.args.n c.args.tmp.now f.new.out g.new.out c.requires.3 (ap length f.ensures ∙ length_grid _ _ _)
    (ap length g.ensures ∙ length_grid _ _ _)
    ∙ ap2 (f.ensures ∙ low_rows c.args.n c.args.region.now c.requires.0 c.requires.2)
    (g.ensures ∙ high_rows c.args.n c.args.region.now c.requires.0 c.requires.2)
  where
    ap2 : {a b x y : List ℤ} → a ≡ x → b ≡ y → a ++ b ≡ x ++ y
    ap2 u v = cc
