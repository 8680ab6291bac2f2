-- `wavelet::level_back` meets its contract.
use Prim.Native.Nat.{◌*◌, ◌+◌}
use mathlib.Core.Path.{◌∙◌, ap, sym, subst}
use mathlib.Core.List.{List}
use native.Mathlib.Omega.{arith}
use lib.IntN.{ℤ}
use lib.Dec.{lit≤}
use Rattle.whole.specs.Tab.{at, grid}
use Rattle.whole.specs.laws.Tab.{AllNear}
use Rattle.whole.specs.laws.More.{all_wide}
use Rattle.wave_back.specs.laws.Column.{col_at}
use Rattle.wave_back.specs.laws.Level.{level_is, passed_near}
use Rattle.wave_back.proofs.tile.level_back.Goals as goal

pub row_pass-requires : goal.row_pass-requires
row_pass-requires c = (omega arith, c.requires.1, c.requires.2, c.requires.3, all_wide (lit≤ tt) c.requires.4)

pub columns-requires : goal.columns-requires
columns-requires c =
    let k = c.row_pass in (
      c.requires.0,
      c.requires.1,
      omega (arith, k.auto),
      omega arith,
      all_wide (lit≤ tt) (subst (AllNear (4 * 67108863 + 1)) (sym k.ensures) (passed_near c.args.n c.args.region.now (omega arith) c.requires.4)),
      c.requires.5,
    )

pub returns : goal.returns
returns c =
    c.columns.ensures
    ∙ ap (λ (l : List ℤ). grid (2 * c.args.n) (2 * c.args.n) (col_at c.args.n (at l))) c.row_pass.ensures
    ∙ level_is c.args.n c.args.region.now (omega arith)
