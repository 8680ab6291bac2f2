-- `forth::level_forth` meets its contract.
use Prim.Native.Nat.{ℕ, ◌*◌}
use mathlib.Core.Path.{ap, sym, refl, subst}
use native.Mathlib.Omega.{arith}
use lib.Dec.{lit≤}
use Rattle.whole.specs.laws.Tab.{AllNear}
use Rattle.whole.specs.laws.More.{all_wide}
use Rattle.wave_forth.specs.laws.Forth.{passed_near}
use Rattle.wave_forth.specs.laws.Row.{bands_as}
use Rattle.wave_forth.specs.laws.Level.{Size, size, level_is}
use Rattle.wave_forth.proofs.tile.level_forth.Goals as goal
use Rattle.wave_forth.proofs.tile.level_forth.Goals.{Start}

sizes : (s : Start) → Size s.args.n s.args.w
sizes s = size _ _ s.requires.1 s.requires.5

pub overflow_mul-q : goal.overflow_mul-q
overflow_mul-q c = omega (arith, sizes (goal.at.overflow_mul-q c).Start)

pub columns-requires : goal.columns-requires
columns-requires c = (c.requires.0, c.requires.1, omega arith, omega arith, all_wide (lit≤ tt) c.requires.4, c.requires.5)

pub overflow_mul-q-2 : goal.overflow_mul-q-2
overflow_mul-q-2 c = omega (arith, sizes (goal.at.overflow_mul-q-2 c).Start)

pub rows-requires : goal.rows-requires
rows-requires c =
    let k = c.columns in record {
      le_n = (
        c.requires.0,
        c.requires.1,
        c.requires.5,
        omega (arith, sizes (goal.at.rows-requires c).Start, k.auto),
        omega (arith, sizes (goal.at.rows-requires c).Start, k.auto),
        omega (arith, sizes (goal.at.rows-requires c).Start),
        omega (arith, sizes (goal.at.rows-requires c).Start),
        omega (arith, sizes (goal.at.rows-requires c).Start),
      );
      apart = (
        record { apart = λ i j p q. omega arith },
        all_wide (lit≤ tt) (subst (AllNear (2 * 134217728)) (sym k.ensures)
            (passed_near c.args.n c.args.region.now c.requires.4)),
      );
    }

pub overflow_mul-n : goal.overflow_mul-n
overflow_mul-n c = omega (arith, sizes (goal.at.overflow_mul-n c).Start)

pub overflow_mul-q-3 : goal.overflow_mul-q-3
overflow_mul-q-3 c = omega (arith, sizes (goal.at.overflow_mul-q-3 c).Start)

pub rows-requires-2 : goal.rows-requires-2
rows-requires-2 c =
    let k = c.columns in
    let m = c.rows.auto in record {
      le_n = (
        c.requires.0,
        c.requires.1,
        c.requires.5,
        omega (arith, sizes (goal.at.rows-requires-2 c).Start, k.auto),
        omega (arith, sizes (goal.at.rows-requires-2 c).Start, k.auto),
        omega (arith, sizes (goal.at.rows-requires-2 c).Start, m),
        omega
            (arith, sizes (goal.at.rows-requires-2 c).Start, m),
        omega (arith, sizes (goal.at.rows-requires-2 c).Start, m),
      );
      apart = (
        record { apart = λ i j p q. omega arith },
        all_wide (lit≤ tt) (subst (AllNear (2 * 134217728)) (sym k.ensures)
            (passed_near c.args.n c.args.region.now c.requires.4)),
      );
    }

pub shape_of-region : goal.shape_of-region
shape_of-region c = omega (arith, c.rows-2.auto, c.rows.auto)

pub shape_of-tmp : goal.shape_of-tmp
shape_of-tmp c = omega (arith, c.columns.auto)

pub returns : goal.returns
returns c =
    let k = c.columns in
    let n = c.args.n in
    level_is n c.args.region.now c.args.region.now _ _ (omega arith) c.requires.2
    (bands_as c.requires.5 refl k.ensures c.rows.ensures)
    (bands_as c.requires.5 (ap (λ (w : ℕ). n * w) c.requires.5) k.ensures c.rows-2.ensures)
