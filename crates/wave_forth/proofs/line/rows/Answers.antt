-- Each turn keeps it, and at the end it is what is promised.
use Prim.Native.Nat.{ℕ, ◌≤◌, ◌*◌, ◌+◌}
use native.Mathlib.Omega.{arith}
use Rattle.whole.specs.laws.Tab.{row_in}
use Rattle.wave_forth.specs.laws.Row.{bands_start, bands_turn, bands_whole, row_apart}
use Rattle.wave_forth.proofs.line.rows.Goals as goal
use Rattle.wave_forth.proofs.line.rows.Goals.{After-row-arg-1}

-- row r lies within
pub record Within (n w r : ℕ) : Type 0 where
  pub rows : r * w + w ≤ n * w
  pub band : r * n + n ≤ n * n

room : (c : After-row-arg-1) → Within c.args.n c.args.w c.loop-r.r
room c = record { rows = row_in _ _ _ c.loop-r-test.true; band = row_in _ _ _ c.loop-r-test.true }

pub loop-r-init : goal.loop-r-init
loop-r-init c = bands_start _ _ _ _ _ _ _

pub row-requires : goal.row-requires
row-requires c =
    let r = c.loop-r.r in record {
      le_n = (
        c.requires.le_n.0,
        omega (arith, room (goal.at.row-requires c).After-row-arg-1),
        c.requires.le_n.4,
        omega (arith, room (goal.at.row-requires c).After-row-arg-1),
        omega (arith, room (goal.at.row-requires c).After-row-arg-1),
        omega arith,
      );
      apart = (row_apart c.args.n r c.args.l c.args.h c.loop-r-test.true c.requires.apart.0, c.requires.apart.1);
    }

pub loop-r-preserved : goal.loop-r-preserved
loop-r-preserved c =
    let l = c.loop-r in
    bands_turn c.args.n l.r c.args.l c.args.h c.loop-r-test.true c.requires.apart.0 c.args.w c.args.s
    c.args.src.now _ l.dst _ c.row.ensures l.invariant

pub shape_of-dst : goal.shape_of-dst
shape_of-dst c = c.loop-r.invariant.same

pub returns : goal.returns
returns c = bands_whole (omega arith) c.loop-r.invariant
