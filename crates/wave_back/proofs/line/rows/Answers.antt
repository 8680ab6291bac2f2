-- Each turn keeps it, and at the end it is what is promised.
use Prim.Native.Nat.{◌≤◌, ◌*◌, ◌-◌, ◌+◌}
use mathlib.Core.Path.{◌≡◌, ◌∙◌, sym}
use native.Mathlib.Nat.{not-suc-le-zero}
use native.Mathlib.Omega.{arith}
use lib.ListN.{length, take, drop}
use Rattle.whole.specs.laws.Tab.{row_in, is_grid}
use Rattle.whole.specs.laws.Part.{part_length, part_near}
use Rattle.wave_back.specs.laws.Rows.{turn}
use Rattle.wave_back.proofs.line.rows.Goals as goal
use Rattle.wave_back.proofs.line.rows.Goals.{In-loop-r}

room :
    (c : In-loop-r) →
    (c.loop-r.r * c.args.n + c.args.n ≤ c.args.n * c.args.n)
    × (c.loop-r.r * (2 * c.args.n) + 2 * c.args.n ≤ c.args.n
    * (2 * c.args.n))
room c = (row_in _ _ _ c.loop-r-test.true, row_in _ _ _ c.loop-r-test.true)

pub loop-r-init : goal.loop-r-init
loop-r-init c = λ y h. absurd (not-suc-le-zero h)

pub line-requires : goal.line-requires
line-requires c =
    let n = c.args.n in
    let r = c.loop-r.r in
    let pl : length (take (r * n + n - r * n) (drop (r * n) c.args.lo.now)) ≡ r * n + n - r * n =
    part_length c.args.lo.now (r * n) (r * n + n) (omega arith) (omega (arith, room (goal.at.line-requires c).In-loop-r)) in
    let ph : length (take (r * n + n - r * n) (drop (r * n) c.args.hi.now)) ≡ r * n + n - r * n =
    part_length c.args.hi.now (r * n) (r * n + n) (omega arith) (omega (arith, room (goal.at.line-requires c).In-loop-r)) in
    let po : length (take (r * (2 * n) + 2 * n - r * (2 * n)) (drop (r * (2 * n)) c.loop-r.out)) ≡ r * (2 * n) + 2 * n - r * (2 * n) = part_length
    c.loop-r.out (r * (2 * n)) (r * (2 * n) + 2 * n) (omega arith) (omega (arith, room (goal.at.line-requires c).In-loop-r)) in record {
      in_bounds = (omega arith, ph ∙ sym pl, omega arith);
      all_near = (
        part_near c.args.lo.now (r * n) (r * n + n - r * n) c.requires.5,
        part_near c.args.hi.now (r * n)
            (r * n + n - r * n) c.requires.6,
      );
    }

pub loop-r-preserved : goal.loop-r-preserved
loop-r-preserved c =
    turn c.args.n c.loop-r.r c.args.lo.now c.args.hi.now c.loop-r.out c.line.new.out
    c.loop-r-test.true c.requires.2 c.requires.3 (omega arith) c.line.ensures
    c.loop-r.invariant

pub returns : goal.returns
returns c =
    is_grid c.args.n (2 * c.args.n) _ c.loop-r.out (omega arith) (omega arith) (λ y h. c.loop-r.invariant y (omega arith))
