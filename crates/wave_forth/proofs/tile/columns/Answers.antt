-- Each turn keeps it, and at the end it is what is promised.
use Prim.Native.Nat.{◌-◌}
use mathlib.Core.Path.{◌≡◌, refl}
use native.Mathlib.Omega.{arith}
use Rattle.wave_forth.specs.laws.Column.{own, columns_are}
use Rattle.wave_back.specs.laws.Pass.{first_turn, next_turn, last_turn, in_width}
use Rattle.wave_forth.proofs.tile.columns.Goals as goal

-- the first pair, one in the middle, the last
pub pair-requires : goal.pair-requires
pair-requires c =
    let p = c.requires in
    let n = c.args.n in
    record { n_bound = (p.1, omega arith, in_width n p.5 p.2, in_width n p.5 p.3, p.4); r_lt_n = (omega arith, refl, omega arith, omega arith) }

pub loop-r-init : goal.loop-r-init
loop-r-init c =
    first_turn c.args.n c.args.w _ _ _ _ (own c.args.n) c.args.dst.now _ c.requires.0 c.requires.3 c.pair.ensures

pub pair-requires-in-loop-r : goal.pair-requires-in-loop-r
pair-requires-in-loop-r c =
    let p = c.requires in
    let n = c.args.n in
    let l = c.loop-r.invariant in
    record { n_bound = (p.1, omega arith, in_width n p.5 p.2, in_width n p.5 l.long, p.4); r_lt_n = (omega arith, refl, omega arith, omega arith) }

pub loop-r-preserved : goal.loop-r-preserved
loop-r-preserved c =
    let l = c.loop-r in
    next_turn c.args.n c.args.w _ _ _ _ (own c.args.n) l.r l.dst _ l.invariant c.pair-in-loop-r.ensures (omega arith)

pub pair-requires-2 : goal.pair-requires-2
pair-requires-2 c =
    let p = c.requires in
    let n = c.args.n in
    let l = c.loop-r.invariant in
    record { n_bound = (p.1, omega arith, in_width n p.5 p.2, in_width n p.5 l.long, p.4); r_lt_n = (omega arith, refl, omega arith, omega arith) }

pub shape_of-dst : goal.shape_of-dst
shape_of-dst c = omega (arith, c.pair-2.ensures.same, c.loop-r.invariant.long)

pub returns : goal.returns
returns c =
    let l = c.loop-r in
    let e : l.r ≡ c.args.n - 1 = omega arith in
    columns_are c.args.n c.args.w c.args.src.now _ (omega arith) c.requires.5
    (last_turn c.args.n c.args.w _ _ _ _ (own c.args.n) (c.args.n - 1) l.dst _ (rw e at l.invariant) c.pair-2.ensures c.requires.0 (omega arith))
