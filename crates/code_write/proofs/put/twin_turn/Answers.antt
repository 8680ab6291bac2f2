-- The item is a pair (`next_twin`): its bits are put, and the parameters go on by it (`onward_twin`).
use Prim.Native.Nat.{◌+◌}
use mathlib.Core.Path.{refl}
use mathlib.Core.Bool.{true}
use mathlib.Core.List.{map}
use native.Mathlib.Omega.{arith}
use Rattle.code.specs.Fold.{fold_z}
use Rattle.code_write.specs.laws.Item.{is_twin}
use Rattle.code_write.specs.laws.Writing.{room_of, next_twin, onward_twin}
use Rattle.code_write.proofs.put.twin_turn.Goals as goal

pub put_twin-requires : goal.put_twin-requires
put_twin-requires c =
    let a = c.args in
    let w = c.requires.0 in
    let f = c.folded_at-a in
    let g = c.folded_or-b in
    let e = next_twin (map fold_z a.xs.now) a.s f.result g.result c.requires.1 f.ensures g.ensures in (
      room_of true a.xs.now _ a.s w _ e _ (is_twin a.s.kp a.s.krp _ f.result g.result refl) _ refl,
      w.krs,
      rw f.ensures (w.range a.s.i),
      rw g.ensures (w.range _),
    )

pub overflow_add-a : goal.overflow_add-a
overflow_add-a c =
    let w = c.requires.0 in
    omega (arith, c.folded_at-a.ensures, c.folded_or-b.ensures, w.range c.args.s.i, w.range (c.args.s.i + 1))

pub returns : goal.returns
returns c =
    let a = c.args in
    let f = c.folded_at-a in
    let g = c.folded_or-b in
    let e = next_twin (map fold_z a.xs.now) a.s f.result g.result c.requires.1 f.ensures g.ensures in
    onward_twin true (map fold_z a.xs.now) a.out.now a.s _ _ f.result g.result e
    c.put_twin.ensures refl c.kp_two.ensures
    c.kr_after.ensures
