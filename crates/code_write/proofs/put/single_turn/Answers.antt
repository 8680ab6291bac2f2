-- The item is a single value (`next_single`): its bits are put, and the parameters go on by it (`onward_single`).
use mathlib.Core.Path.{refl}
use mathlib.Core.Bool.{false}
use mathlib.Core.List.{map}
use Rattle.bits.specs.laws.Here.{length_gr_bits}
use Rattle.code.specs.Fold.{fold_z}
use Rattle.code_write.specs.laws.Item.{is_single}
use Rattle.code_write.specs.laws.Writing.{room_of, next_single, onward_single}
use Rattle.code_write.proofs.put.single_turn.Goals as goal

pub put_gr-requires : goal.put_gr-requires
put_gr-requires c =
    let a = c.args in
    let w = c.requires.0 in
    let v = c.folded_at-v in
    let e = next_single (map fold_z a.xs.now) a.s v.result c.requires.1 v.ensures in
    (room_of false a.xs.now _ a.s w _ e _ (is_single a.s.kp a.s.krp _ v.result refl) _ (length_gr_bits _ _), w.krs)

pub returns : goal.returns
returns c =
    let a = c.args in
    let v = c.folded_at-v in
    let e = next_single (map fold_z a.xs.now) a.s v.result c.requires.1 v.ensures in
    onward_single false (map fold_z a.xs.now) a.out.now a.s _ _ v.result e
    c.put_gr.ensures refl c.kp_one.ensures c.kr_after.ensures
