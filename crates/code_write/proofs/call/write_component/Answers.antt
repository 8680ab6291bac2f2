-- Refused by the judged number, or no fault is left (`clear`): then the bytes have room.
use native.Mathlib.Omega.{arith}
use lib.ListN.{length}
use Rattle.std.proofs.lemmas.Result.{err_from_is_err_and}
use Rattle.wire.specs.laws.Wrote.{refused}
use Rattle.code_write.specs.laws.Write.{clear, write_done}
use Rattle.code_write.proofs.call.write_component.Goals as goal

pub returns-in_err-judge : goal.returns-in_err-judge
returns-in_err-judge c =
    let p = err_from_is_err_and c.from_residual.result c.from_residual.ensures.1 in
    rw (p.1, p.2) (refused _ _ _ c.args.out.now c.in_err-judge.ensures)

pub put_component-requires : goal.put_component-requires
put_component-requires c =
    let a = c.args in
    let k = clear a.mode a.list.now (length a.out.now) c.in_ok-judge.ensures in
    (omega (arith, k.asked.long), k.fine.range, omega (arith, k.fits))

pub returns : goal.returns
returns c =
    let p = c.put_component in
    let a = c.args in
    write_done a.mode a.list.now a.out.now p.new.out p.result c.in_ok-judge.ensures p.ensures.0 p.ensures.1
