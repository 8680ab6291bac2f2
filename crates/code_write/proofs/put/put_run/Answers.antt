-- The run's 1, zeros and sign as one number (`head_put`), then the magnitude less 1 right behind it (`put_more`), are the run's bits (`run_parts`).
use Prim.Native.Nat.{◌-◌, ◌/◌, ◌%◌}
use native.Mathlib.Omega.{arith}
use lib.ListN.{length}
use Rattle.bits.specs.laws.Gr.{gr_len}
use Rattle.bits.specs.laws.Pen.{put_more, ready_after}
use Rattle.code.specs.Code.{run_bits}
use Rattle.code_write.specs.laws.Item.{run_length, run_parts, ready_less}
use Rattle.code_write.specs.laws.Pen.{head_bits, head_length, head_fits, head_put}
use Rattle.code_write.proofs.put.put_run.Goals as goal

pub overflow_add-h-2 : goal.overflow_add-h-2
overflow_add-h-2 c =
    omega (arith, (head_fits (c.args.kp / 8) c.args.z c.args.v (omega (arith, c.requires.1)) c.requires.3).0)

pub overflow_mul-h : goal.overflow_mul-h
overflow_mul-h c =
    omega (arith, (head_fits (c.args.kp / 8) c.args.z c.args.v (omega (arith, c.requires.1)) c.requires.3).0)

pub overflow_add-h-3 : goal.overflow_add-h-3
overflow_add-h-3 c =
    omega (arith, (head_fits (c.args.kp / 8) c.args.z c.args.v (omega (arith, c.requires.1)) c.requires.3).0)

pub put-q-requires : goal.put-q-requires
put-q-requires c =
    let a = c.args in (
      ready_less _ _ (length (run_bits a.kp a.krp a.z a.v)) _ c.requires.0 (omega (arith, run_length a.kp a.krp a.z a.v)),
      omega (arith, c.requires.1),
      (head_fits (a.kp / 8) a.z a.v (omega (arith, c.requires.1)) c.requires.3).1,
    )

pub put_gr-requires : goal.put_gr-requires
put_gr-requires c =
    let a = c.args in
    let h = c.put-q in
    let w = head_put (a.kp / 8) a.z a.v (omega (arith, c.requires.1)) c.requires.3 _ _ a.p h.result h.ensures in
    let b = head_bits (a.kp / 8) a.z (a.v % 2) in (
      ready_after a.out.now h.new.out a.p h.result (length (run_bits a.kp a.krp a.z a.v)) (gr_len (a.krp / 8) ((a.v - 1) / 2)) b
          c.requires.0.room w (omega (arith, run_length a.kp a.krp a.z a.v, head_length (a.kp / 8) a.z (a.v % 2))),
      c.requires.2,
    )

pub returns : goal.returns
returns c =
    let a = c.args in
    let h = c.put-q in
    let g = c.put_gr in
    let w = head_put (a.kp / 8) a.z a.v (omega (arith, c.requires.1)) c.requires.3 _ _ a.p h.result h.ensures in
    rw (← run_parts a.kp a.krp a.z a.v) (put_more a.out.now h.new.out g.new.out a.p h.result g.result _ _ w g.ensures)
