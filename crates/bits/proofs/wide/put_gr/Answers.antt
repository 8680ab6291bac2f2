-- `bits::wide::put_gr` meets its contract: the ones, then the zero and the low bits as one number (`gr_parts`). Assumes nothing.
use Prim.Native.Nat.{◌+◌, ◌/◌, ◌^◌}
use mathlib.Core.Bool.{true}
use native.Mathlib.Omega.{arith}
use lib.ListN.{replicate, length-replicate}
use lib.Pow.{pow_pos}
use Rattle.bits.specs.laws.Gr.{shift_one, gr_parts, gr_low, gr_len}
use Rattle.bits.specs.laws.Pen.{put_more, ready_after}
use Rattle.bits.proofs.wide.put_gr.Goals as goal

pub nonzero_rem-n : goal.nonzero_rem-n
nonzero_rem-n c =
    rw (shift_one c.args.k c.requires.1) (pow_pos c.args.k)

pub put-requires : goal.put-requires
put-requires c =
    let a = c.args in
    let r = replicate (a.n / 2 ^ a.k) true in (
      ready_after a.out.now c.put_ones-q.new.out a.p c.put_ones-q.result (gr_len a.k a.n) (a.k + 1) r c.requires.0.room
          c.put_ones-q.ensures (omega (arith, length-replicate (a.n / 2 ^ a.k) true)),
      omega (arith, c.requires.1),
      rw (shift_one a.k c.requires.1) (gr_low a.k a.n),
    )

pub returns : goal.returns
returns c =
    let a = c.args in
    rw (← gr_parts a.k a.n _ (shift_one a.k c.requires.1))
    (put_more a.out.now c.put_ones-q.new.out c.put.new.out a.p c.put_ones-q.result c.put.result _ _ c.put_ones-q.ensures
    c.put.ensures)
