-- The sum, then its first half right behind it (`put_more`), are the pair's bits (`pair_parts`).
use Prim.Native.Nat.{◌+◌, ◌/◌, ◌≤◌}
use native.Mathlib.Omega.{arith}
use lib.ListN.{length}
use Rattle.bits.specs.Bits.{gr_bits}
use Rattle.bits.specs.laws.Here.{length_gr_bits}
use Rattle.bits.specs.laws.Pen.{put_more, ready_after}
use Rattle.code.specs.Code.{pair_bits, size}
use Rattle.code.specs.laws.Steps.{size_fit}
use Rattle.code.specs.laws.There.{size_fits}
use Rattle.code_write.specs.laws.Item.{pair_length, pair_parts, ready_less}
use Rattle.code_write.proofs.put.put_twin.Goals as goal

pub put_gr-q-requires : goal.put_gr-q-requires
put_gr-q-requires c =
    let a = c.args in
    (ready_less _ _ (length (pair_bits a.krp a.a a.b)) _ c.requires.0 (omega (arith, pair_length a.krp a.a a.b)), c.requires.1)

pub put-requires : goal.put-requires
put-requires c =
    let a = c.args in
    let g = c.put_gr-q in
    let n = c.bit_size-n in
    let f : size (a.a + a.b) ≤ 17 = size_fit (a.a + a.b) 17 (omega (arith, c.requires.2, c.requires.3)) in (
      ready_after a.out.now g.new.out a.p g.result (length (pair_bits a.krp a.a a.b)) n.result (gr_bits (a.krp / 8) (a.a + a.b))
          c.requires.0.room g.ensures (omega (arith, pair_length a.krp a.a a.b, n.ensures, length_gr_bits (a.krp / 8) (a.a + a.b))),
      omega (arith, f, n.ensures),
      rw n.ensures (omega (arith, size_fits (a.a + a.b))),
    )

pub returns : goal.returns
returns c =
    let a = c.args in
    let g = c.put_gr-q in
    let b = c.put in
    let n = c.bit_size-n in
    rw (← pair_parts a.krp a.a a.b n.result n.ensures)
    (put_more a.out.now g.new.out b.new.out a.p g.result b.result _ _ g.ensures b.ensures)
