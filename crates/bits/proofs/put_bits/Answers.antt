-- Each turn puts a byte out (`wide_turn`), and at the end fewer than a byte wait (`wide_last`, `wide_end`).
use Prim.Native.Nat.{◌+◌, ◌%◌, ◌≤◌}
use mathlib.Core.Path.{refl}
use native.Mathlib.Omega.{arith}
use Rattle.bits.specs.laws.Gr.{shift_one}
use Rattle.bits.specs.laws.Wide.{wide_fits, wide_turn, wide_last, wide_end}
use Rattle.bits.proofs.put_bits.Goals as goal

pub loop-i-preserved : goal.loop-i-preserved
loop-i-preserved c =
    let l = c.loop-i in
    wide_turn _ _ _ _ l.out l.i l.invariant (omega arith) (omega (arith, c.requires.0.room, l.invariant.long)) _ refl

pub returns : goal.returns
returns c =
    let l = c.loop-i in
    let a = c.args in
    let f = wide_fits a.p a.k a.v _ c.requires.0 c.requires.1 in
    let n = (a.p.n + a.k) % 8 in
    let h : n ≤ 10 = omega arith in
    wide_end a.out.now a.p a.k a.v _ l.out _ n (wide_last _ _ _ _ l.out l.i l.invariant (omega arith)) (omega arith) (rw (f.0, f.1)) _
    (rw (shift_one n h))
