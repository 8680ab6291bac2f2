-- `bits::wide::put` meets its contract: all bits wait (`put_waits`), or four bytes are filled (`put_fills`). Assumes nothing.
use Prim.Native.Nat.{◌+◌, ◌-◌}
use mathlib.Core.Path.{refl}
use native.Mathlib.Omega.{arith}
use lib.Pow.{pow_pos}
use Rattle.bits.specs.laws.Wide.{one_up, put_fits, put_waits, put_fills}
use Rattle.bits.proofs.wide.put.Goals as goal

pub overflow_add-acc : goal.overflow_add-acc
overflow_add-acc c =
    let a = c.args in
    let f = put_fits a.out.now a.p a.k a.v c.requires.0 c.requires.1 c.requires.2 in
    record { fits = rw f.0 f.1 }

pub returns-then-n-lt32 : goal.returns-then-n-lt32
returns-then-n-lt32 c =
    let a = c.args in
    let f = put_fits a.out.now a.p a.k a.v c.requires.0 c.requires.1 c.requires.2 in
    put_waits a.out.now a.p a.k a.v c.requires.0 c.requires.1 c.requires.2 _ (rw f.0) c.if-n-lt32.true

pub nonzero_rem-result : goal.nonzero_rem-result
nonzero_rem-result c =
    let n = c.args.p.n + c.args.k - 32 in
    rw (one_up n (omega (arith, c.requires.0.few, c.requires.1))) (pow_pos n)

pub returns : goal.returns
returns c =
    let a = c.args in
    let f = put_fits a.out.now a.p a.k a.v c.requires.0 c.requires.1 c.requires.2 in
    rw c.put_four.ensures
    (put_fills a.out.now a.p a.k a.v c.requires.0 c.requires.1 c.requires.2 _ (rw f.0) (omega (arith, c.if-n-lt32.false)) _ _ refl
    (rw (one_up (a.p.n + a.k - 32) (omega (arith, c.requires.0.few, c.requires.1)))))
