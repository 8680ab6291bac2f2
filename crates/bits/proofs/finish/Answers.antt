-- Nothing waits and nothing is written (`close_even`), or the bits that wait are one last byte, zeros behind them (`close_byte`).
use native.Mathlib.Omega.{arith}
use Rattle.bits.specs.laws.Pen.{close_even, close_byte, close_fits}
use Rattle.bits.proofs.finish.Goals as goal

pub returns-then-p-eq0 : goal.returns-then-p-eq0
returns-then-p-eq0 c = close_even c.args.out.now c.args.p c.if-p-eq0.true

pub returns : goal.returns
returns c =
    let p = c.args.p in
    close_byte c.args.out.now p _ (close_fits p.acc p.n c.requires.few c.requires.small c.if-p-eq0.false) c.requires.few c.if-p-eq0.false
    (omega (arith, c.requires.few, c.requires.room))
