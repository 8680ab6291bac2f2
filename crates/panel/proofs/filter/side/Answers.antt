-- More than 16 bits are no side (`side_wide`); what they hold is itself (`side_is`).
use native.Mathlib.Omega.{arith}
use Rattle.panel.specs.laws.Tidy.{side_wide, side_is}
use Rattle.panel.proofs.filter.side.Goals as goal

pub returns-then-n-gt65535 : goal.returns-then-n-gt65535
returns-then-n-gt65535 c = side_wide c.args.n c.if-n-gt65535.true

pub returns : goal.returns
returns c = side_is c.args.n (λ h. omega (arith, h, c.if-n-gt65535.false))
