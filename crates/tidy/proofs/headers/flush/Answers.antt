-- Refused, or what waits goes on: `gave_refused`, `gave_done`.
use mathlib.Core.Path.{refl}
use native.Mathlib.Omega.{arith}
use Rattle.tidy.specs.laws.Headers.{header_good, gave_refused, gave_done}
use Rattle.tidy.proofs.headers.flush.Goals as goal

pub returns-in-Err : goal.returns-in-Err
returns-in-Err c =
    let a = c.args in
    gave_refused _ _ a.w _ a.store.now a.out.now _ c.in-Err.refusal c.in-Err.ensures

pub put_waiting-n-requires : goal.put_waiting-n-requires
put_waiting-n-requires c =
    let g = header_good _ c.args.w _ _ c.in_default.ensures in
    (g.0, omega (arith, g.1))

pub returns : goal.returns
returns c =
    let a = c.args in
    gave_done _ _ a.w _ a.store.now a.out.now _ _ _ _ _ c.in_default.ensures c.put_waiting-n.ensures.1 refl refl
    c.put_waiting-n.ensures.0
