-- The block right behind what waits (`patch_next`).
use native.Mathlib.Omega.{arith}
use Rattle.tidy.specs.laws.Headers.{other_put}
use Rattle.tidy.proofs.headers.put_other.Goals as goal

pub put_waiting-n-requires : goal.put_waiting-n-requires
put_waiting-n-requires c =
    (c.requires.0, omega (arith, c.requires.1))

pub copy-requires : goal.copy-requires
copy-requires c =
    (omega (arith, c.requires.1, c.put_waiting-n.ensures.2, c.put_waiting-n.auto.out), omega arith)

pub overflow_add-result : goal.overflow_add-result
overflow_add-result c =
    omega (arith, c.put_waiting-n.ensures.2, c.well_formed)

pub returns : goal.returns
returns c =
    let a = c.args in
    other_put a.w a.block.now a.store.now a.out.now _ _ c.put_waiting-n.result c.put_waiting-n.ensures.0 c.put_waiting-n.ensures.1
    c.copy.ensures
