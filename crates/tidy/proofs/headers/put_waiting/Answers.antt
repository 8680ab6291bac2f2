-- Two parts of the store, one behind the other (`waiting_put`).
use native.Mathlib.Omega.{arith}
use Rattle.tidy.specs.laws.Headers.{place_fits, length_few, waiting_put}
use Rattle.tidy.proofs.headers.put_waiting.Goals as goal

pub copy-requires : goal.copy-requires
copy-requires c =
    let w = c.args.w in (
      omega (arith, c.length_of-a.ensures, length_few w.first, c.requires.1),
      omega (arith, c.length_of-a.ensures, c.place_of.ensures, place_fits w.first, c.requires.0),
    )

pub copy-requires-2 : goal.copy-requires-2
copy-requires-2 c =
    let w = c.args.w in (
      omega (arith, c.length_of-a.ensures, c.length_of-b.ensures, length_few w.first, length_few w.second, c.requires.1, c.copy.auto.store),
      omega (arith, c.length_of-b.ensures, c.place_of-2.ensures, place_fits w.second, c.requires.0),
    )

pub overflow_add-result : goal.overflow_add-result
overflow_add-result c =
    let w = c.args.w in
    omega (arith, c.length_of-a.ensures, c.length_of-b.ensures, length_few w.first, length_few w.second)

pub returns : goal.returns
returns c =
    let a = c.args in
    waiting_put a.w a.store.now a.out.now _ _ _ _ _ _ c.requires.0 c.length_of-a.ensures c.length_of-b.ensures c.place_of.ensures
    c.place_of-2.ensures c.copy.ensures c.copy-2.ensures
