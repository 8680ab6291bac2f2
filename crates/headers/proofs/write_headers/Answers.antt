-- `write_headers` meets its contract: the ways out are those of every writer (wire's `refused` and `done`), and the four blocks are 47 bytes.
use Rattle.std.proofs.lemmas.Result.{err_from_is_err_and}
use Rattle.headers.specs.laws.Headers.{writable}
use mathlib.Core.Path.{refl}
use native.Mathlib.Omega.{arith}
use Rattle.wire.specs.Le.{bytes16, bytes32}
use Rattle.headers.specs.Headers.{headers_of, sync_of, versions_of, channels_of, context_of}
use Rattle.wire.specs.laws.Wrote.{refused, done}
use Rattle.headers.proofs.write_headers.Goals as goal

pub returns-in_err-headers_fault : goal.returns-in_err-headers_fault
returns-in_err-headers_fault c =
    let p = err_from_is_err_and c.from_residual.result c.from_residual.ensures.1 in rw (p.1, p.2) (refused _ _ _ _ c.in_err-headers_fault.ensures)

pub put_headers-requires : goal.put_headers-requires
put_headers-requires c = let k = writable _ _ _ _ c.in_ok-headers_fault.ensures in (omega (arith, k.fits), omega arith)

pub returns : goal.returns
unfolding bytes16 bytes32 headers_of sync_of versions_of channels_of context_of
returns c = done _ _ _ _ _ c.in_ok-headers_fault.ensures refl c.put_headers.ensures
