-- As many numbers as half the bytes that came.
use native.Mathlib.Omega.{arith}
use Rattle.sample.proofs.stages.load_list.Goals as goal

pub returns : goal.returns
returns c =
    record { bytes = _; unpacked = c.unpack.ensures; most = omega (arith, c.load-n.ensures.0, c.bytes-2-1.given) }
