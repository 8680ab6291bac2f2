-- `collect::whole_head_at` meets its contract: the six bytes are read as one number, and judged.
use mathlib.Core.Path.{ap₂}
use native.Mathlib.Omega.{arith}
use Prim.Native.Nat.{ℕ, ◌+◌, ◌*◌}
use Rattle.collect.specs.Collect.{state}
use Rattle.collect.specs.laws.Made.{opened}
use Rattle.collect.specs.laws.Code.{head_turned}
use Rattle.collect.proofs.whole_head_at.Goals as goal

pub judge-requires : goal.judge-requires
judge-requires c = (opened _ _ c.requires.0).fits

pub returns : goal.returns
returns c =
    let s = c.args in
    let p = c.requires in
    let a = c.le16_at.ensures in
    let b = c.le32_at.ensures in
    head_turned (state s.c s.store.now) s.bytes.now s.at _ _ p.0 p.1.1.0 p.1.1.1 p.1.0
    (ap₂ (λ (x y : ℕ). x + 65536 * y) a.0 b.0) (omega (arith, a.1, b.1)) c.judge.ensures
