-- `tile_diff::pic::is_whole` meets its contract: the two rows of `is_whole`.
use native.Mathlib.Nat.{mul-le-mul}
use Rattle.whole.specs.laws.Row.{passes, fails}
use Rattle.tile_diff.specs.Pic.{is_whole}
use mathlib.Core.Path.{refl, sym, ◌∙◌}
use native.Mathlib.Omega.{arith}
use Prim.Native.Nat.{ℕ, ◌*◌, ◌≤◌, ◌<◌}
use Rattle.tile_diff.proofs.pic.is_whole.Goals as goal

area : (w h : ℕ) → w < 65536 → h < 65536 → w * h ≤ 4294967296
area w h p q = mul-le-mul {n₂ = 65536} {m₂ = 65536} (omega arith) (omega arith)

pub overflow_mul-result : goal.overflow_mul-result
overflow_mul-result c =
    let s = c.args in
    omega (arith, area s.p.width s.p.height (omega arith) (omega arith))

pub overflow_mul-result-then-is_size : goal.overflow_mul-result-then-is_size
overflow_mul-result-then-is_size c =
    let s = c.args in
    omega (arith, area s.p.width s.p.height (omega arith) (omega arith))

pub overflow_add-result : goal.overflow_add-result
overflow_add-result c =
    let s = c.args in
    omega (arith, area s.p.width s.p.height (omega arith) (omega arith))

pub returns-then-is_size : goal.returns-then-is_size
unfolding is_whole
returns-then-is_size c =
    let is-size = c.is_size in
    let if1 = c.if-is_size in
    passes _ _ _ _ (sym is-size.ensures ∙ if1.true) refl

pub returns : goal.returns
unfolding is_whole
returns c = fails _ _ _ _ (sym c.is_size.ensures ∙ c.if-is_size.false) refl
