-- Each return is a row of `head_fault`; in a room as long as the block there is no 13.
use Prim.Native.Nat.{◌+◌, ◌/◌, ◌%◌}
use mathlib.Core.Path.{refl}
use native.Mathlib.Omega.{arith}
use borrow.Author.Tests.{le-leb}
use Rattle.whole.specs.laws.Row.{rows, passes}
use Rattle.collect.specs.Collect.{head_fault}
use Rattle.app_stream.proofs.skip.own_fault.Goals as goal

pub returns-then-kind-lt52416 : goal.returns-then-kind-lt52416
unfolding head_fault
returns-then-kind-lt52416 c = search rows

pub returns-then-kind-gt52423 : goal.returns-then-kind-gt52423
unfolding head_fault
returns-then-kind-gt52423 c = search rows

pub returns-then-size-lt6 : goal.returns-then-size-lt6
unfolding head_fault
returns-then-size-lt6 c = search rows

pub returns : goal.returns
unfolding head_fault
returns c =
    let s = c.args in
    let kind = s.head % 65536 in
    let size = s.head / 65536 in
    passes _ _ _ _ (le-leb 0xCCC0 kind (omega arith)) (passes _ _ _ _ (le-leb kind 0xCCC7 (omega arith))
    (passes _ _ _ _ (le-leb 6 size (omega arith)) (passes _ _ _ _ (le-leb (0 + size) size (omega arith)) refl)))
