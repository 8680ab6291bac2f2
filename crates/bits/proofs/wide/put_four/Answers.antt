-- `bits::wide::put_four` meets its contract: a byte put at its place leaves the list as long as it was (`length-set`). Assumes nothing.
use Prim.Native.Nat.{◌+◌, ◌/◌, ◌%◌, ◌^◌}
use native.Mathlib.Omega.{arith}
use lib.ListN.{set, length-set}
use Rattle.bits.proofs.wide.put_four.Goals as goal

pub bounds-out-at-2 : goal.bounds-out-at-2
bounds-out-at-2 c = let a = c.args in omega (arith, c.requires, length-set a.out.now a.at (a.v / 2 ^ 24 % 256))

pub bounds-out-at-3 : goal.bounds-out-at-3
bounds-out-at-3 c =
    let a = c.args in
    let o = set a.out.now a.at (a.v / 2 ^ 24 % 256) in
    omega (arith, c.requires, length-set a.out.now a.at (a.v / 2 ^ 24 % 256), length-set o (a.at + 1) (a.v / 2 ^ 16 % 256))

pub bounds-out-at-4 : goal.bounds-out-at-4
bounds-out-at-4 c =
    let a = c.args in
    let o = set a.out.now a.at (a.v / 2 ^ 24 % 256) in
    let q = set o (a.at + 1) (a.v / 2 ^ 16 % 256) in
    let l = length-set o (a.at + 1) (a.v / 2 ^ 16 % 256) in
    omega (arith, c.requires, length-set a.out.now a.at (a.v / 2 ^ 24 % 256), l, length-set q (a.at + 2) (a.v / 2 ^ 8 % 256))
