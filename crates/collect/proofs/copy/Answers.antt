-- Each turn keeps it, and at the end it is what is promised.
use native.Mathlib.Omega.{arith}
use lib.ListN.{drop}
use lib.Seq.{paste-zero}
use Rattle.collect.specs.laws.Code.{copy_length, copy_next, copy_whole}
use Rattle.collect.proofs.copy.Goals as goal

pub loop-i-init : goal.loop-i-init
loop-i-init c = let s = c.args in paste-zero s.store.now s.at (drop s.from s.bytes.now)

pub bounds-store-at : goal.bounds-store-at
bounds-store-at c =
    let s = c.args in
    let q = c.requires in
    let l = c.loop-i in
    let k = copy_length s.store.now s.bytes.now s.at s.from s.n q.0 q.1 l.i (omega arith) in
    rw l.invariant (omega arith)

pub loop-i-preserved : goal.loop-i-preserved
loop-i-preserved c =
    let s = c.args in
    let q = c.requires in
    let l = c.loop-i in
    copy_next s.store.now s.bytes.now s.at s.from s.n q.0 q.1 l.i l.store c.loop-i-test.true l.invariant

pub returns : goal.returns
returns c =
    let s = c.args in
    let q = c.requires in
    let l = c.loop-i in
    copy_whole s.store.now s.bytes.now s.at s.from s.n q.0 q.1 l.i l.store (omega arith) l.invariant
