-- Each turn keeps it, and at the end it is what is promised.
use Prim.Native.Nat.{ℕ, ◌+◌, ◌-◌, ◌≤◌}
use mathlib.Core.Path.{◌≡◌, sym, ap, ◌∙◌}
use native.Mathlib.Omega.{arith}
use lib.ListN.{length, drop}
use Rattle.bits.specs.Bits.{bits_of, ones_of}
use Rattle.bits.specs.laws.Bit.{ones_cut, length_bits_of}
use Rattle.bits.specs.laws.Ahead.{ones_on, ones_here, ones_past}
use Rattle.bits.proofs.ones.Goals as goal

pub loop-at-init : goal.loop-at-init
loop-at-init c =
    let z : c.args.from - c.args.from ≡ 0 = omega arith in
    (omega arith, ap (λ (v : ℕ). ones_of v c.args.from (drop c.args.from (bits_of c.args.s.now))) z)

pub loop-at-preserved : goal.loop-at-preserved
loop-at-preserved c =
    let l = c.loop-at in
    let s = c.args.s.now in
    let f = c.args.from in
    let e : l.at - f + 57 ≡ l.at + 57 - f = omega (arith, l.invariant.0) in
    let r = ones_on s l.at c.ahead.result c.ahead.ensures.0 _ c.ones_in.ensures c.in_default.is (l.at - f) in
    (omega (arith, l.invariant.0), sym (r.1 ∙ ap (λ (v : ℕ). ones_of v (l.at + 57) (drop (l.at + 57) (bits_of s))) e) ∙ l.invariant.1)

pub returns-then-end-at : goal.returns-then-end-at
returns-then-end-at c =
    let l = c.loop-at in
    let a = c.ahead in
    ones_past c.args.s.now l.at a.result a.ensures.0 _ c.ones_in.ensures _ _ c.in-Some.is (l.at - c.args.from) c.if-end-at.true ∙ l.invariant.1

pub returns-in-Some : goal.returns-in-Some
returns-in-Some c =
    let l = c.loop-at in
    let a = c.ahead in
    ones_here c.args.s.now l.at a.result a.ensures.0 _ c.ones_in.ensures _ _ c.in-Some.is (l.at - c.args.from) c.if-end-at.false ∙ l.invariant.1

pub returns : goal.returns
returns c =
    let l = c.loop-at in
    let s = c.args.s.now in
    let h : length (bits_of s) ≤ l.at = rw length_bits_of (omega arith) in
    sym (ones_cut (bits_of s) (l.at - c.args.from) l.at h) ∙ l.invariant.1

-- the last word is all ones, and no bit is left behind it
pub returns-in_default : goal.returns-in_default
returns-in_default c =
    let l = c.loop-at in
    let s = c.args.s.now in
    let v = l.at - c.args.from in
    let r = ones_on s l.at c.ahead.result c.ahead.ensures.0 _ c.ones_in.ensures c.in_default.is v in
    let h : length (bits_of s) ≤ l.at + 57 = rw length_bits_of (omega arith) in
    sym (r.1 ∙ ones_cut (bits_of s) (v + 57) (l.at + 57) h) ∙ l.invariant.1
