-- One law for each way out: a refusal (`longer_refused`), a tail (`longer_tail`), another last value (`longer_other`), and the form itself (`longer_is`).
use Prim.Native.Nat.{ℕ}
use mathlib.Core.Path.{sym, ap, ◌∙◌}
use lib.IntN.{pos}
use lib.ListN.{replicate}
use Rattle.bits.specs.Bits.{bits_of}
use Rattle.tidy_code.specs.laws.Longer.{filled_whole, filled_bad, longer_refused, longer_inside, longer_tail, longer_other, longer_is}
use Rattle.tidy_code.proofs.longer.read_longer.Goals as goal

pub fill-requires : goal.fill-requires
fill-requires c =
    let l = c.clear in
    (c.requires.0, l.auto.list ∙ c.requires.1, l.ensures ∙ ap (λ (k : ℕ). replicate k (pos 0)) c.requires.1)

pub clean_tail-requires : goal.clean_tail-requires
clean_tail-requires c =
    let e = filled_whole _ _ _ c.fill.ensures c.in-Ok.at c.in-Ok.last c.in-Ok.is in
    (c.requires.0, longer_inside c.args.rlgr3 c.args.s.now c.fill.new.list c.in-Ok.last c.in-Ok.at e)

pub returns-then-not-clean_tail : goal.returns-then-not-clean_tail
returns-then-not-clean_tail c =
    let e = filled_whole _ _ _ c.fill.ensures c.in-Ok.at c.in-Ok.last c.in-Ok.is in
    longer_tail c.args.rlgr3 c.args.s.now c.fill.new.list c.in-Ok.last c.in-Ok.at e _ _ (sym c.clean_tail.ensures ∙ c.if-not-clean_tail.true)
    c.refuse-then-not-clean_tail.ensures

pub returns-then-last-ne1 : goal.returns-then-last-ne1
returns-then-last-ne1 c =
    let e = filled_whole _ _ _ c.fill.ensures c.in-Ok.at c.in-Ok.last c.in-Ok.is in
    longer_other c.args.rlgr3 c.args.s.now c.fill.new.list c.in-Ok.last c.in-Ok.at e (c.fill.auto.list ∙ c.clear.auto.list ∙ c.requires.1)
    (sym c.clean_tail.ensures ∙ c.if-not-clean_tail.false) _ _ c.if-last-ne1.true c.refuse-then-last-ne1.ensures

pub returns-in-Err : goal.returns-in-Err
returns-in-Err c =
    let q = filled_bad _ _ _ c.fill.ensures _ c.in-Err.is in
    longer_refused (bits_of c.args.s.now) _ _ _ _ q c.refuse.ensures

pub returns-else-last-ne1 : goal.returns-else-last-ne1
returns-else-last-ne1 c =
    let e = filled_whole _ _ _ c.fill.ensures c.in-Ok.at c.in-Ok.last c.in-Ok.is in
    longer_is c.args.rlgr3 c.args.s.now c.fill.new.list c.in-Ok.last c.in-Ok.at e (c.fill.auto.list ∙ c.clear.auto.list ∙ c.requires.1)
    (sym c.clean_tail.ensures ∙ c.if-not-clean_tail.false) c.if-last-ne1.false
