-- What is read at a place is the value that stood there (`here`), so the call may be made of it, and what comes back is put there (`by_put`).
use Rattle.std.proofs.Common.{◌≡◌, sym, subst, ◌∙◌, arith, ℤ, pos, get_or, w32, to_z, of_z}
use Rattle.whole.specs.Tab.{at}
use Rattle.whole.specs.laws.Near.{Near, back, back_ok}
use Rattle.bands.specs.laws.Part.{by_none, by_put}
use Rattle.bands.proofs.each_value.Goals as goal
use Rattle.bands.proofs.each_value.Goals.{In-loop-v}

here : (g : _) (c : In-loop-v g) → to_z w32 (of_z w32 (get_or c.loop-v.part c.loop-v.v-index (pos 0))) ≡ at c.args.part.now c.loop-v.v-index
here g c =
    let i = c.loop-v.v-index in
    let e = c.loop-v.invariant.rest i (omega arith) in
    back w32 (subst (Near 268435456) (sym e) (c.requires.near.all i)) tt ∙ e

pub loop-v-init : goal.loop-v-init
loop-v-init g c = by_none _ _

pub f-requires : goal.f-requires
f-requires g c =
    subst (λ (z : ℤ). g.F.Fn.pre c.args.f (z, tt)) (sym (here g (goal.at.f-requires g c).In-loop-v)) (c.requires.can c.loop-v.v-index (omega arith))

pub loop-v-preserved : goal.loop-v-preserved
loop-v-preserved g c =
    let e = here g (goal.at.loop-v-preserved g c).In-loop-v in
    let r = back_ok w32 c.f.result c.f.type_inv in
    by_put (λ k x y. goal.F-post g c.args.f x y) c.loop-v.v-index c.args.part.now c.loop-v.part _ (omega arith)
    (subst (λ (y : ℤ). g.F.Fn.post c.args.f (at c.args.part.now c.loop-v.v-index, tt) y) (sym r)
    (subst (λ (z : ℤ). g.F.Fn.post c.args.f (z, tt) c.f.result) e c.f.ensures)) c.loop-v.invariant

pub returns : goal.returns
returns g c = λ k h. c.loop-v.invariant.done k (omega arith)
