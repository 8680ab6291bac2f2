-- What stands before a place is near (`last_near`), and the difference from it is the place's (`diff_is`); at the end every place holds its own (`done_all`).
use Rattle.std.proofs.Common.{◌≡◌, ℕ, ℤ, ◌∙◌, sym, subst, arith, refl, w32, to_z, of_z}
use Rattle.whole.specs.Tab.{at, table}
use Rattle.whole.specs.laws.Near.{Near, back, back_near, back_ok}
use Rattle.bands.specs.Rounding.{diff_at}
use Rattle.bands.specs.laws.Rounding.{last_of, diff_is, last_more, last_near}
use Rattle.bands.specs.laws.Part.{done_none, done_put, done_all}
use Rattle.bands.proofs.difference_part.Goals as goal
use Rattle.bands.proofs.difference_part.Goals.{At-loop-v}

here : (s : At-loop-v) → (at s.loop-v.part s.loop-v.v-index ≡ at s.args.part.now s.loop-v.v-index) × Near 268443648 (at s.loop-v.part s.loop-v.v-index)
here s = let e = s.loop-v.invariant.1.rest s.loop-v.v-index (omega arith) in (e, subst (Near 268443648) (sym e) (s.requires.1.all s.loop-v.v-index))

pub loop-v-init : goal.loop-v-init
unfolding last_of
loop-v-init c = (refl, done_none _ _)

pub minus-requires : goal.minus-requires
minus-requires c = (
  back_near w32 (here (goal.at.minus-requires c).At-loop-v).1 tt,
  subst (Near 268443648) (sym c.loop-v.invariant.0) (last_near (at c.args.part.now) c.loop-v.v-index c.requires.1.all),
)

pub loop-v-preserved : goal.loop-v-preserved
loop-v-preserved c =
    let f : ℕ → ℤ = at c.args.part.now in
    let i = c.loop-v.v-index in
    let h = here (goal.at.loop-v-preserved c).At-loop-v in
    let v : to_z w32 (of_z w32 c.minus.result) ≡ diff_at f i =
    cc (back_ok w32 c.minus.result c.minus.type_inv, c.minus.ensures, back w32 h.1 tt, h.0, c.loop-v.invariant.0, diff_is f i) in
    (back w32 h.1 tt ∙ (h.0 ∙ last_more f i), done_put (diff_at f) i c.args.part.now c.loop-v.part _ (omega arith) v c.loop-v.invariant.1)

pub returns : goal.returns
returns c =
    let n : c.loop-v.v-index ≡ 64 = omega (arith, c.requires.0) in
    let f : ℕ → ℤ = diff_at (at c.args.part.now) in
    let d = done_all f c.loop-v.v-index c.args.part.now c.loop-v.part (c.requires.0 ∙ sym n) c.loop-v.invariant.1 in
    subst (λ i. c.loop-v.part ≡ table i f) n d
