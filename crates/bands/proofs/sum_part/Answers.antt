-- A sum so far is near enough that the next fits (`sum_so_far`), and is the next (`sum_more`); at the end every place holds its own (`done_all`).
use Rattle.std.proofs.Common.{◌≡◌, ℕ, ℤ, ◌∙◌, sym, subst, arith, refl, ◌+◌, w32, to_z, of_z}
use Rattle.whole.specs.Tab.{at, table}
use Rattle.whole.specs.laws.Near.{Near, back, back_near, back_ok}
use Rattle.bands.specs.Bands.{sum_to}
use Rattle.bands.specs.laws.Range.{sum_more, sum_so_far}
use Rattle.bands.specs.laws.Part.{done_none, done_put, done_all}
use Rattle.bands.proofs.sum_part.Goals as goal
use Rattle.bands.proofs.sum_part.Goals.{At-loop-v}

-- what is added
here : (s : At-loop-v) → (at s.loop-v.part s.loop-v.v-index ≡ at s.args.part.now s.loop-v.v-index) × Near 32767 (at s.loop-v.part s.loop-v.v-index)
here s = let e = s.loop-v.invariant.1.rest s.loop-v.v-index (omega arith) in (e, subst (Near 32767) (sym e) (s.requires.1.all s.loop-v.v-index))

pub loop-v-init : goal.loop-v-init
unfolding sum_to
loop-v-init c = (refl, done_none _ _)

pub plus-s-requires : goal.plus-s-requires
plus-s-requires c =
    let so_far = sum_so_far (at c.args.part.now) c.loop-v.v-index (omega (arith, c.requires.0)) (λ k. c.requires.1.all k) in
    (subst (Near 2097152) (sym c.loop-v.invariant.0) so_far, back_near w32 (here (goal.at.plus-s-requires c).At-loop-v).1 tt)

pub loop-v-preserved : goal.loop-v-preserved
loop-v-preserved c =
    let i = c.loop-v.v-index in
    let g : ℕ → ℤ = at c.args.part.now in
    let h = here (goal.at.loop-v-preserved c).At-loop-v in
    let v : to_z w32 (of_z w32 c.plus-s.result) ≡ sum_to g (i + 1) =
    cc (back_ok w32 c.plus-s.result c.plus-s.type_inv, c.plus-s.ensures, c.loop-v.invariant.0, back w32 h.1 tt, h.0, sum_more g i) in
    (v, done_put (λ k. sum_to g (k + 1)) i c.args.part.now c.loop-v.part _ (omega arith) v c.loop-v.invariant.1)

pub returns : goal.returns
returns c =
    let f : ℕ → ℤ = λ k. sum_to (at c.args.part.now) (k + 1) in
    let n : c.loop-v.v-index ≡ 64 = omega (arith, c.requires.0) in
    let d = done_all f c.loop-v.v-index c.args.part.now c.loop-v.part (c.requires.0 ∙ sym n) c.loop-v.invariant.1 in
    subst (λ i. c.loop-v.part ≡ table i f) n d
