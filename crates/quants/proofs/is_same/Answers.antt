-- The derived test of the two lists is `alike`, value by value.
use Rattle.std.proofs.Common.{◌≡◌, refl, ap, ◌∙◌, Bool, ◌&&◌, List, [], ◌∷◌, ℕ, eqb}
use lib.Pointwise.{pointwise}
use Rattle.quants.specs.Quants.{alike, same}
use Rattle.quants.proofs.is_same.Goals as goal

by_value : (a b : List ℕ) → pointwise eqb a b ≡ alike a b
unfolding alike
by_value [] [] = refl
by_value [] (b ∷ ys) = refl
by_value (a ∷ xs) [] = refl
by_value (a ∷ xs) (b ∷ ys) = ap (λ t. eqb a b && t) (by_value xs ys)

pub returns : goal.returns
unfolding same
returns c = c.eq.ensures ∙ by_value c.args.q.luma.v c.args.q.chroma.v
