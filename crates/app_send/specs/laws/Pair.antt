-- The ways of two heads.
use Rattle.std.specs.Prelude.{◌≡◌, Result, Ok, Err}
use Rattle.std.proofs.Math.Path.{ap}
use Rattle.std.proofs.Common.{sym, ◌∙◌}
use Rattle.app_pictures.specs.declared.ppm.Head.{Head}
use Rattle.app_pictures.specs.declared.ppm.Unfit.{Unfit}
use Rattle.app_send.specs.Pair.{sized_pair, second_pair, heads_pair}
use Rattle.app_send.specs.declared.faults.Fault.{Fault}
use Rattle.app_send.specs.declared.faults.Fault.TheVariants.{Picture}
use Rattle.app_send.specs.declared.pair.Pair.{Pair}

module _ (head : Result Head Unfit) (r : Result Pair Fault) where
  pub second_good : (one two : Head) → head ≡ Ok two → r ≡ sized_pair one two → r ≡ second_pair one head
  second_good one two e f = f ∙ ap (second_pair one) (sym e)

  pub second_none : (one : Head) (unfit : Unfit) → head ≡ Err unfit → r ≡ Err (Picture unfit) → r ≡ second_pair one head
  second_none one unfit e g = g ∙ ap (second_pair one) (sym e)

  pub heads_good : (one : Head) (two : Result Head Unfit) → head ≡ Ok one → r ≡ second_pair one two → r ≡ heads_pair head two
  heads_good one two e f = f ∙ ap (λ (x : Result Head Unfit). heads_pair x two) (sym e)

  pub heads_none : (two : Result Head Unfit) (unfit : Unfit) → head ≡ Err unfit → r ≡ Err (Picture unfit) → r ≡ heads_pair head two
  heads_none two unfit e g = g ∙ ap (λ (x : Result Head Unfit). heads_pair x two) (sym e)
