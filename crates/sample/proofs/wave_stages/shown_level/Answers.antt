-- What is shown changes nothing: the work list is what `level` leaves, whose scratch `rows` left at its length.
use Prim.Native.Nat.{ℕ}
use mathlib.Core.Path.{ap, ◌∙◌}
use Rattle.sample.specs.Waves.{levelled}
use Rattle.sample.proofs.wave_stages.shown_level.Goals as goal

pub returns : goal.returns
returns c =
    let a = c.args in
    c.level.ensures ∙ ap (λ (k : ℕ). levelled a.n k a.work.now) c.tmp-1.given
