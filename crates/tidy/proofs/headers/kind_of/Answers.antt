-- A block of less than two bytes is none of the three; else its type and length decide.
use mathlib.Core.Path.{ap, ◌∙◌}
use lib.ListN.{length}
use Rattle.tidy.specs.Headers.{kind_by, kind_of}
use Rattle.tidy.specs.laws.Headers.{kind_short}
use Rattle.tidy.proofs.headers.kind_of.Goals as goal

pub returns-then-block-lt2 : goal.returns-then-block-lt2
returns-then-block-lt2 c = kind_short c.args.block.now c.if-block-lt2.true

pub returns : goal.returns
unfolding kind_of
returns c =
    c.kind_by.ensures ∙ ap (λ t. kind_by t (length c.args.block.now)) c.le16_at.ensures.0
