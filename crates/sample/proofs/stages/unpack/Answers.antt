-- Each place that is passed has the file's number.
use Rattle.std.proofs.Common.{◌∙◌, arith, w32}
use Rattle.whole.specs.laws.Near.{back_ok}
use Rattle.whole.specs.laws.Put.{put_new}
use Rattle.sample.specs.Compare.{value_at}
use Rattle.sample.proofs.stages.unpack.Goals as goal

pub loop-i-preserved : goal.loop-i-preserved
loop-i-preserved c =
    put_new (λ n. n) (value_at _) c.loop-i.list c.loop-i.i _ (omega arith) (λ n k e. omega arith)
    (back_ok w32 c.value_at.result c.value_at.type_inv ∙ c.value_at.ensures) c.loop-i.invariant

pub returns : goal.returns
returns c = record { long = c.loop-i.auto.list; each = λ n k. c.loop-i.invariant n (omega arith) }
