-- The whole walk is the walk over what is left (`skip_on`); it stops where nothing more is to be passed over or at the bytes' end.
use Rattle.std.proofs.Common.{◌≡◌, length, refl, sym, ◌∙◌, arith}
use Rattle.app_stream.specs.laws.Skip.{skip_on, skip_stops, skip_ends}
use Rattle.app_stream.proofs.skip.pass_over.Goals as goal

pub loop-at-preserved : goal.loop-at-preserved
loop-at-preserved c =
    c.loop-at.invariant
    ∙ skip_on _ _ _ c.loop-at.at c.args.bytes.now _ (omega arith) (sym c.goes_on.ensures ∙ c.if-not-goes_on.false) refl c.byte_over-s.ensures

pub returns-then-not-goes_on : goal.returns-then-not-goes_on
returns-then-not-goes_on c =
    sym (c.loop-at.invariant ∙ skip_stops _ _ _ (sym c.goes_on.ensures ∙ c.if-not-goes_on.true))

pub returns : goal.returns
returns c =
    let e : c.loop-at.at ≡ length c.args.bytes.now = omega arith in
    rw (← e) (sym (c.loop-at.invariant ∙ skip_ends _ _ _ (omega arith)))
