-- What a reader would refuse, then room.
use Rattle.std.proofs.Common.{◌∙◌, sym, refl, arith}
use borrow.Author.Tests.{lt-leb, le-leb}
use Rattle.whole.specs.laws.Row.{stops, goes_on, passes, fails}
use Rattle.wire.specs.laws.Refusal.{number_on, number_pos}
use Rattle.settings.specs.Settings.{size_of, write_fault}
use Rattle.settings.proofs.write.write_fault.Goals as goal

pub returns-in_err-settings_fault : goal.returns-in_err-settings_fault
unfolding write_fault
returns-in_err-settings_fault c =
    let e = c.in_err-settings_fault.ensures in
    number_on _ _ c.from_residual.ensures.1 ∙ stops _ _ _ (λ z. number_pos _ (e ∙ z)) e

pub returns-then-room-size_of : goal.returns-then-room-size_of
unfolding write_fault
returns-then-room-size_of c =
    goes_on _ _ _ (sym c.in_ok-settings_fault.ensures) (fails _ _ _ _ (lt-leb (size_of c.args.s) c.args.room (omega (arith, c.size_of.ensures))) refl)

pub returns : goal.returns
unfolding write_fault
returns c =
    goes_on _ _ _ (sym c.in_ok-settings_fault.ensures) (passes _ _ _ _ (le-leb (size_of c.args.s) c.args.room (omega (arith, c.size_of.ensures))) refl)
