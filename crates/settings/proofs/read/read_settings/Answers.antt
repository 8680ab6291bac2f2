-- What is answered is the walk from where it stands (`turn_refuses`, `turn_goes_on`, `turn_ends`); a record that is not refused is there in full (`body_fits`).
use Prim.Native.Nat.{◌+◌, ◌≤◌}
use mathlib.Core.Path.{ap, ◌∙◌}
use native.Mathlib.Omega.{arith}
use lib.ListN.{length}
use Rattle.std.proofs.lemmas.Result.{err_from_is_err_and}
use Rattle.settings.specs.Settings.{body_of}
use Rattle.settings.specs.laws.Read.{body_fits, turn_starts, turn_refuses, turn_goes_on, turn_ends}
use Rattle.settings.proofs.read.read_settings.Goals as goal
use Rattle.settings.proofs.read.read_settings.Goals.{In_ok-record_fault}

fits : (c : In_ok-record_fault) → c.loop-at.at + 1 + body_of c.byte_at-kind.result ≤ length c.args.m.now
fits c = body_fits c.args.newest c.loop-at.s.version c.byte_at-kind.result (c.loop-at.at + 1) c.args.m.now (omega arith) c.in_ok-record_fault.ensures

pub loop-at-init : goal.loop-at-init
loop-at-init c = (omega arith, turn_starts _ _)

pub returns-in_err-record_fault : goal.returns-in_err-record_fault
returns-in_err-record_fault c =
    let p = err_from_is_err_and c.from_residual.result c.from_residual.ensures.1 in
    rw (p.1, p.2)
    (turn_refuses _ _ c.loop-at.s c.loop-at.at _ _ c.loop-at.invariant.1 c.loop-at-test.true c.byte_at-kind.ensures.0 c.in_err-record_fault.ensures)

pub after-s-requires : goal.after-s-requires
after-s-requires c = fits (goal.at.after-s-requires c).In_ok-record_fault

pub overflow_add-at-in-loop-at-3 : goal.overflow_add-at-in-loop-at-3
overflow_add-at-in-loop-at-3 c = omega (arith, fits (goal.at.overflow_add-at-in-loop-at-3 c).In_ok-record_fault, c.body_of.ensures.0)

pub loop-at-smaller : goal.loop-at-smaller
loop-at-smaller c = omega (arith, fits (goal.at.loop-at-smaller c).In_ok-record_fault, c.body_of.ensures.0)

pub loop-at-preserved : goal.loop-at-preserved
loop-at-preserved c = (
  omega (arith, fits (goal.at.loop-at-preserved c).In_ok-record_fault, c.body_of.ensures.0),
  turn_goes_on _ _ c.loop-at.s c.loop-at.at c.byte_at-kind.result _ _ c.loop-at.invariant.1 c.loop-at-test.true c.byte_at-kind.ensures.0
      c.in_ok-record_fault.ensures c.after-s.ensures (ap (λ n. c.loop-at.at + 1 + n) c.body_of.ensures.0),
)

pub returns : goal.returns
returns c = c.ended.ensures ∙ turn_ends _ _ c.loop-at.s c.loop-at.at c.loop-at.invariant.1 (omega arith)
