-- `settings::write::write_settings` meets its contract: the ways out are those of every writer, with one set or with two. Assumes nothing.
use mathlib.Core.Path.{◌≡◌, sym, ◌∙◌}
use native.Mathlib.Omega.{arith}
use borrow.Author.Rules.{rules}
use lib.ListN.{length}
use Rattle.wire.specs.laws.Refusal.{handed_on}
use Rattle.wire.specs.laws.Wrote.{refused}
use Rattle.settings.specs.Settings.{write_fault}
use Rattle.settings.specs.laws.Write.{writable, size_one, size_two, wrote_one, wrote_two}
use Rattle.settings.proofs.write.write_settings.Goals as goal
use Rattle.settings.proofs.write.write_settings.Goals.{In_ok-write_fault, Start}

ten : (s : Start) → (length s.args.s.quants.luma.v ≡ 10) × (length s.args.s.quants.chroma.v ≡ 10)
ten s = search rules

-- behind the test there is nothing to refuse
none : (c : In_ok-write_fault) → let a = c.args in 0 ≡ write_fault a.s (length a.out.now)
none c = c.in_ok-write_fault.ensures

pub returns-in_err-write_fault : goal.returns-in_err-write_fault
returns-in_err-write_fault c = rw (handed_on _ _ c.from_residual.ensures.1) (refused _ _ _ _ c.in_err-write_fault.ensures)

pub put_one-requires : goal.put_one-requires
put_one-requires c =
    let s = c.args.s in
    let w = writable _ _ (none (goal.at.put_one-requires c).In_ok-write_fault) in
    (omega (arith, w.fits, size_one s (sym c.is_same.ensures ∙ c.if-is_same.true)), w.luma)

pub returns-then-is_same : goal.returns-then-is_same
returns-then-is_same c =
    wrote_one _ _ _ (none (goal.at.returns-then-is_same c).In_ok-write_fault) (ten (goal.at.returns-then-is_same c).Start).0
    (sym c.is_same.ensures ∙ c.if-is_same.true) c.put_one.ensures

pub put_two-requires : goal.put_two-requires
put_two-requires c =
    let s = c.args.s in
    let w = writable _ _ (none (goal.at.put_two-requires c).In_ok-write_fault) in
    (omega (arith, w.fits, size_two s (sym c.is_same.ensures ∙ c.if-is_same.false)), w.luma, w.chroma)

pub returns : goal.returns
returns c =
    let n = ten (goal.at.returns c).Start in
    wrote_two _ _ _ (none (goal.at.returns c).In_ok-write_fault) n.0 (sym c.is_same.ensures ∙ c.if-is_same.false) n.1 c.put_two.ensures
