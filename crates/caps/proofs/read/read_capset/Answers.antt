-- `caps::read::read_capset` meets its contract: along the layout, step by step, to the one that is refused or to its end.
-- Assumes nothing.
use mathlib.Core.Path.{◌∙◌}
use Rattle.std.proofs.Common.{eq-eqb, ne_eqb, le-leb, leb, eqb, ◌+◌, ◌*◌}
use Rattle.std.proofs.lemmas.Bool.{lt-leb}
use Rattle.caps.specs.Caps.{capset}
use Rattle.caps.specs.laws.Walk.{row_back}
use Rattle.caps.specs.laws.Step.{next_on, next_off, row_stops, fixed_on, fixed_off, passed_on, goes_on}
use Rattle.caps.proofs.read.read_capset.Goals as goal

pub returns-in_err-fixed : goal.returns-in_err-fixed
unfolding capset
returns-in_err-fixed c = passed_on _ _ _ _ _ c.from_residual.ensures (fixed_off _ c.in_err-fixed.ensures)

pub returns-in_err-length : goal.returns-in_err-length
unfolding capset
returns-in_err-length c = passed_on _ _ _ _ _ c.from_residual-in_err-length.ensures (fixed_on 5 _ c.in_ok-fixed.ensures ∙ next_off _ c.in_err-length.ensures)

pub returns-then-inner-length : goal.returns-then-inner-length
unfolding capset
returns-then-inner-length c =
    fixed_on 5 _ c.in_ok-fixed.ensures ∙ next_on _ c.in_ok-length.ensures
    ∙ row_stops (eqb c.args.inner (8 + c.in_ok-length.length)) 4 _ _ (ne_eqb _ _ c.if-inner-length.true)

pub returns-in_err-fixed-2 : goal.returns-in_err-fixed-2
unfolding capset
returns-in_err-fixed-2 c =
    passed_on _ _ _ _ _ c.from_residual-in_err-fixed-2.ensures (fixed_on 5 _ c.in_ok-fixed.ensures ∙ next_on _ c.in_ok-length.ensures
    ∙ row_back (eqb c.args.inner (8 + c.in_ok-length.length)) 4 _ _ (eq-eqb _ _ c.if-inner-length.false) ∙ fixed_off _ c.in_err-fixed-2.ensures)

pub returns-in_err-fixed-3 : goal.returns-in_err-fixed-3
unfolding capset
returns-in_err-fixed-3 c =
    passed_on _ _ _ _ _ c.from_residual-in_err-fixed-3.ensures (fixed_on 5 _ c.in_ok-fixed.ensures ∙ next_on _ c.in_ok-length.ensures
    ∙ row_back (eqb c.args.inner (8 + c.in_ok-length.length)) 4 _ _ (eq-eqb _ _ c.if-inner-length.false) ∙ fixed_on 5 _ c.in_ok-fixed-2.ensures
    ∙ fixed_off _ c.in_err-fixed-3.ensures)

pub returns-in_err-count : goal.returns-in_err-count
unfolding capset
returns-in_err-count c =
    passed_on _ _ _ _ _ c.from_residual-in_err-count.ensures (fixed_on 5 _ c.in_ok-fixed.ensures ∙ next_on _ c.in_ok-length.ensures
    ∙ row_back (eqb c.args.inner (8 + c.in_ok-length.length)) 4 _ _ (eq-eqb _ _ c.if-inner-length.false) ∙ fixed_on 5 _ c.in_ok-fixed-2.ensures
    ∙ fixed_on 5 _ c.in_ok-fixed-3.ensures ∙ next_off _ c.in_err-count.ensures)

pub returns-then-count-gt-MOST : goal.returns-then-count-gt-MOST
unfolding capset
returns-then-count-gt-MOST c =
    fixed_on 5 _ c.in_ok-fixed.ensures ∙ next_on _ c.in_ok-length.ensures
    ∙ row_back (eqb c.args.inner (8 + c.in_ok-length.length)) 4 _ _ (eq-eqb _ _ c.if-inner-length.false) ∙ fixed_on 5 _ c.in_ok-fixed-2.ensures
    ∙ fixed_on 5 _ c.in_ok-fixed-3.ensures ∙ next_on _ c.in_ok-count.ensures
    ∙ row_stops (leb c.in_ok-count.count 2) 6 _ _ (lt-leb _ 2 c.if-count-gt-MOST.true)

pub returns-in_err-fixed-4 : goal.returns-in_err-fixed-4
unfolding capset
returns-in_err-fixed-4 c =
    passed_on _ _ _ _ _ c.from_residual-in_err-fixed-4.ensures (fixed_on 5 _ c.in_ok-fixed.ensures ∙ next_on _ c.in_ok-length.ensures
    ∙ row_back (eqb c.args.inner (8 + c.in_ok-length.length)) 4 _ _ (eq-eqb _ _ c.if-inner-length.false) ∙ fixed_on 5 _ c.in_ok-fixed-2.ensures
    ∙ fixed_on 5 _ c.in_ok-fixed-3.ensures ∙ next_on _ c.in_ok-count.ensures
    ∙ row_back (leb c.in_ok-count.count 2) 6 _ _ (le-leb _ 2 c.if-count-gt-MOST.false) ∙ fixed_off _ c.in_err-fixed-4.ensures)

pub returns-then-length-count : goal.returns-then-length-count
unfolding capset
returns-then-length-count c =
    fixed_on 5 _ c.in_ok-fixed.ensures ∙ next_on _ c.in_ok-length.ensures
    ∙ row_back (eqb c.args.inner (8 + c.in_ok-length.length)) 4 _ _ (eq-eqb _ _ c.if-inner-length.false) ∙ fixed_on 5 _ c.in_ok-fixed-2.ensures
    ∙ fixed_on 5 _ c.in_ok-fixed-3.ensures ∙ next_on _ c.in_ok-count.ensures
    ∙ row_back (leb c.in_ok-count.count 2) 6 _ _ (le-leb _ 2 c.if-count-gt-MOST.false) ∙ fixed_on 4 _ c.in_ok-fixed-4.ensures
    ∙ row_stops (eqb c.in_ok-length.length (13 + 8 * c.in_ok-count.count)) 4 _ _ (ne_eqb _ _ c.if-length-count.true)

pub returns : goal.returns
unfolding capset
returns c =
    goes_on _ _ _ _ _ _ (fixed_on 5 _ c.in_ok-fixed.ensures ∙ next_on _ c.in_ok-length.ensures
    ∙ row_back (eqb c.args.inner (8 + c.in_ok-length.length)) 4 _ _ (eq-eqb _ _ c.if-inner-length.false) ∙ fixed_on 5 _ c.in_ok-fixed-2.ensures
    ∙ fixed_on 5 _ c.in_ok-fixed-3.ensures ∙ next_on _ c.in_ok-count.ensures
    ∙ row_back (leb c.in_ok-count.count 2) 6 _ _ (le-leb _ 2 c.if-count-gt-MOST.false) ∙ fixed_on 4 _ c.in_ok-fixed-4.ensures
    ∙ row_back (eqb c.in_ok-length.length (13 + 8 * c.in_ok-count.count)) 4 _ _ (eq-eqb _ _ c.if-length-count.false)) c.read_entries.ensures
