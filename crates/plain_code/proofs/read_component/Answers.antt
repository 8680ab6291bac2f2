-- `read_component` meets its contract: refused by its row of checks, refused by the code and cleared, or taken. Assumes nothing.
use Prim.Native.Nat.{ℕ}
use mathlib.Core.Path.{◌≡◌, refl, sym, ap, ◌∙◌}
use mathlib.Core.Bool.{true}
use mathlib.Core.Logic.{◌⊎◌, ⊎_elim}
use Rattle.std.specs.Prelude.{not, ◌≤◌}
use Rattle.std.proofs.Common.{ne_eqb, eq-eqb}
use native.Mathlib.Omega.{arith}
use lib.IntN.{pos}
use lib.ListN.{replicate}
use Rattle.whole.specs.laws.Row.{rows, passes, fails}
use Rattle.wire.specs.Mode.{is_mode}
use Rattle.code.specs.Read.{shell_fault}
use Rattle.code.specs.laws.Read.{shell_refused, code_refused, code_taken}
use Rattle.plain_code.specs.laws.Bit.{mode_1, mode_4, mode_none}
use Rattle.plain_code.proofs.read_component.Goals as goal

-- one of the two modes
known : (mode : ℕ) → ((mode ≡ 1 → ⊥) × mode ≡ 4) ⊎ (mode ≡ 1) → is_mode mode ≡ true
known mode = ⊎_elim (λ w. mode_4 mode (ap not (eq-eqb mode 4 w.1))) (λ e. mode_1 mode e)

-- no fault before the code
through : (mode n bytes : ℕ) → is_mode mode ≡ true → n ≡ 4096 → bytes ≤ 65535 → 0 ≡ shell_fault mode n bytes
unfolding shell_fault
through mode n bytes m e k = passes _ _ _ _ m (search rows)

pub returns-then-mode-ne4 : goal.returns-then-mode-ne4
unfolding shell_fault
returns-then-mode-ne4 c =
    let a = c.args in
    shell_refused a.mode a.s.now a.list.now _ (fails _ _ _ _ (mode_none _ c.if-mode-ne1.true (ap not (ne_eqb a.mode 4 c.if-mode-ne4.true))) refl)

pub returns-then-list-ne4096 : goal.returns-then-list-ne4096
unfolding shell_fault
returns-then-list-ne4096 c =
    let a = c.args in
    shell_refused a.mode a.s.now a.list.now _ (passes _ _ _ _ (known a.mode c.else-mode-ne1.either) (search rows))

pub returns-then-s-gt65535 : goal.returns-then-s-gt65535
unfolding shell_fault
returns-then-s-gt65535 c =
    let a = c.args in
    shell_refused a.mode a.s.now a.list.now _ (passes _ _ _ _ (known a.mode c.else-mode-ne1.either) (search rows))

pub read_code-r-requires : goal.read_code-r-requires
read_code-r-requires c =
    let clear = c.clear in
    let if4 = c.if-s-gt65535 in
    let if3 = c.if-list-ne4096 in
    (omega (arith, if4.false), clear.auto.list ∙ if3.false, clear.ensures ∙ ap (λ (k : ℕ). replicate k (pos 0)) (sym clear.auto.list))

pub returns-then-reading_number-ne0 : goal.returns-then-reading_number-ne0
returns-then-reading_number-ne0 c =
    let if5 = c.if-reading_number-ne0 in
    let reading-number = c.reading_number in
    let clear = c.clear in
    let if3 = c.if-list-ne4096 in
    let a = c.args in
    let d = c.read_code-r in
    let zeros = c.clear-then-reading_number-ne0.ensures ∙ ap (λ (k : ℕ). replicate k (pos 0)) (d.auto.list ∙ clear.auto.list ∙ if3.false) in
    code_refused a.mode a.s.now a.list.now (through a.mode _ _ (known a.mode c.else-mode-ne1.either) c.if-list-ne4096.false c.if-s-gt65535.false)
    d.new.list _ d.result d.ensures
    (λ z. if5.true (reading-number.ensures ∙ z)) zeros

pub returns-else-reading_number-ne0 : goal.returns-else-reading_number-ne0
returns-else-reading_number-ne0 c =
    let a = c.args in
    let d = c.read_code-r in
    code_taken a.mode a.s.now a.list.now (through a.mode _ _ (known a.mode c.else-mode-ne1.either) c.if-list-ne4096.false c.if-s-gt65535.false)
    d.new.list d.new.list d.result d.ensures
    (sym c.reading_number.ensures ∙ c.if-reading_number-ne0.false)
