-- `code_read::read_component` meets its contract: refused by its shell, refused by the code and cleared, or taken. Assumes nothing.
use Prim.Native.Nat.{ℕ}
use mathlib.Core.Path.{sym, ap, ◌∙◌}
use lib.IntN.{pos}
use lib.ListN.{length, replicate}
use Rattle.code.specs.laws.Read.{passed, shell_refused, code_refused, code_taken}
use Rattle.code.proofs.read.read_component.Goals as goal

pub returns-in-Err : goal.returns-in-Err
returns-in-Err c = shell_refused c.args.mode c.args.s.now c.args.list.now _ c.in-Err.ensures

pub read_code-r-requires : goal.read_code-r-requires
read_code-r-requires c =
    let p = passed c.args.mode (length c.args.list.now) (length c.args.s.now) c.in-Ok.ensures in
    (p.small, p.full)

pub returns-then-reading_number-ne0 : goal.returns-then-reading_number-ne0
returns-then-reading_number-ne0 c =
    let d = c.read_code-r in
    let a = c.args in
    let p = passed a.mode (length a.list.now) (length a.s.now) c.in-Ok.ensures in
    let zeros = c.clear.ensures ∙ ap (λ (k : ℕ). replicate k (pos 0)) (d.auto.list ∙ p.full) in
    code_refused a.mode a.s.now a.list.now c.in-Ok.ensures d.new.list _ d.result d.ensures
    (λ z. c.if-reading_number-ne0.true (c.reading_number.ensures ∙ z)) zeros

pub returns-else-reading_number-ne0 : goal.returns-else-reading_number-ne0
returns-else-reading_number-ne0 c =
    let d = c.read_code-r in
    let a = c.args in
    code_taken a.mode a.s.now a.list.now c.in-Ok.ensures d.new.list d.new.list d.result d.ensures
    (sym c.reading_number.ensures ∙ c.if-reading_number-ne0.false)
