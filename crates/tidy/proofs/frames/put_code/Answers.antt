-- What was written is compared with what came: `code_kept`, `code_cut`.
use mathlib.Core.Path.{sym, ◌∙◌}
use native.Mathlib.Omega.{arith}
use Rattle.tidy_code.specs.laws.Request.{tidy_codes}
use Rattle.tidy.specs.laws.Put.{code_kept, code_cut}
use Rattle.tidy.proofs.frames.put_code.Goals as goal

pub slice_bounds-is_same-end : goal.slice_bounds-is_same-end
slice_bounds-is_same-end c =
    let a = c.args in
    omega (arith, c.put_tidied-e.ensures.1, tidy_codes.never_longer a.sender a.mode a.code.now, c.requires.1, c.put_tidied-e.auto.out)

pub returns-then-is_same : goal.returns-then-is_same
returns-then-is_same c =
    let a = c.args in
    code_kept a.sender a.mode a.code.now a.out.now _ a.to c.put_tidied-e.result (omega (arith, c.requires.1)) c.put_tidied-e.ensures.0
    c.put_tidied-e.ensures.1 (sym c.if-is_same.true ∙ c.is_same.ensures)

pub returns : goal.returns
returns c =
    let a = c.args in
    code_cut a.sender a.mode a.code.now a.out.now _ a.to c.put_tidied-e.result (omega (arith, c.requires.1)) c.put_tidied-e.ensures.0
    c.put_tidied-e.ensures.1 (sym c.if-is_same.false ∙ c.is_same.ensures)
