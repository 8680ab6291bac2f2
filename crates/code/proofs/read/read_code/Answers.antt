-- `code_read::read_code` meets its contract: one law for each way out, by what decoding and the tail say. Assumes nothing.
use mathlib.Core.Path.{sym, ◌∙◌}
use Rattle.code.specs.laws.Read.{whole_fits, code_bad, code_done, code_tail}
use Rattle.code.proofs.read.read_code.Goals as goal

pub clean_tail-requires : goal.clean_tail-requires
clean_tail-requires c =
    let f = c.decode in
    (c.requires.0, whole_fits c.args.rlgr3 c.args.s.now f.new.list f.result f.ensures _ c.in-Ok.is)

pub returns-then-clean_tail : goal.returns-then-clean_tail
returns-then-clean_tail c =
    let f = c.decode in
    code_done c.args.rlgr3 c.args.s.now f.new.list f.result f.ensures _ c.in-Ok.is
    (sym c.clean_tail.ensures ∙ c.if-clean_tail.true)

pub returns-in-Err : goal.returns-in-Err
returns-in-Err c =
    let f = c.decode in
    code_bad c.args.rlgr3 c.args.s.now f.new.list f.result f.ensures _ c.in-Err.is

pub returns-else-clean_tail : goal.returns-else-clean_tail
returns-else-clean_tail c =
    let f = c.decode in
    code_tail c.args.rlgr3 c.args.s.now f.new.list f.result f.ensures _ c.in-Ok.is
    (sym c.clean_tail.ensures ∙ c.if-clean_tail.false)
