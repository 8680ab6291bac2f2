-- `code_read::read_checked` meets its contract: a code that has no fault fills the list whole, and leaves the decoded one (`checked_whole`).
-- Assumes nothing.
use Rattle.code.specs.laws.Read.{read_passed, checked_whole}
use Rattle.code.proofs.read.read_checked.Goals as goal

pub decode-requires : goal.decode-requires
decode-requires c = ((read_passed c.args.mode 4096 c.args.s.now c.requires.1).small, c.requires.0)

pub returns : goal.returns
returns c =
    let f = c.decode in
    (checked_whole c.args.mode c.args.s.now f.new.list f.result c.requires.1 f.ensures).2
