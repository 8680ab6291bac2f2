-- As the component reader's own: eight bits or more are no clean tail (`tail_long`); fewer are one number, and it is 0 or not (`tail_got`).
use native.Mathlib.Omega.{arith}
use Rattle.code.specs.laws.Read.{tail_long, tail_cut, tail_got}
use Rattle.tidy_code.proofs.longer.clean_tail.Goals as goal

pub returns-then-left-ge8 : goal.returns-then-left-ge8
returns-then-left-ge8 c = tail_long c.args.s.now c.args.at c.requires.1 (omega arith)

pub returns-in-None : goal.returns-in-None
returns-in-None c =
    let n = c.number in
    tail_cut c.args.s.now c.args.at c.requires.1 n.result n.ensures c.in-None.is

pub returns-in-Some : goal.returns-in-Some
returns-in-Some c =
    let n = c.number in
    tail_got c.args.s.now c.args.at c.requires.1 n.result _ _ (λ h. omega arith) n.ensures c.in-Some.is
