-- Where a list is meant its own code is the tidied one, and has room (`put-code`, `meant_few`); else the bytes are (`put_kept`).
use native.Mathlib.Omega.{arith}
use Rattle.tidy_code.specs.laws.Read.{meant_list, put-code, put_kept}
use Rattle.tidy_code.specs.laws.Request.{meant_listed, meant_few}
use Rattle.code_write.specs.laws.Write.{is_range}
use Rattle.tidy_code.proofs.put_tidied.Goals as goal

pub put_component-requires : goal.put_component-requires
put_component-requires c =
    let a = c.args in
    let l = c.read_meant.new.list in
    let m = meant_list _ l _ c.read_meant.ensures c.if-read_meant.true in (
      omega (arith, c.read_meant.auto.list, c.requires.0),
      is_range l (meant_listed a.sender a.mode a.s.now l m).range,
      omega (arith, meant_few a.sender a.mode a.s.now l m, c.requires.1),
    )

pub returns-then-read_meant : goal.returns-then-read_meant
returns-then-read_meant c =
    let w = c.put_component in
    let a = c.args in
    put-code a.sender a.mode a.s.now c.read_meant.new.list c.read_meant.result c.read_meant.ensures a.out.now
    w.new.out a.at w.result c.if-read_meant.true w.ensures

pub returns : goal.returns
returns c =
    let k = c.copy in
    let a = c.args in
    put_kept a.sender a.mode a.s.now c.read_meant.new.list c.read_meant.result c.read_meant.ensures a.out.now k.new.store
    a.at c.if-read_meant.false k.ensures
