-- The list's code from a clean pen (`put_ready`), then the last byte (`finish_ready`): a patch of the component's bytes (`put_closed`).
use native.Mathlib.Omega.{arith}
use borrow.Author.Rules.{rules}
use Rattle.code_write.specs.laws.Write.{range_folded, put_ready, finish_ready, put-end, put_closed}
use Rattle.code_write.proofs.call.put_component.Goals as goal

pub put_list-q-requires : goal.put_list-q-requires
put_list-q-requires c = (
  put_ready c.args.mode c.args.list.now c.args.out.now c.args.at c.requires.2,
  c.requires.0,
  range_folded c.args.list.now c.requires.1,
)

pub overflow_add-end-2 : goal.overflow_add-end-2
overflow_add-end-2 c =
    omega (
      arith,
      put-end c.args.mode c.args.list.now c.args.out.now c.args.at c.requires.2 c.put_list-q.new.out c.put_list-q.result
          c.put_list-q.ensures,
      c.requires.2,
    )

pub finish-requires : goal.finish-requires
finish-requires c =
    finish_ready c.args.mode c.args.list.now c.args.out.now c.args.at c.requires.2 c.put_list-q.new.out c.put_list-q.result
    c.put_list-q.ensures

pub returns : goal.returns
returns c =
    let a = c.args in
    let p = c.put_list-q in
    let f = c.finish in (
      put_closed a.mode a.list.now a.out.now a.at c.requires.2 p.new.out p.result p.ensures f.new.out f.result f.ensures
          (λ i. search rules) (λ i. omega (arith, c.type_inv.out i)),
      put-end a.mode a.list.now a.out.now a.at c.requires.2 p.new.out p.result p.ensures,
    )
