-- `read_code` meets its contract. The loop keeps `Going`: what is read and stored so far is the walk of the definition. Assumes nothing.
use mathlib.Core.Path.{refl, sym, ap, ◌∙◌}
use Rattle.std.specs.Prelude.{Ok}
use native.Mathlib.Omega.{arith}
use lib.ListN.{length-set}
use Rattle.bits.specs.Bits.{bits_of}
use Rattle.code.specs.laws.Place.{same_bits, fine_one, fine_two}
use Rattle.code.specs.laws.Filling.{filling_fine, filling_end, turn_bad}
use Rattle.code.specs.laws.Read.{code_bad, code_done, code_tail}
use Rattle.plain_code.specs.laws.Turn.{going_start, going_zeros, going_one, going_lone, going_two}
use Rattle.plain_code.proofs.read_code.Goals as goal
use Rattle.plain_code.proofs.read_code.Goals.{then-i-lt4095, else-i-lt4095}

pub loop-i-init : goal.loop-i-init
loop-i-init c =
    let args = c.args in
    let pre = c.requires in
    going_start args.rlgr3 args.s.now args.list.now _ pre.1 pre.2 c.state-c.ensures

pub element-requires : goal.element-requires
element-requires c =
    let loop = c.loop-i in
    let pre = c.requires in
    (pre.0, omega (arith, loop.invariant.place), loop.invariant.fill.kps, loop.invariant.fill.krs)

pub shape_of-list-in-Err : goal.shape_of-list-in-Err
shape_of-list-in-Err c =
    let loop = c.loop-i in
    let pre = c.requires in
    loop.invariant.fill.clear.len ∙ sym pre.1

pub returns-in-Err : goal.returns-in-Err
returns-in-Err c =
    let a = c.args in
    let l = c.loop-i in
    code_bad a.rlgr3 a.s.now l.list _
    (turn_bad a.rlgr3 4096 (bits_of a.s.now) l.list l.list l.c l.i l.invariant.fill c.loop-i-test.true _ (sym c.in-Err.is ∙ c.element.ensures))
    _ refl

pub onward-i-requires : goal.onward-i-requires
onward-i-requires c =
    let loop-test = c.loop-i-test in
    omega (arith, loop-test.true)

pub loop-i-smaller-in-Ok-Zeros : goal.loop-i-smaller-in-Ok-Zeros
loop-i-smaller-in-Ok-Zeros c =
    let element = c.element in
    let loop-test = c.loop-i-test in
    let loop = c.loop-i in
    let args = c.args in
    omega (
      arith,
      (going_zeros args.rlgr3 args.s.now loop.list loop.c loop.i loop.invariant loop-test.true _ _ _
          (ap Ok (sym c.in-Ok-Zeros.field-0-is) ∙ sym c.in-Ok-Zeros.is ∙ element.ensures) c.onward-i.ensures).1,
      loop-test.true,
      c.onward-i.ensures,
    )

pub loop-i-preserved-in-Ok-Zeros : goal.loop-i-preserved-in-Ok-Zeros
loop-i-preserved-in-Ok-Zeros c =
    let element = c.element in
    let loop-test = c.loop-i-test in
    let loop = c.loop-i in
    let args = c.args in
    (going_zeros args.rlgr3 args.s.now loop.list loop.c loop.i loop.invariant loop-test.true _ _ _
    (ap Ok (sym c.in-Ok-Zeros.field-0-is) ∙ sym c.in-Ok-Zeros.is ∙ element.ensures) c.onward-i.ensures).0

pub unfolded-requires : goal.unfolded-requires
unfolded-requires c =
    let element = c.element in
    let loop-test = c.loop-i-test in
    let loop = c.loop-i in
    let args = c.args in
    (fine_one _ _ _ _ _ _ c.in-Ok-One.field-0-is (filling_fine args.rlgr3 4096 (bits_of args.s.now) loop.list loop.c loop.i
    loop.invariant.fill loop-test.true _ (sym c.in-Ok-One.is ∙ element.ensures))).1

pub overflow_add-i : goal.overflow_add-i
overflow_add-i c =
    let element = c.element in
    let loop-test = c.loop-i-test in
    let loop = c.loop-i in
    let args = c.args in
    omega (
      arith,
      (fine_one _ _ _ _ _ _ c.in-Ok-One.field-0-is (filling_fine args.rlgr3 4096 (bits_of args.s.now) loop.list loop.c loop.i
          loop.invariant.fill loop-test.true _ (sym c.in-Ok-One.is ∙ element.ensures))).0,
      loop.invariant.fill.clear.len,
      loop-test.true,
    )

pub offset_bounds-list-i : goal.offset_bounds-list-i
offset_bounds-list-i c =
    let element = c.element in
    let loop-test = c.loop-i-test in
    let loop = c.loop-i in
    let args = c.args in
    omega (
      arith,
      (fine_one _ _ _ _ _ _ c.in-Ok-One.field-0-is (filling_fine args.rlgr3 4096 (bits_of args.s.now) loop.list loop.c loop.i
          loop.invariant.fill loop-test.true _ (sym c.in-Ok-One.is ∙ element.ensures))).0,
      loop.invariant.fill.clear.len,
      loop-test.true,
    )

pub bounds-list-i : goal.bounds-list-i
bounds-list-i c =
    let element = c.element in
    let loop-test = c.loop-i-test in
    let loop = c.loop-i in
    let args = c.args in
    omega (
      arith,
      (fine_one _ _ _ _ _ _ c.in-Ok-One.field-0-is (filling_fine args.rlgr3 4096 (bits_of args.s.now) loop.list loop.c loop.i
          loop.invariant.fill loop-test.true _ (sym c.in-Ok-One.is ∙ element.ensures))).0,
      loop.invariant.fill.clear.len,
      loop-test.true,
    )

pub overflow_add-i-in-Ok-One : goal.overflow_add-i-in-Ok-One
overflow_add-i-in-Ok-One c =
    let element = c.element in
    let loop-test = c.loop-i-test in
    let loop = c.loop-i in
    let args = c.args in
    omega (
      arith,
      (fine_one _ _ _ _ _ _ c.in-Ok-One.field-0-is (filling_fine args.rlgr3 4096 (bits_of args.s.now) loop.list loop.c loop.i
          loop.invariant.fill loop-test.true _ (sym c.in-Ok-One.is ∙ element.ensures))).0,
      loop.invariant.fill.clear.len,
      loop-test.true,
    )

pub overflow_add-i-in-Ok-One-2 : goal.overflow_add-i-in-Ok-One-2
overflow_add-i-in-Ok-One-2 c =
    let element = c.element in
    let loop-test = c.loop-i-test in
    let loop = c.loop-i in
    let args = c.args in
    omega (
      arith,
      (fine_one _ _ _ _ _ _ c.in-Ok-One.field-0-is (filling_fine args.rlgr3 4096 (bits_of args.s.now) loop.list loop.c loop.i
          loop.invariant.fill loop-test.true _ (sym c.in-Ok-One.is ∙ element.ensures))).0,
      loop.invariant.fill.clear.len,
      loop-test.true,
    )

pub loop-i-smaller-in-Ok-One : goal.loop-i-smaller-in-Ok-One
loop-i-smaller-in-Ok-One c =
    let element = c.element in
    let loop-test = c.loop-i-test in
    let loop = c.loop-i in
    let args = c.args in
    omega (
      arith,
      (fine_one _ _ _ _ _ _ c.in-Ok-One.field-0-is (filling_fine args.rlgr3 4096 (bits_of args.s.now) loop.list loop.c loop.i
          loop.invariant.fill loop-test.true _ (sym c.in-Ok-One.is ∙ element.ensures))).0,
      loop-test.true,
    )

pub loop-i-preserved-in-Ok-One : goal.loop-i-preserved-in-Ok-One
loop-i-preserved-in-Ok-One c =
    let element = c.element in
    let loop-test = c.loop-i-test in
    let loop = c.loop-i in
    let args = c.args in
    (going_one args.rlgr3 args.s.now loop.list loop.c loop.i loop.invariant loop-test.true _ _ _ _
    (ap Ok (sym c.in-Ok-One.field-0-is) ∙ sym c.in-Ok-One.is ∙ element.ensures) (same_bits _ _ (record { sfits = c.unfolded.type_inv }) c.unfolded.ensures)).0

pub unfolded-requires-in-Ok-Two : goal.unfolded-requires-in-Ok-Two
unfolded-requires-in-Ok-Two c =
    let element = c.element in
    let loop-test = c.loop-i-test in
    let loop = c.loop-i in
    let args = c.args in
    (fine_two _ _ _ _ _ _ c.in-Ok-Two.field-0-is (filling_fine args.rlgr3 4096 (bits_of args.s.now) loop.list loop.c loop.i
    loop.invariant.fill loop-test.true _ (sym c.in-Ok-Two.is ∙ element.ensures))).0

pub offset_bounds-list-i-in-Ok-Two : goal.offset_bounds-list-i-in-Ok-Two
offset_bounds-list-i-in-Ok-Two c =
    let loop-test = c.loop-i-test in
    let loop = c.loop-i in
    omega (arith, loop.invariant.fill.clear.len, loop-test.true)

pub bounds-list-i-in-Ok-Two : goal.bounds-list-i-in-Ok-Two
bounds-list-i-in-Ok-Two c =
    let loop-test = c.loop-i-test in
    let loop = c.loop-i in
    omega (arith, loop.invariant.fill.clear.len, loop-test.true)

pub unfolded-requires-then-i-lt4095 : goal.unfolded-requires-then-i-lt4095
unfolded-requires-then-i-lt4095 c =
    let element = c.element in
    let loop-test = c.loop-i-test in
    let loop = c.loop-i in
    let args = c.args in
    (fine_two _ _ _ _ _ _ c.in-Ok-Two.field-0-is (filling_fine args.rlgr3 4096 (bits_of args.s.now) loop.list loop.c loop.i
    loop.invariant.fill loop-test.true _ (sym c.in-Ok-Two.is ∙ element.ensures))).1 (omega (arith, c.if-i-lt4095.true))

pub overflow_add-i-then-i-lt4095 : goal.overflow_add-i-then-i-lt4095
overflow_add-i-then-i-lt4095 c =
    let loop-test = c.loop-i-test in
    let loop = c.loop-i in
    omega (arith, loop.invariant.fill.clear.len, loop-test.true)

pub offset_bounds-list-i-then-i-lt4095 : goal.offset_bounds-list-i-then-i-lt4095
offset_bounds-list-i-then-i-lt4095 c =
    let loop-test = c.loop-i-test in
    let loop = c.loop-i in
    omega (arith, loop.invariant.fill.clear.len, loop-test.true)

pub bounds-list-i-then-i-lt4095 : goal.bounds-list-i-then-i-lt4095
bounds-list-i-then-i-lt4095 c =
    let loop = c.loop-i in
    simp length-set (omega (arith, loop.invariant.fill.clear.len, c.if-i-lt4095.true))

pub onward-i-requires-in-Ok-Two : goal.onward-i-requires-in-Ok-Two
onward-i-requires-in-Ok-Two c =
    let loop-test = c.loop-i-test in
    omega (arith, loop-test.true)

pub loop-i-smaller : goal.loop-i-smaller
loop-i-smaller c =
    let loop-test = c.loop-i-test in
    omega (arith, c.onward-i-in-Ok-Two.ensures, loop-test.true)

pub loop-i-preserved : goal.loop-i-preserved
loop-i-preserved c =
    let unfolded2 = c.unfolded-in-Ok-Two in
    let element = c.element in
    let loop-test = c.loop-i-test in
    let loop = c.loop-i in
    let args = c.args in
    elim c.if-i-lt4095.branch [
      | then-i-lt4095 w ↦ rw w.list-is (going_two args.rlgr3 args.s.now loop.list loop.c loop.i loop.invariant loop-test.true _ _ _ _
          (ap Ok (sym c.in-Ok-Two.field-0-is) ∙ sym c.in-Ok-Two.is ∙ element.ensures) c.onward-i-in-Ok-Two.ensures _
          (same_bits _ _ (record { sfits = unfolded2.type_inv }) unfolded2.ensures) _
          (same_bits _ _ (record { sfits = w.unfolded-then-i-lt4095.type_inv }) w.unfolded-then-i-lt4095.ensures) w.if-i-lt4095.true).0
      | else-i-lt4095 w ↦ rw w.list-is (going_lone args.rlgr3 args.s.now loop.list loop.c loop.i loop.invariant loop-test.true _ _ _ _
          (ap Ok (sym c.in-Ok-Two.field-0-is) ∙ sym c.in-Ok-Two.is ∙ element.ensures) c.onward-i-in-Ok-Two.ensures _
          (same_bits _ _ (record { sfits = unfolded2.type_inv }) unfolded2.ensures)
          w.if-i-lt4095.false).0
    ]

pub clean_tail-requires : goal.clean_tail-requires
clean_tail-requires c =
    let pre = c.requires in
    (pre.0, omega (arith, c.loop-i.invariant.place))

pub shape_of-list-then-clean_tail : goal.shape_of-list-then-clean_tail
shape_of-list-then-clean_tail c =
    let loop = c.loop-i in
    let pre = c.requires in
    loop.invariant.fill.clear.len ∙ sym pre.1

pub returns-then-clean_tail : goal.returns-then-clean_tail
returns-then-clean_tail c =
    let loop-test = c.loop-i-test in
    let loop = c.loop-i in
    let args = c.args in
    code_done args.rlgr3 args.s.now loop.list _ (filling_end args.rlgr3 4096 (bits_of args.s.now) loop.list loop.c loop.i
    loop-test.false loop.invariant.fill) _ refl (sym c.clean_tail.ensures ∙ c.if-clean_tail.true)

pub shape_of-list : goal.shape_of-list
shape_of-list c =
    let loop = c.loop-i in
    let pre = c.requires in
    loop.invariant.fill.clear.len ∙ sym pre.1

pub returns : goal.returns
returns c =
    let loop-test = c.loop-i-test in
    let loop = c.loop-i in
    let args = c.args in
    code_tail args.rlgr3 args.s.now loop.list _ (filling_end args.rlgr3 4096 (bits_of args.s.now) loop.list loop.c loop.i
    loop-test.false loop.invariant.fill) _ refl (sym c.clean_tail.ensures ∙ c.if-clean_tail.false)
