-- One law for each kind of item (`size_full` to `size_run`); items of numbers in range are short, so the sums fit (`gr_few`, `pair_few`).
use Prim.Native.Nat.{◌+◌, ◌-◌, ◌/◌}
use mathlib.Core.Path.{sym, ◌∙◌}
use native.Mathlib.Omega.{arith}
use Rattle.code_write.specs.laws.Item.{small_single, small_twin, small_run, size_full, size_single, size_twin, size_run, gr_few, pair_few}
use Rattle.code_write.proofs.put.item_size.Goals as goal

pub gr_size-requires : goal.gr_size-requires
gr_size-requires c =
    (c.requires.1, omega (arith, small_single c.args.it _ c.in-Single.is c.requires.2))

pub overflow_add-a : goal.overflow_add-a
overflow_add-a c =
    let w = small_twin c.args.it _ _ c.in-Twin.is c.requires.2 in omega (arith, w.0, w.1)

pub gr_size-requires-in-Twin : goal.gr_size-requires-in-Twin
gr_size-requires-in-Twin c =
    let w = small_twin c.args.it _ _ c.in-Twin.is c.requires.2 in (c.requires.1, omega (arith, w.0, w.1))

pub overflow_add-a-in-Twin : goal.overflow_add-a-in-Twin
overflow_add-a-in-Twin c =
    let w = small_twin c.args.it _ _ c.in-Twin.is c.requires.2 in omega (arith, w.0, w.1)

pub overflow_add-result : goal.overflow_add-result
overflow_add-result c =
    let w = small_twin c.args.it _ _ c.in-Twin.is c.requires.2 in
    omega (
      arith,
      c.gr_size-in-Twin.ensures,
      c.bit_size.ensures,
      pair_few _ _ w.0 w.1,
      gr_few c.args.krp (c.in-Twin.a + c.in-Twin.b) c.requires.1,
    )

pub overflow_sub-v : goal.overflow_sub-v
overflow_sub-v c = (small_run c.args.it _ _ c.in-Run.is c.requires.2).0

pub gr_size-requires-in-Run : goal.gr_size-requires-in-Run
gr_size-requires-in-Run c =
    let w = small_run c.args.it _ _ c.in-Run.is c.requires.2 in (c.requires.1, omega (arith, w.1))

pub overflow_add-result-in-Run-2 : goal.overflow_add-result-in-Run-2
overflow_add-result-in-Run-2 c =
    let w = small_run c.args.it _ _ c.in-Run.is c.requires.2 in
    omega (arith, w.1, c.gr_size-in-Run.ensures, gr_few c.args.krp ((c.in-Run.v - 1) / 2) c.requires.1, c.requires.0)

pub returns-in-Full : goal.returns-in-Full
returns-in-Full c = sym (size_full c.args.kp c.args.krp c.args.it c.in-Full.is)

pub returns-in-Single : goal.returns-in-Single
returns-in-Single c =
    c.gr_size.ensures ∙ sym (size_single c.args.kp c.args.krp c.args.it _ c.in-Single.is)

pub returns-in-Twin : goal.returns-in-Twin
returns-in-Twin c =
    omega (arith, c.gr_size-in-Twin.ensures, c.bit_size.ensures, size_twin c.args.kp c.args.krp c.args.it _ _ c.in-Twin.is)

pub returns-in-Run : goal.returns-in-Run
returns-in-Run c =
    omega (arith, c.gr_size-in-Run.ensures, size_run c.args.kp c.args.krp c.args.it _ _ c.in-Run.is)
