-- `code::read::quick_run` meets its contract: the runs alone where the word is all zeros or the list is full, and else the value behind them too (`Led`).
-- Assumes nothing.
use mathlib.Core.Path.{sym, refl}
use native.Mathlib.Omega.{arith}
use lib.ListN.{length}
use Rattle.bits.specs.laws.Word.{zeros_few}
use Rattle.code.specs.laws.Quick.{leap_state, led_by, led_some, led_full, led_value, led_not}
use Rattle.code.proofs.read.quick_run.Goals as goal

pub full_runs-j-requires : goal.full_runs-j-requires
full_runs-j-requires c =
    let w = c.requires.0 in
    (w.places, omega (arith, w.room), w.kps, w.place, zeros_few _ _ c.zeros_in-m.ensures)

pub returns-then-m-ge57 : goal.returns-then-m-ge57
returns-then-m-ge57 c rlgr3 B word =
    let a = c.args in
    let l = led_by B a.c a.list.now a.i a.w _ _ c.requires c.zeros_in-m.ensures c.full_runs-j.ensures word in
    led_some B a.c a.list.now a.i a.w _ _ _ l (omega (arith, c.if-m-ge57.true)) a.list.now refl rlgr3

pub returns-then-n-j : goal.returns-then-n-j
returns-then-n-j c rlgr3 B word =
    let a = c.args in
    let l = led_by B a.c a.list.now a.i a.w _ _ c.requires c.zeros_in-m.ensures c.full_runs-j.ensures word in
    led_full B a.c a.list.now a.i a.w _ _ _ l c.if-n-j.true rlgr3

pub quick_value-requires : goal.quick_value-requires
quick_value-requires c =
    let a = c.args in
    let p = c.requires.0 in
    let h = leap_state _ (length a.list.now) a.i a.c _ _ (sym c.full_runs-j.ensures) c.requires.1 p.kps p.krs in
    record {
      zeros = c.zeros_in-m.ensures;
      inside = omega (arith, c.if-m-ge57.false);
      place = p.place;
      high = h.0;
      kps = h.1;
      krs = h.2;
      places = p.places;
      room = omega (arith, c.if-n-j.false);
    }

pub returns-then-m-eq0 : goal.returns-then-m-eq0
returns-then-m-eq0 c rlgr3 B word _ =
    let a = c.args in
    let l = led_by B a.c a.list.now a.i a.w _ _ c.requires c.zeros_in-m.ensures c.full_runs-j.ensures word in
    led_not B a.c a.list.now a.i a.w _ _ _ l (omega (arith, c.if-m-ge57.false)) _ _ c.quick_value.ensures c.in-None.is

pub returns-in-Some : goal.returns-in-Some
returns-in-Some c rlgr3 B word =
    let a = c.args in
    let l = led_by B a.c a.list.now a.i a.w _ _ c.requires c.zeros_in-m.ensures c.full_runs-j.ensures word in
    led_value B a.c a.list.now a.i a.w _ _ _ l (omega (arith, c.if-m-ge57.false)) _ _ c.quick_value.ensures (omega (arith, c.if-n-j.false))
    _ _ c.in-Some.is rlgr3

pub returns-else-m-eq0 : goal.returns-else-m-eq0
returns-else-m-eq0 c rlgr3 B word =
    let a = c.args in
    let l = led_by B a.c a.list.now a.i a.w _ _ c.requires c.zeros_in-m.ensures c.full_runs-j.ensures word in
    led_some B a.c a.list.now a.i a.w _ _ _ l (omega (arith, c.if-m-eq0.false)) _
    (led_not B a.c a.list.now a.i a.w _ _ _ l (omega (arith, c.if-m-ge57.false)) _ _ c.quick_value.ensures c.in-None.is) rlgr3
