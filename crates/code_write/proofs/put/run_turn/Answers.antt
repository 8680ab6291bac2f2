-- The zeros counted reach the run's or the list's end: a full run (`next_full`, `onward_full`); else a value stands behind them (`next_run`, `onward_run`).
use Prim.Native.Nat.{◌+◌, ◌*◌, ◌/◌, ◌%◌, ◌^◌, ◌≤◌, ◌<◌, min}
use mathlib.Core.Path.{◌≡◌, refl}
use mathlib.Core.List.{map}
use native.Mathlib.Omega.{arith}
use lib.ListN.{length, length-map}
use lib.Pow.{pow_mono}
use Rattle.bits.specs.laws.Gr.{shift_one}
use Rattle.code.specs.Fold.{fold_z}
use Rattle.code_write.specs.laws.Item.{is-full, is_run}
use Rattle.code_write.specs.laws.Writing.{room_of, next_full, next_run, next_some, onward_full, onward_run}
use Rattle.code_write.proofs.put.run_turn.Goals as goal

pub zeros_from-z-requires : goal.zeros_from-z-requires
zeros_from-z-requires c = let w = c.requires.0 in (w.few, w.range, omega (arith, w.there))

pub overflow_add-i : goal.overflow_add-i
overflow_add-i c =
    let w = c.requires.0 in
    let f : 2 ^ (c.args.s.kp / 8) ≤ 1024 = pow_mono {j = 10} (omega (arith, w.kps)) in
    omega (arith, w.there, w.few, f, shift_one (c.args.s.kp / 8) (omega (arith, w.kps)), c.zeros_from-z.ensures)

pub put-requires : goal.put-requires
put-requires c =
    let a = c.args in
    let w = c.requires.0 in
    let l = map fold_z a.xs.now in
    let q = shift_one (a.s.kp / 8) (omega (arith, w.kps)) in
    let z = c.zeros_from-z in
    let r = c.clipped in
    let e = next_full l a.s a.rlgr3 c.requires.1 _ z.result r.result q z.ensures (rw (length-map a.xs.now fold_z) r.ensures)
    c.if-clipped-i.true in
    (room_of a.rlgr3 a.xs.now _ a.s w _ e _ (is-full a.s.kp a.s.krp _ refl) 1 refl, omega arith, omega arith)

pub overflow_add-result : goal.overflow_add-result
overflow_add-result c =
    let w = c.requires.0 in
    let f : 2 ^ (c.args.s.kp / 8) ≤ 1024 = pow_mono {j = 10} (omega (arith, w.kps)) in
    omega (arith, w.there, w.few, f, shift_one (c.args.s.kp / 8) (omega (arith, w.kps)))

pub returns-then-clipped-i : goal.returns-then-clipped-i
returns-then-clipped-i c =
    let a = c.args in
    let w = c.requires.0 in
    let l = map fold_z a.xs.now in
    let q = shift_one (a.s.kp / 8) (omega (arith, w.kps)) in
    let z = c.zeros_from-z in
    let r = c.clipped in
    let e = next_full l a.s a.rlgr3 c.requires.1 _ z.result r.result q z.ensures (rw (length-map a.xs.now fold_z) r.ensures)
    c.if-clipped-i.true in
    onward_full a.rlgr3 l a.out.now a.s _ _ e c.put.ensures (rw q) c.more.ensures refl

pub overflow_add-i-2 : goal.overflow_add-i-2
overflow_add-i-2 c =
    let w = c.requires.0 in
    omega (arith, w.few, c.clipped.ensures, c.if-clipped-i.false)

pub folded_at-v-requires : goal.folded_at-v-requires
folded_at-v-requires c = let w = c.requires.0 in (omega (arith, c.clipped.ensures, c.if-clipped-i.false), w.range)

pub put_run-requires : goal.put_run-requires
put_run-requires c =
    let a = c.args in
    let w = c.requires.0 in
    let l = map fold_z a.xs.now in
    let z = c.zeros_from-z in
    let v = c.folded_at-v in
    let q = shift_one (a.s.kp / 8) (omega (arith, w.kps)) in
    let r = c.clipped in
    let n : r.result ≡ min (length l) (a.s.i + 1 * 2 ^ (a.s.kp / 8) % 2 ^ 64) = rw (length-map a.xs.now fold_z) r.ensures in
    let h : a.s.i + z.result < r.result = omega (arith, c.if-clipped-i.false) in
    let e = next_run l a.s a.rlgr3 c.requires.1 _ z.result r.result q z.ensures n h v.result v.ensures in (
      room_of a.rlgr3 a.xs.now _ a.s w _ e _ (is_run a.s.kp a.s.krp _ z.result v.result refl) _ refl,
      w.kps,
      w.krs,
      omega (arith, q, r.ensures, c.if-clipped-i.false),
      next_some l a.s a.rlgr3 c.requires.1 _ z.result r.result q z.ensures n h v.result v.ensures,
    )

pub overflow_add-result-2 : goal.overflow_add-result-2
overflow_add-result-2 c =
    let w = c.requires.0 in
    omega (arith, w.few, c.clipped.ensures, c.if-clipped-i.false)

pub overflow_add-result-3 : goal.overflow_add-result-3
overflow_add-result-3 c =
    let w = c.requires.0 in
    omega (arith, w.few, c.clipped.ensures, c.if-clipped-i.false)

pub overflow_sub-v : goal.overflow_sub-v
overflow_sub-v c =
    let a = c.args in
    let w = c.requires.0 in
    let l = map fold_z a.xs.now in
    let z = c.zeros_from-z in
    let v = c.folded_at-v in
    let q = shift_one (a.s.kp / 8) (omega (arith, w.kps)) in
    let r = c.clipped in
    let n : r.result ≡ min (length l) (a.s.i + 1 * 2 ^ (a.s.kp / 8) % 2 ^ 64) = rw (length-map a.xs.now fold_z) r.ensures in
    next_some l a.s a.rlgr3 c.requires.1 _ z.result r.result q z.ensures n
    (omega (arith, c.if-clipped-i.false)) v.result v.ensures

pub returns : goal.returns
returns c =
    let a = c.args in
    let w = c.requires.0 in
    let l = map fold_z a.xs.now in
    let z = c.zeros_from-z in
    let v = c.folded_at-v in
    let q = shift_one (a.s.kp / 8) (omega (arith, w.kps)) in
    let r = c.clipped in
    let n : r.result ≡ min (length l) (a.s.i + 1 * 2 ^ (a.s.kp / 8) % 2 ^ 64) = rw (length-map a.xs.now fold_z) r.ensures in
    let h : a.s.i + z.result < r.result = omega (arith, c.if-clipped-i.false) in
    let e = next_run l a.s a.rlgr3 c.requires.1 _ z.result r.result q z.ensures n h v.result v.ensures in
    onward_run a.rlgr3 l a.out.now a.s _ _ z.result v.result e
    c.put_run.ensures (omega arith) c.less.ensures c.kr_after.ensures
