-- `load` meets its contract. The loop keeps `Loaded`: the rows before it hold their samples. Assumes nothing.
use Prim.Native.Nat.{ℕ, ◌*◌}
use mathlib.Core.Path.{◌≡◌, ◌∙◌, sym, subst}
use native.Mathlib.Omega.{arith}
use Rattle.tile_forth.specs.TileForth.{sample_at}
use Rattle.tile_forth.specs.laws.TileForth.{Loaded, loaded_none, loaded_list, loaded_near}
use Rattle.tile_forth.proofs.load.Goals as goal

pub loop-j-init : goal.loop-j-init
loop-j-init c = loaded_none _ _ c.requires.7

pub load_row-requires : goal.load_row-requires
load_row-requires c =
    let loop = c.loop-j in
    let p = c.requires in
    record { le_w = (p.0, p.1, p.2, p.3, p.4, p.5, p.6); j_bound = (c.loop-j-test.true, loop.invariant) }

pub loop-j-preserved : goal.loop-j-preserved
loop-j-preserved c =
    let loop-test = c.loop-j-test in
    c.load_row.ensures

pub shape_of-work : goal.shape_of-work
shape_of-work c =
    let pre = c.requires in
    c.loop-j.invariant.len ∙ sym pre.7

pub returns : goal.returns
returns c =
    let a = c.args in
    let l = c.loop-j in
    let n : 64 * l.j ≡ 4096 = omega (arith, c.loop-j-test.false) in
    let d = subst (λ (i : ℕ). Loaded (sample_at a.pixels.now a.w a.h a.tx a.ty a.c) i l.work) n l.invariant in
    (loaded_list _ l.work d, loaded_near _ l.work d)
