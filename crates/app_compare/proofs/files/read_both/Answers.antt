-- Bad or of different sizes, nothing is counted (`both_bad`, `both_size`); else all rows are (`both_tiles`).
use mathlib.Core.Path.{◌≡◌}
use Prim.Native.Nat.{ℕ}
use Rattle.tile_diff.specs.declared.pic.Verdict.TheVariants.{Bad, Size}
use Rattle.app_compare.specs.laws.Files.{tiles_sized, both_bad, both_size, both_tiles, seen_sized}
use native.Mathlib.Omega.{arith}
use Rattle.app_compare.proofs.files.read_both.Goals as goal

pub count_through-good-requires : goal.count_through-good-requires
count_through-good-requires c =
    (tiles_sized _ _ _ c.judge-v.ensures c.in-Tiles.is).wider

pub returns-in-Bad : goal.returns-in-Bad
returns-in-Bad c =
    let e = c.judge-v.ensures in
    let la = c.look-p.ensures in
    let lb = c.look-q.ensures in
    let t = c.in-Bad.is in
    let s = c.as_seen.ensures in
    (both_bad _ _ _ _ _ e la lb _ _ t s, seen_sized _ _ _ _ _ e la lb Bad _ (λ z. let n : ◌≡◌ {A = ℕ} 0 1 = cc in absurd (omega arith)) s)

pub returns-in-Size : goal.returns-in-Size
returns-in-Size c =
    let e = c.judge-v.ensures in
    let la = c.look-p.ensures in
    let lb = c.look-q.ensures in
    let t = c.in-Size.is in
    let s = c.as_seen-in-Size.ensures in
    (both_size _ _ _ _ _ e la lb _ _ t s, seen_sized _ _ _ _ _ e la lb Size _ (λ z. let n : ◌≡◌ {A = ℕ} 0 1 = cc in absurd (omega arith)) s)

pub returns-in-Tiles : goal.returns-in-Tiles
returns-in-Tiles c =
    let e = c.judge-v.ensures in
    let la = c.look-p.ensures in
    let lb = c.look-q.ensures in
    let t = c.in-Tiles.is in
    let s = c.as_seen-in-Tiles.ensures in (
      both_tiles _ _ _ _ _ e la lb _ _ _ _ _ t c.count_through-good.ensures c.verdict_of.ensures s,
      seen_sized _ _ _ _ _ e la lb _ _ (λ z. t) s,
    )
