-- `quants::put_set` meets its contract: three patches, each right behind the one before, are the five bytes. Assumes nothing.
use mathlib.Core.Path.{◌≡◌, refl, sym, ap, ◌∙◌}
use native.Mathlib.Omega.{arith}
use borrow.Author.Rules.{rules}
use lib.ListN.{length}
use Rattle.wire.specs.Le.{patch}
use Rattle.wire.specs.laws.Le.{patch_next}
use Rattle.quants.specs.laws.Quants.{set_bytes}
use Rattle.quants.proofs.put_set.Goals as goal
use Rattle.quants.proofs.put_set.Goals.{Start}

ten : (s : Start) → length s.args.q.v ≡ 10
ten s = search rules

pub returns : goal.returns
returns c =
    let q = c.args.q.v in
    let l = ten (goal.at.returns c).Start in
    let w = patch_next _ _ _ _ _ _ _ c.put_two8.ensures c.put_two8-2.ensures refl (omega arith) in
    patch_next _ _ _ _ _ _ _ w c.put8_at.ensures refl (omega arith)
    ∙ (rw (
      c.pack.ensures,
      c.pack-2.ensures,
      c.pack-3.ensures,
      c.pack-4.ensures,
      c.pack-5.ensures,
    )
    (ap (patch c.args.out.now c.args.at) (sym (set_bytes q l))))
