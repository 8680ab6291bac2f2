-- `put_part` meets its contract: what is not refused is in range (`part_range`), and the list that was loaded is the definition's. Assumes nothing.
use Prim.Native.Nat.{◌+◌, ◌≤◌}
use mathlib.Core.Path.{◌≡◌, ap, sym, subst, ◌∙◌}
use mathlib.Core.Bool.{true}
use mathlib.Core.List.{List}
use native.Mathlib.Omega.{arith}
use lib.IntN.{ℤ}
use lib.ListN.{length}
use Rattle.wire.specs.Le.{patch}
use Rattle.code_write.specs.Write.{bytes_of, all_in_range}
use Rattle.quants.specs.Quants.{quant_for}
use Rattle.frame_write.specs.Encode.{tile_part}
use Rattle.frame_write.specs.Job.{list_in}
use Rattle.frame_write.specs.laws.Encode.{part_range}
use Rattle.frame_write.proofs.put.put_part.Goals as goal

pub put_component-requires : goal.put_component-requires
unfolding tile_part
put_component-requires c =
    let a = c.args in
    let j = c.args.job in
    let e = sym c.load_part.ensures in (
      omega (arith, c.load_part.auto.list, c.requires.0.first),
      subst (λ (l : List ℤ). all_in_range l ≡ true) e
          (part_range j.mode (quant_for j.quants a.c).v (list_in j a.pixels.now a.k a.c) c.requires.2),
      subst (λ (l : List ℤ). a.at + length (bytes_of j.mode l) ≤ length a.out.now) e c.requires.3,
    )

pub returns : goal.returns
unfolding tile_part
returns c =
    let a = c.args in
    let j = c.args.job in
    let e = c.load_part.ensures in
    let p = c.put_component.ensures in (
      p.0 ∙ ap (λ (l : List ℤ). patch a.out.now a.at (bytes_of j.mode l)) e,
      p.1 ∙ ap (λ (l : List ℤ). a.at + length (bytes_of j.mode l)) e,
    )
