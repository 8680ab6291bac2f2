-- `load_part` meets its contract: the tile lies in the picture (`place_good`), in the column and row of the definition. Assumes nothing.
use Prim.Native.Nat.{ℕ, ◌*◌, ◌/◌, ◌%◌, ◌<◌}
use mathlib.Core.Path.{ap₂, sym, subst, ◌∙◌}
use native.Mathlib.Omega.{arith}
use Rattle.bands.specs.Bands.{QuantGood}
use Rattle.bands.specs.declared.Quant.{Quant}
use Rattle.frame_pieces.specs.laws.Parts.{some_cols}
use Rattle.tile_forth.specs.TileForth.{rounded_of}
use Rattle.frame_write.specs.Encode.{list_of}
use Rattle.frame_write.specs.laws.Encode.{place_good, for_good}
use Rattle.frame_write.proofs.size.load_part.Goals as goal

pub nonzero_rem-k : goal.nonzero_rem-k
nonzero_rem-k c =
    omega (arith, c.cols_of-cols.ensures.0, some_cols c.args.job.width c.requires.0.picture.wide)

pub nonzero_div-k : goal.nonzero_div-k
nonzero_div-k c =
    omega (arith, c.cols_of-cols.ensures.0, some_cols c.args.job.width c.requires.0.picture.wide)

pub load_component-requires : goal.load_component-requires
load_component-requires c =
    let a = c.args in
    let j = c.args.job in
    let g = c.requires.0.picture in
    let t = place_good j.width j.height a.k g.wide c.requires.1 in
    let e = sym c.cols_of-cols.ensures.0 in record {
      le_w = (
        g.wide,
        g.wider,
        g.high,
        g.higher,
        sym g.pixels,
        subst (λ (n : ℕ). 64 * (a.k % n) < j.width) e t.0,
        subst (λ (n : ℕ). 64 * (a.k / n) < j.height) e t.1,
      );
      work_len = (
        c.requires.0.first,
        c.requires.0.second,
        subst (λ (q : Quant). QuantGood q.v) (sym c.quant_for-q.ensures) (for_good j.quants a.c g.luma g.chroma),
      );
    }

pub returns : goal.returns
unfolding list_of
returns c =
    let a = c.args in
    let j = c.args.job in
    c.load_component.ensures ∙
    ap₂ (λ (q : Quant) (n : ℕ). rounded_of a.pixels.now j.width j.height q.v (a.k % n) (a.k / n) a.c)
    c.quant_for-q.ensures c.cols_of-cols.ensures.0
