-- `put_tile` meets its contract: each component of a tile that is not refused has room (`tile_fine`, `tile_long`), and head, codes and lengths make the
-- tile (`tile_stands`). Assumes nothing.
use mathlib.Core.Path.{◌∙◌}
use native.Mathlib.Omega.{arith}
use Rattle.frame_pieces.specs.laws.Parts.{some_cols}
use Rattle.frame_write.specs.laws.Encode.{tile_long}
use Rattle.frame_write.specs.laws.FrameWrite.{still_good}
use Rattle.frame_write.specs.laws.Put.{tile_fine, tile_stands}
use Rattle.frame_write.proofs.put.put_tile.Goals as goal

pub nonzero_rem-k : goal.nonzero_rem-k
nonzero_rem-k c =
    omega (arith, c.cols_of-cols.ensures.0, some_cols c.args.job.width c.requires.0.picture.wide)

pub nonzero_div-k : goal.nonzero_div-k
nonzero_div-k c =
    omega (arith, c.cols_of-cols.ensures.0, some_cols c.args.job.width c.requires.0.picture.wide)

pub put_head-requires : goal.put_head-requires
put_head-requires c =
    let j = c.args.job in
    omega (arith, tile_long c.args.pixels.now j.width j.height j.mode j.quants c.args.k, c.requires.3)

pub put_part-b-requires : goal.put_part-b-requires
put_part-b-requires c =
    let a = c.args in
    let j = c.args.job in
    let f = tile_fine a.pixels.now j.width j.height j.mode j.quants a.k c.requires.2 in
    let t = tile_long a.pixels.now j.width j.height j.mode j.quants a.k in
    (c.requires.0, c.requires.1, f.y, omega (arith, t, c.requires.3, c.put_head.auto.out))

pub put_part-c-requires : goal.put_part-c-requires
put_part-c-requires c =
    let a = c.args in
    let j = c.args.job in
    let f = tile_fine a.pixels.now j.width j.height j.mode j.quants a.k c.requires.2 in
    let t = tile_long a.pixels.now j.width j.height j.mode j.quants a.k in
    let x = c.put_part-b in (
      still_good c.requires.0 x.auto.list x.auto.scratch,
      c.requires.1,
      f.cb,
      omega (arith, t, c.requires.3, c.put_head.auto.out, x.auto.out, x.ensures.1),
    )

pub put_part-e-requires : goal.put_part-e-requires
put_part-e-requires c =
    let a = c.args in
    let j = c.args.job in
    let f = tile_fine a.pixels.now j.width j.height j.mode j.quants a.k c.requires.2 in
    let t = tile_long a.pixels.now j.width j.height j.mode j.quants a.k in
    let x = c.put_part-b in
    let y = c.put_part-c in (
      still_good c.requires.0 (y.auto.list ∙ x.auto.list) (y.auto.scratch ∙ x.auto.scratch),
      c.requires.1,
      f.cr,
      omega (arith, t, c.requires.3, c.put_head.auto.out, x.auto.out, x.ensures.1, y.auto.out, y.ensures.1),
    )

pub fill_tile-requires : goal.fill_tile-requires
fill_tile-requires c =
    let a = c.args in
    let j = c.args.job in
    let t = tile_long a.pixels.now j.width j.height j.mode j.quants a.k in
    omega (arith, t, c.requires.3, c.put_head.auto.out, c.put_part-b.auto.out, c.put_part-c.auto.out, c.put_part-e.auto.out)

pub returns : goal.returns
returns c =
    let i = c.chroma_index-chroma in
    let a = c.args in
    let j = c.args.job in
    let t = tile_long a.pixels.now j.width j.height j.mode j.quants a.k in
    let x = c.put_part-b.ensures in
    let y = c.put_part-c.ensures in
    let z = c.put_part-e.ensures in
    tile_stands a.pixels.now j.width j.height j.mode j.quants a.out.now _ _ _ _ _ a.k c.cols_of-cols.result a.at _ _ _ _
    c.cols_of-cols.ensures.0 i.ensures.0 (omega (arith, t, c.requires.3)) c.put_head.ensures x.0 x.1 y.0 y.1
    z.0 z.1 c.fill_tile.ensures
