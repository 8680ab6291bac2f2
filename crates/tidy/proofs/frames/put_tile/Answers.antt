-- Each code has room, as none is longer than it came (`codes_room`, `coded`); codes and head make the tile (`tile-put`).
use mathlib.Core.Path.{ap, ◌∙◌}
use native.Mathlib.Omega.{arith}
use lib.ListN.{length}
use Rattle.frame_layout.specs.Reader.{tile_at}
use Rattle.frame_blocks.specs.Tiles.{code_part}
use Rattle.tidy.specs.laws.Put.{coded, codes_room, tile-put}
use Rattle.tidy.proofs.frames.put_tile.Goals as goal

pub put_code-y-requires : goal.put_code-y-requires
unfolding code_part
put_code-y-requires c =
    let a = c.args in
    let r = codes_room a.d.now a.at c.requires.1 in
    (c.requires.0, omega (arith, r, c.requires.2, ap length c.code_part-ys.ensures))

pub put_code-cb-requires : goal.put_code-cb-requires
unfolding code_part
put_code-cb-requires c =
    let r = codes_room _ _ c.requires.1 in
    let y = coded c.args.sender c.args.mode c.code_part-ys.ensures c.put_code-y.ensures c.put_code-y.auto.out in
    (c.put_code-y.auto.list ∙ c.requires.0, omega (arith, r, c.requires.2, y, ap length c.code_part-cbs.ensures))

pub put_code-cr-requires : goal.put_code-cr-requires
unfolding code_part
put_code-cr-requires c =
    let r = codes_room _ _ c.requires.1 in
    let y = coded c.args.sender c.args.mode c.code_part-ys.ensures c.put_code-y.ensures c.put_code-y.auto.out in
    let cb = coded c.args.sender c.args.mode c.code_part-cbs.ensures c.put_code-cb.ensures c.put_code-cb.auto.out in (
      c.put_code-cb.auto.list ∙ (c.put_code-y.auto.list ∙ c.requires.0),
      omega (arith, r, c.requires.2, y, cb, ap length c.code_part-crs.ensures),
    )

pub put_head-requires : goal.put_head-requires
unfolding code_part
put_head-requires c =
    let r = codes_room _ _ c.requires.1 in
    let y = coded c.args.sender c.args.mode c.code_part-ys.ensures c.put_code-y.ensures c.put_code-y.auto.out in
    let cb = coded c.args.sender c.args.mode c.code_part-cbs.ensures c.put_code-cb.ensures c.put_code-cb.auto.out in
    let cr = coded c.args.sender c.args.mode c.code_part-crs.ensures c.put_code-cr.ensures c.put_code-cr.auto.out in
    (omega (arith, r, c.requires.1.there), omega (arith, r, c.requires.2, y, cb, cr))

pub overflow_add-result : goal.overflow_add-result
overflow_add-result c =
    let y = coded c.args.sender c.args.mode c.code_part-ys.ensures c.put_code-y.ensures c.put_code-y.auto.out in
    let cb = coded c.args.sender c.args.mode c.code_part-cbs.ensures c.put_code-cb.ensures c.put_code-cb.auto.out in
    omega (arith, y, cb)

pub overflow_add-result-2 : goal.overflow_add-result-2
overflow_add-result-2 c =
    let y = coded c.args.sender c.args.mode c.code_part-ys.ensures c.put_code-y.ensures c.put_code-y.auto.out in
    let cb = coded c.args.sender c.args.mode c.code_part-cbs.ensures c.put_code-cb.ensures c.put_code-cb.auto.out in
    let cr = coded c.args.sender c.args.mode c.code_part-crs.ensures c.put_code-cr.ensures c.put_code-cr.auto.out in
    omega (arith, y, cb, cr)

pub shape_of-list : goal.shape_of-list
shape_of-list c =
    c.put_code-cr.auto.list ∙ (c.put_code-cb.auto.list ∙ c.put_code-y.auto.list)

pub shape_of-out : goal.shape_of-out
shape_of-out c =
    c.put_head.auto.out ∙ (c.put_code-cr.auto.out ∙ (c.put_code-cb.auto.out ∙ c.put_code-y.auto.out))

pub returns : goal.returns
returns c =
    let a = c.args in
    let r = codes_room a.d.now a.at c.requires.1 in
    tile-put a.sender a.mode (tile_at a.d.now a.at) a.out.now _ _ _ _ a.to c.put_code-y.result c.put_code-cb.result c.put_code-cr.result
    _ _ _ c.code_part-ys.ensures c.code_part-cbs.ensures c.code_part-crs.ensures (omega (arith, r, c.requires.2))
    c.put_code-y.ensures c.put_code-cb.ensures c.put_code-cr.ensures
    c.put_head.ensures
