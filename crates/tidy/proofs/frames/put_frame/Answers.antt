-- What is read of a laid message (`found`) says where its parts stand; front, tiles and end make the frame (`frame_put`).
use mathlib.Core.Path.{◌∙◌}
use native.Mathlib.Omega.{arith}
use Rattle.tidy.specs.laws.Put.{set_here, found, found_put, frame_put, tiles_shorter}
use Rattle.tidy.proofs.frames.put_frame.Goals as goal

pub le32_at-sp-requires : goal.le32_at-sp-requires
le32_at-sp-requires c = let r = c.requires.1.front.region in omega (arith, r.there, r.size)

pub byte_at-requires : goal.byte_at-requires
byte_at-requires c =
    let g = set_here c.args.m.now c.le32_at-sp.result c.requires.1 c.le32_at-sp.ensures.0 in
    omega (arith, g.1.there, g.1.size)

pub le16_at-n-requires : goal.le16_at-n-requires
le16_at-n-requires c =
    let g = set_here c.args.m.now c.le32_at-sp.result c.requires.1 c.le32_at-sp.ensures.0 in
    omega (arith, g.1.there, g.1.size)

pub tile_data-d-requires : goal.tile_data-d-requires
tile_data-d-requires c =
    (set_here c.args.m.now c.le32_at-sp.result c.requires.1 c.le32_at-sp.ensures.0).1

pub overflow_add-end : goal.overflow_add-end
overflow_add-end c =
    let f = found c.args.m.now _ _ _ _ c.requires.1 c.le32_at-sp.ensures.0 c.byte_at.ensures.0 c.le16_at-n.ensures.0
    c.tile_data-d.ensures in
    omega (arith, f.places.inside, c.well_formed)

pub copy-requires : goal.copy-requires
copy-requires c =
    let f = found c.args.m.now _ _ _ _ c.requires.1 c.le32_at-sp.ensures.0 c.byte_at.ensures.0 c.le16_at-n.ensures.0
    c.tile_data-d.ensures in
    (omega (arith, f.places.inside, c.requires.2), omega (arith, f.places.inside))

pub put_tiles-p-requires : goal.put_tiles-p-requires
put_tiles-p-requires c =
    let f = found c.args.m.now _ _ _ _ c.requires.1 c.le32_at-sp.ensures.0 c.byte_at.ensures.0 c.le16_at-n.ensures.0
    c.tile_data-d.ensures in
    (c.requires.0, f.few, f.whole, omega (arith, f.places.inside, c.requires.2, c.copy.auto.store))

pub close_frame-requires : goal.close_frame-requires
close_frame-requires c =
    let a = c.args in
    let f = found a.m.now _ _ _ _ c.requires.1 c.le32_at-sp.ensures.0 c.byte_at.ensures.0 c.le16_at-n.ensures.0 c.tile_data-d.ensures in
    let t = tiles_shorter a.sender a.mode c.tile_data-d.result.now c.le16_at-n.result 0 (omega arith) f.whole in
    let b = c.put_tiles-p.ensures.behind in
    (omega arith, omega (arith, b), f.places.inside, omega (arith, b, t), omega (arith, c.requires.2, c.copy.auto.store, c.put_tiles-p.auto.out))

pub overflow_sub-result : goal.overflow_sub-result
overflow_sub-result c =
    let f = found c.args.m.now _ _ _ _ c.requires.1 c.le32_at-sp.ensures.0 c.byte_at.ensures.0 c.le16_at-n.ensures.0
    c.tile_data-d.ensures in
    omega (arith, f.places.inside)

pub overflow_add-result : goal.overflow_add-result
overflow_add-result c =
    let a = c.args in
    let f = found a.m.now _ _ _ _ c.requires.1 c.le32_at-sp.ensures.0 c.byte_at.ensures.0 c.le16_at-n.ensures.0 c.tile_data-d.ensures in
    let t = tiles_shorter a.sender a.mode c.tile_data-d.result.now c.le16_at-n.result 0 (omega arith) f.whole in
    omega (arith, c.put_tiles-p.ensures.behind, t, f.places.inside, c.well_formed)

pub shape_of-list : goal.shape_of-list
shape_of-list c =
    c.put_tiles-p.auto.list

pub shape_of-out : goal.shape_of-out
shape_of-out c =
    c.close_frame.auto.out ∙ (c.put_tiles-p.auto.out ∙ c.copy.auto.store)

pub returns : goal.returns
returns c =
    let a = c.args in
    let f = found a.m.now _ _ _ _ c.requires.1 c.le32_at-sp.ensures.0 c.byte_at.ensures.0 c.le16_at-n.ensures.0 c.tile_data-d.ensures in
    frame_put a.sender a.mode a.m.now _ _ _ f.places a.out.now _ _ _ _ c.put_tiles-p.result c.copy.ensures
    (found_put a.sender a.mode a.m.now _ _ _ _ _ _ _ c.put_tiles-p.result f c.put_tiles-p.ensures) c.close_frame.ensures
