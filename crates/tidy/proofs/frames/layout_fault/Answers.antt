-- The front, the tiles and the end, a law of specs/laws/Layout for each; behind a checked front region and tileset are there.
use mathlib.Core.Path.{refl, ◌∙◌}
use Rattle.wire.specs.laws.Refusal.{number_pos, number_on}
use native.Mathlib.Omega.{arith}
use Rattle.frame_layout.specs.Reader.{size_at}
use Rattle.frame.specs.laws.Frame.{front_good, set_there}
use Rattle.tidy.specs.laws.Layout.{layout_front, layout_tiles, layout_end}
use Rattle.tidy.proofs.frames.layout_fault.Goals as goal

pub returns-in_err-front_fault : goal.returns-in_err-front_fault
returns-in_err-front_fault c =
    number_on _ _ c.from_residual.ensures.1 ∙ layout_front c.args.s c.args.m.now _ c.in_err-front_fault.ensures (number_pos _)

pub le32_at-sp-requires : goal.le32_at-sp-requires
le32_at-sp-requires c =
    let g = front_good _ c.args.m.now c.in_ok-front_fault.ensures in
    omega (arith, g.region.there, g.region.size)

pub set_layout-requires : goal.set_layout-requires
unfolding size_at
set_layout-requires c =
    let a = c.args in (
      c.requires,
      set_there a.s.width a.s.height a.s.mode a.m.now 0 c.in_ok-front_fault.ensures refl
          c.le32_at-sp.result c.le32_at-sp.ensures.0,
    )

pub returns-in_err-set_layout : goal.returns-in_err-set_layout
unfolding size_at
returns-in_err-set_layout c =
    let a = c.args in
    number_on _ _ c.from_residual-in_err-set_layout.ensures.1
    ∙ layout_tiles a.s a.m.now 0 c.in_ok-front_fault.ensures refl c.le32_at-sp.result c.le32_at-sp.ensures.0 _ c.in_err-set_layout.ensures (number_pos _)

pub le32_at-size-requires : goal.le32_at-size-requires
unfolding size_at
le32_at-size-requires c =
    let a = c.args in
    let g = set_there a.s.width a.s.height a.s.mode a.m.now 0 c.in_ok-front_fault.ensures refl
    c.le32_at-sp.result c.le32_at-sp.ensures.0 in
    omega (arith, g.good.there, g.good.size)

pub end_fault-requires : goal.end_fault-requires
unfolding size_at
end_fault-requires c =
    let a = c.args in
    let g = set_there a.s.width a.s.height a.s.mode a.m.now 0 c.in_ok-front_fault.ensures refl
    c.le32_at-sp.result c.le32_at-sp.ensures.0 in
    omega (arith, g.good.there, c.le32_at-size.ensures.0)

pub returns : goal.returns
unfolding size_at
returns c =
    let a = c.args in
    layout_end a.s a.m.now 0 c.in_ok-front_fault.ensures refl c.le32_at-sp.result c.le32_at-sp.ensures.0
    0 c.in_ok-set_layout.ensures refl c.le32_at-size.result _ c.le32_at-size.ensures.0
    c.end_fault.ensures
