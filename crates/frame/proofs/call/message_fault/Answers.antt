-- `message_fault` meets its contract: a law of specs/laws/Frame for the front, the tiles and the end; behind a checked front region and tileset are there.
use mathlib.Core.Path.{refl, ◌∙◌}
use Rattle.wire.specs.laws.Refusal.{number_pos, number_on}
use native.Mathlib.Omega.{arith}
use Rattle.frame_layout.specs.Reader.{size_at}
use Rattle.frame.specs.laws.Frame.{front_good, check_front, set_there, check_tiles, check_end}
use Rattle.frame.proofs.call.message_fault.Goals as goal

pub returns-in_err-front_fault : goal.returns-in_err-front_fault
returns-in_err-front_fault c =
    let a = c.args in
    let e = c.in_err-front_fault.ensures in
    number_on _ _ c.from_residual.ensures.1 ∙ check_front a.s.width a.s.height a.s.mode a.m.now _ e (number_pos _)

pub le32_at-sp-requires : goal.le32_at-sp-requires
le32_at-sp-requires c =
    let g = front_good _ c.args.m.now c.in_ok-front_fault.ensures in
    omega (arith, g.region.there, g.region.size)

pub check-requires : goal.check-requires
unfolding size_at
check-requires c =
    let a = c.args in
    let g = set_there a.s.width a.s.height a.s.mode a.m.now 0 c.in_ok-front_fault.ensures refl
    c.le32_at-sp.result c.le32_at-sp.ensures.0 in
    (c.requires.0, c.requires.1, g)

pub returns-in_err-check : goal.returns-in_err-check
unfolding size_at
returns-in_err-check c =
    let a = c.args in
    number_on _ _ c.from_residual-in_err-check.ensures.1
    ∙ check_tiles a.s.width a.s.height a.s.mode a.m.now 0 c.in_ok-front_fault.ensures refl
    c.le32_at-sp.result c.le32_at-sp.ensures.0 _ c.in_err-check.ensures (number_pos _)

pub le32_at-size-requires : goal.le32_at-size-requires
unfolding size_at
le32_at-size-requires c =
    let a = c.args in
    let g = set_there a.s.width a.s.height a.s.mode a.m.now 0 c.in_ok-front_fault.ensures refl
    c.le32_at-sp.result c.le32_at-sp.ensures.0 in
    omega (arith, g.good.there, g.good.size)

pub end_fault-requires : goal.end_fault-requires
unfolding size_at
end_fault-requires c =
    let a = c.args in
    let g = set_there a.s.width a.s.height a.s.mode a.m.now 0 c.in_ok-front_fault.ensures refl
    c.le32_at-sp.result c.le32_at-sp.ensures.0 in
    omega (arith, g.good.there, c.le32_at-size.ensures.0)

pub returns : goal.returns
unfolding size_at
returns c =
    let a = c.args in
    check_end a.s.width a.s.height a.s.mode a.m.now 0 c.in_ok-front_fault.ensures refl
    c.le32_at-sp.result c.le32_at-sp.ensures.0 0 c.in_ok-check.ensures refl c.le32_at-size.result
    _ c.le32_at-size.ensures.0 c.end_fault.ensures
