-- `tile::coefficients` meets its contract: that the component has no fault is what each of the three steps asks for. Assumes nothing.
use Rattle.tile_back.specs.laws.Component.{code_good, decoded_good, summed_good, coefficients_are}
use Rattle.tile_back.proofs.coefficients.Goals as goal

pub read_checked-requires : goal.read_checked-requires
read_checked-requires c = (c.requires.0, code_good c.args.mode c.args.q.v c.args.code.now c.requires.2)

pub sum_up-requires : goal.sum_up-requires
sum_up-requires c =
    let d = c.read_checked in
    decoded_good c.args.mode c.args.q.v c.args.code.now c.requires.2 d.new.list d.ensures

pub scale_up-requires : goal.scale_up-requires
scale_up-requires c =
    let u = c.sum_up in
    let d = c.read_checked in
    let g = summed_good c.args.mode c.args.q.v c.args.code.now c.requires.2 d.new.list u.new.work d.ensures u.ensures in
    (g.0, g.1, c.requires.1)

pub returns : goal.returns
returns c =
    let m = c.scale_up in
    let u = c.sum_up in
    let d = c.read_checked in
    coefficients_are c.args.mode c.args.q.v c.args.code.now c.requires.2 d.new.list u.new.work m.new.work d.ensures u.ensures
    m.ensures
