-- `tile_same` is safe: where the three numbers are 0, the six lists are planes.

use Rattle.audit.proofs.both.tile_same.Goals as goal

pub both_same-requires : goal.both_same-requires
both_same-requires c =
    let p = c.plane-n.ensures c.if-n-ne0.false in
    let q = c.plane-m.ensures c.if-m-ne0.false in
    let r = c.plane-k.ensures c.if-k-ne0.false in
    (p.0, q.0, r.0, p.1, q.1, r.1)
