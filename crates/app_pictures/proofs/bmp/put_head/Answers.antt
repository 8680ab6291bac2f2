-- The parts are the whole head (`head_all`).
use Rattle.std.proofs.Common.{ℕ, ◌*◌, ap, ◌∙◌, arith}
use Rattle.app_pictures.specs.laws.Bmp.{head_all}
use Rattle.app_pictures.proofs.bmp.put_head.Goals as goal

pub returns : goal.returns
returns g c =
    let size = ap (λ (k : ℕ). k * c.args.height) c.row_size.ensures.0 in
    head_all _ _ _ _ _ _ _ (rw c.packing.ensures at c.put_parts.ensures) (c.rows_size-size.ensures.0 ∙ size) (omega arith)
