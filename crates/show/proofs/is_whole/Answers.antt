-- Width times height fits, both being 16-bit numbers; the rest is safe as it stands.
use Rattle.std.proofs.Common.{◌*◌, ◌≤◌, mul-le-mul, arith}
use Rattle.show.proofs.is_whole.Goals as goal

pub overflow_mul-w : goal.overflow_mul-w
overflow_mul-w c =
    let a = c.args in
    let m : a.d.width * a.d.height ≤ 65535 * 65535 = mul-le-mul {n₂ = 65535} {m₂ = 65535} (omega arith) (omega arith) in omega arith
