-- Each row lies within the file.
use Rattle.std.proofs.Common.{◌+◌, length, arith}
use Rattle.sample.specs.laws.Compare.{row_within}
use Rattle.sample.proofs.stages.say_others.Goals as goal

pub overflow_mul-i : goal.overflow_mul-i
overflow_mul-i c = let a = c.args in let h = row_within (length a.rows.now) (a.w + 1) c.loop-i.i (omega arith) in omega (arith, h)
