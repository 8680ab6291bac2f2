-- A full frame, and the short one in its stead (`change_is`).
use borrow.Author.Rules.{rules}
use native.Mathlib.Omega.{arith}
use mathlib.Core.Path.{refl}
use Rattle.std.proofs.lemmas.Result.{err_from_is_err_and}
use Rattle.app_send.specs.laws.Both.{change_is}
use Rattle.app_send.proofs.both.change.Goals as goal

pub after-requires : goal.after-requires
after-requires c = omega (arith, c.short_behind-w.ensures.room)

pub returns-in_err-after : goal.returns-in_err-after
returns-in_err-after c =
    let p = err_from_is_err_and c.from_residual.result c.from_residual.ensures.1 in
    rw (p.1, p.2)
    (change_is _ _ _ _ _ _ _ _ _ _ _ c.requires c.frame_behind-f.ensures (search rules) c.short_behind-w.ensures
    (search rules) c.in_err-after.ensures tt tt tt)

pub returns : goal.returns
returns c =
    change_is _ _ _ _ _ _ _ _ _ _ _ c.requires c.frame_behind-f.ensures (search rules) c.short_behind-w.ensures
    (search rules) c.in_ok-after.ensures c.count_of.ensures c.count_of-2.ensures refl
