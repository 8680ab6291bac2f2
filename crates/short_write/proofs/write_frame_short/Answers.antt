-- Refused with everything as it was, or judged further and both work lists cleared (`short_refused`, `short_sent`).
use Prim.Native.Nat.{ℕ}
use mathlib.Core.Path.{ap, ◌∙◌}
use lib.IntN.{pos}
use lib.ListN.{length, replicate}
use Rattle.std.proofs.lemmas.Result.{err_from_is_err_and}
use Rattle.short_write.specs.laws.Short.{own_good, short_refused, short_sent}
use Rattle.short_write.proofs.write_frame_short.Goals as goal

pub returns-in_err-own_judge : goal.returns-in_err-own_judge
returns-in_err-own_judge c =
    let a = c.args in
    let j = c.args.job in
    let p = err_from_is_err_and c.from_residual.result c.from_residual.ensures.1 in
    rw (p.1, p.2)
    (short_refused j.width j.height j.mode j.quants j.index a.old.now a.new.now a.picks.now a.list.now a.scratch.now a.out.now _ c.in_err-own_judge.ensures)

pub send_listed-r-requires : goal.send_listed-r-requires
send_listed-r-requires c =
    let a = c.args in
    let j = c.args.job in
    let g =
    own_good j.width j.height j.mode j.quants a.old.now a.new.now (length a.list.now) (length a.scratch.now) c.in_ok-own_judge.ensures in
    (g.args, g.pictures)

pub returns : goal.returns
returns c =
    let a = c.args in
    let j = c.args.job in
    let r = c.send_listed-r in
    let g =
    own_good j.width j.height j.mode j.quants a.old.now a.new.now (length a.list.now) (length a.scratch.now) c.in_ok-own_judge.ensures in
    short_sent j.width j.height j.mode j.quants j.index a.old.now a.new.now a.picks.now a.list.now a.scratch.now a.out.now c.in_ok-own_judge.ensures
    _ _ _ r.result r.ensures
    (c.clear.ensures ∙ ap (λ (n : ℕ). replicate n (pos 0)) (r.auto.list ∙ g.args.first))
    (c.clear-2.ensures ∙ ap (λ (n : ℕ). replicate n (pos 0)) (r.auto.scratch ∙ g.args.second))
