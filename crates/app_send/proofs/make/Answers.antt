-- Headers refused (`make_none`), or a frame behind them (`make_sent`).
use borrow.Author.Rules.{rules}
use native.Mathlib.Omega.{arith}
use mathlib.Core.Path.{refl}
use Rattle.std.proofs.lemmas.Result.{err_from_is_err_and}
use Rattle.headers.specs.laws.Headers.{writable}
use Rattle.app_send.specs.Stream.{frame_fault}
use Rattle.app_send.specs.laws.Stream.{headers_long, make_none, make_sent}
use Rattle.app_send.proofs.make.Goals as goal

pub returns-in_err-write_headers : goal.returns-in_err-write_headers
returns-in_err-write_headers c =
    let p = err_from_is_err_and c.from_residual.result c.from_residual.ensures.1 in
    rw (p.1, p.2) (make_none _ _ _ _ _ c.in_err-write_headers.ensures.number)

pub frame_behind-requires : goal.frame_behind-requires
frame_behind-requires c = omega (arith, (writable _ _ _ _ c.in_ok-write_headers.ensures.number).fits)

pub after-requires : goal.after-requires
after-requires c = omega (arith, c.frame_behind.ensures.room)

pub returns : goal.returns
returns c =
    let a = c.args in
    make_sent _ (λ k. frame_fault a.t a.pixels.now k) _ _ _ _ _ _ _ _ refl c.in_ok-write_headers.ensures (headers_long _ _ _) (search rules) (search rules)
    c.frame_behind.ensures c.after.ensures
