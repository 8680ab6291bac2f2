-- The first fault, or the head as it is; a size without fault bounds the number of pixels (`size_pixels`).
use Rattle.std.proofs.Common.{arith, sym, refl}
use Rattle.std.proofs.lemmas.Result.{err_from_is_err_and}
use Rattle.app_pictures.specs.Ppm.{sized_of}
use Rattle.app_pictures.specs.laws.Ppm.{size_pixels}
use Rattle.app_pictures.proofs.ppm.sized.Goals as goal

pub returns-in_err-size_fault : goal.returns-in_err-size_fault
unfolding sized_of
returns-in_err-size_fault c =
    let p = err_from_is_err_and c.from_residual.result c.from_residual.ensures.1 in
    rw (p.1, p.2, sym c.in_err-size_fault.ensures) refl

pub overflow_mul-h : goal.overflow_mul-h
overflow_mul-h c =
    let b = size_pixels c.args.h.width c.args.h.height _ c.in_ok-size_fault.ensures in
    omega arith

pub overflow_mul-h-2 : goal.overflow_mul-h-2
overflow_mul-h-2 c =
    let b = size_pixels c.args.h.width c.args.h.height _ c.in_ok-size_fault.ensures in
    omega arith

pub returns-in_err-bytes_fault : goal.returns-in_err-bytes_fault
unfolding sized_of
returns-in_err-bytes_fault c =
    let p = err_from_is_err_and c.from_residual-in_err-bytes_fault.result c.from_residual-in_err-bytes_fault.ensures.1 in
    rw (p.1, p.2, sym c.in_ok-size_fault.ensures, sym c.in_err-bytes_fault.ensures) refl

pub returns : goal.returns
unfolding sized_of
returns c = rw (sym c.in_ok-size_fault.ensures, sym c.in_ok-bytes_fault.ensures) refl
