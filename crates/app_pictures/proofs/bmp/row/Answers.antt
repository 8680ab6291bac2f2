-- Each return is one row of `row_of`; a row of the picture has a place (`row_bound`).
use native.Mathlib.Nat.{add-sub_cancel_left}
use Rattle.std.proofs.Common.{arith, le-leb}
use Rattle.whole.specs.laws.Row.{rows, passes}
use Rattle.app_pictures.specs.Bmp.{row_of}
use Rattle.app_pictures.specs.laws.Bmp.{row_bound}
use Rattle.app_pictures.proofs.bmp.row.Goals as goal

pub returns-then-width-gt4096 : goal.returns-then-width-gt4096
unfolding row_of
returns-then-width-gt4096 g c = search rows

pub returns-then-r-gt2048 : goal.returns-then-r-gt2048
unfolding row_of
returns-then-r-gt2048 g c = search rows

pub overflow_mul-a : goal.overflow_mul-a
overflow_mul-a g c = let b = row_bound c.args.r c.args.width (omega arith) (omega arith) in omega arith

pub overflow_add-e : goal.overflow_add-e
overflow_add-e g c = let b = row_bound c.args.r c.args.width (omega arith) (omega arith) in omega arith

pub returns-then-picture-e : goal.returns-then-picture-e
unfolding row_of
returns-then-picture-e g c = search rows

pub returns : goal.returns
unfolding row_of
returns g c =
    passes _ _ _ _ (search rows) (passes _ _ _ _ (search rows) (passes _ _ _ _ (le-leb _ _ c.if-picture-e.false) (simp add-sub_cancel_left)))
