-- `is_changed` meets its contract: the rows that are compared are those of the tile in the picture, and comparing them is comparing the filled-up tile.
use native.Mathlib.Omega.{arith}
use Rattle.plan.specs.laws.Same.{Corner, corner, rows_there, tile_changed}
use Rattle.plan.proofs.same.is_changed.Goals as goal
use Rattle.plan.proofs.same.is_changed.Goals.{After-cols_of-columns}

-- where the tile's first pixel is, once the columns are counted
corner_at :
    (c : After-cols_of-columns) → let s = c.args in Corner s.w s.h s.k c.cols_of-columns.result
corner_at c =
    let s = c.args in
    let p = c.requires in
    corner s.old.now s.new.now s.w s.h s.k p.0 p.1 c.cols_of-columns.result c.cols_of-columns.ensures.0

pub nonzero_rem-x : goal.nonzero_rem-x
nonzero_rem-x c = omega (arith, corner_at (goal.at.nonzero_rem-x c).After-cols_of-columns)

pub overflow_mul-x : goal.overflow_mul-x
overflow_mul-x c = omega (arith, corner_at (goal.at.overflow_mul-x c).After-cols_of-columns)

pub nonzero_div-y : goal.nonzero_div-y
nonzero_div-y c = omega (arith, corner_at (goal.at.nonzero_div-y c).After-cols_of-columns)

pub overflow_mul-y : goal.overflow_mul-y
overflow_mul-y c = omega (arith, corner_at (goal.at.overflow_mul-y c).After-cols_of-columns)

pub overflow_sub-w : goal.overflow_sub-w
overflow_sub-w c = omega (arith, corner_at (goal.at.overflow_sub-w c).After-cols_of-columns)

pub overflow_sub-h : goal.overflow_sub-h
overflow_sub-h c = omega (arith, corner_at (goal.at.overflow_sub-h c).After-cols_of-columns)

pub overflow_mul-y-2 : goal.overflow_mul-y-2
overflow_mul-y-2 c = omega (arith, corner_at (goal.at.overflow_mul-y-2 c).After-cols_of-columns)

pub overflow_add-y : goal.overflow_add-y
overflow_add-y c = omega (arith, corner_at (goal.at.overflow_add-y c).After-cols_of-columns)

pub overflow_mul-y-3 : goal.overflow_mul-y-3
overflow_mul-y-3 c = omega (arith, corner_at (goal.at.overflow_mul-y-3 c).After-cols_of-columns)

pub same_rows-requires : goal.same_rows-requires
same_rows-requires c =
    let s = c.args in
    let p = c.requires in
    let cols-of = c.cols_of-columns in
    let within = c.within-wide in
    let at = rows_there s.old.now s.new.now s.w s.h s.k p.0 p.1 in
    let there = at _ cols-of.ensures.0 _ _ within.ensures c.within-high.ensures in
    (there s.old.now p.0.lengths.old_long, there s.new.now p.0.lengths.new_long)

pub returns : goal.returns
returns c =
    let s = c.args in
    let p = c.requires in
    let cols-of = c.cols_of-columns in
    let within = c.within-wide in
    let within2 = c.within-high in
    tile_changed s.old.now s.new.now s.w s.h s.k p.0 p.1 _ cols-of.ensures.0 _ _ within.ensures within2.ensures _
    c.same_rows.ensures
