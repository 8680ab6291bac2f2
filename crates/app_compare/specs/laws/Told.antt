-- What follows from what is told, and two tellings together.
use Rattle.std.specs.Prelude.{List, [], ◌∷◌, ◌++◌}
use Rattle.app_compare.specs.Outside.{Piece, Gave}
use Rattle.app_compare.specs.Told.{Files, Came, none, more, PartOf, Parts, Told}

came_both : (xs : List Piece) {ys : List Piece} → Came xs → Came ys → Came (xs ++ ys)
came_both [] none d = d
came_both (x ∷ xs) (more g c) d = more g (came_both xs c d)

parts_left : (file : Files) (xs ys : List Piece) → Parts file (xs ++ ys) → Parts file xs
parts_left file [] ys p = none
parts_left file (x ∷ xs) ys (more e p) = more e (parts_left file xs ys p)

parts_right : (file : Files) (xs ys : List Piece) → Parts file (xs ++ ys) → Parts file ys
parts_right file [] ys p = p
parts_right file (x ∷ xs) ys (more e p) = parts_right file xs ys p

part_one : (file : Files) (p : Piece) → Parts file (p ∷ []) → PartOf file p
part_one file p (more e none) = e

-- of all files
pub told_all : (P : Files → Type 0) → ((file : Files) → P file) → Told P
told_all P f = record { pieces = []; came = none; holds = λ file ps. f file }

-- by one read
pub told_read : (p : Piece) → Gave p → Told (λ (file : Files). PartOf file p)
told_read p g = record { pieces = p ∷ []; came = more g none; holds = λ file ps. part_one file p ps }

pub told_map : (P Q : Files → Type 0) → ((file : Files) → P file → Q file) → Told P → Told Q
told_map P Q f t = record { pieces = t.pieces; came = t.came; holds = λ file ps. f file (t.holds file ps) }

pub told_two : (P Q R : Files → Type 0) → ((file : Files) → P file → Q file → R file) → Told P → Told Q → Told R
told_two P Q R f t u =
    record {
      pieces = t.pieces ++ u.pieces;
      came = came_both t.pieces t.came u.came;
      holds = λ file ps. f file (t.holds file (parts_left file t.pieces u.pieces ps)) (u.holds file (parts_right file t.pieces u.pieces ps));
    }
