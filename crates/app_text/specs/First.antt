-- What a program takes of a buffer that it has read into.
use Rattle.std.specs.Prelude.{ℕ, List, length, take, nat_le}
use Rattle.whole.specs.Row.{◌!◌⨾◌}

-- the first n bytes, none where there are fewer
unfoldable pub first_of : List ℕ → ℕ → List ℕ
first_of s n =
    nat_le n (length s) ! take 0 s ⨾
    take n s
