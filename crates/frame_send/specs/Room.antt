-- How much room is enough for any frame of n tiles: 72 bytes around the tiles and 5 for a second quantiser set, and for each tile its head of 19 bytes and
-- three codes of at most 65,535.
use Rattle.std.specs.Prelude.{ℕ, ◌+◌, ◌*◌}

abbrev pub largest : ℕ → ℕ
largest n = 77 + 196624 * n
