-- What other crates may cite of a tile's way back: how long it is, and how far its numbers can grow.
use Rattle.std.specs.Prelude.{◌≡◌, List, ℤ, length}
use Rattle.std.proofs.Common.{subst, lit≤}
use Rattle.whole.specs.laws.Tab.{AllNear}
use Rattle.wave_back.specs.Tile.{tile_back}
use Rattle.wave_back.specs.laws.Level.{length_level, halves_all, first, tile_is}

-- 64 rows of 64, whatever came in
pub back_length : (xs : List ℤ) → length (tile_back xs) ≡ 4096
unfolding tile_back
back_length xs = length_level 32 _

-- a tile of numbers within 32,767 comes out below 2 ^ 21
pub back_near : (xs : List ℤ) → length xs ≡ 4096 → AllNear 32767 xs → AllNear 2097151 (tile_back xs)
back_near xs e p = subst (AllNear 2097151) (tile_is xs e) (halves_all (lit≤ tt) (lit≤ tt) (first xs e p))
