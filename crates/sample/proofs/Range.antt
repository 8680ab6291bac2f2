-- What a list that was found in range gives its readers.
-- Assumes nothing.
use mathlib.Core.Path.{◌≡◌}
use mathlib.Core.Bool.{Bool, true}
use mathlib.Core.List.{List}
use lib.IntN.{ℤ}
use lib.Dec.{lit≤}
use lib.ListN.{length}
use Rattle.whole.specs.laws.More.{all_wide}
use Rattle.code_write.specs.Write.{all_in_range}
use Rattle.tile_back.specs.Word.{Plane}
use Rattle.sample.specs.laws.Range.{near_of}

pub plane-of : (zs : List ℤ) (r : Bool) → length zs ≡ 4096 → r ≡ all_in_range zs → r ≡ true → Plane zs
plane-of zs r l e t = record { len = l; near = all_wide (lit≤ tt) (near_of zs r e t) }
