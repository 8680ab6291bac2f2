-- A.pic file, and what two of them give: "bad", "size", or tiles.
-- (01 is this project's scope document, 02 its change requests, 001 is MS-RDPRFX: README, "What 01 is".)
use Rattle.std.specs.Prelude.{ℕ, ◌+◌, ◌*◌, Bool, false, List, length, leb, eqb}
use Rattle.wire.specs.Le.{le16}
use Rattle.whole.specs.Row.{◌!◌⨾◌}
use Rattle.session.specs.Header.{size_good}
use Rattle.tile_diff.specs.declared.pic.Pic.{Pic}
use Rattle.tile_diff.specs.declared.pic.Verdict.{Verdict}
use Rattle.tile_diff.specs.declared.pic.Verdict.TheVariants.{Bad, Size, Tiles}

-- "width 2 bytes, height 2 bytes, then words, little-endian": what a file's bytes, or its first four, say; all 0 where four are not there
unfoldable pub pic_of : List ℕ → Pic
pic_of m =
    leb 4 (length m) ! record { width = 0; height = 0; bytes = 0 } ⨾
    record { width = le16 m 0; height = le16 m 2; bytes = length m }

-- neither "short", nor "too long", nor "of a size that 01 refuses", nor "missing" (all 0)
unfoldable pub is_whole : Pic → Bool
is_whole p =
    size_good p.width p.height ! false ⨾
    eqb p.bytes (4 + 2 * (p.width * p.height))

-- "Different sizes print only \"size\""
unfoldable pub sizes_judge : Pic → Pic → Verdict
sizes_judge a b =
    eqb a.width b.width ! Size ⨾
    eqb a.height b.height ! Size ⨾
    Tiles

-- "\"bad\", which goes before \"size\""
unfoldable pub verdict_of : Pic → Pic → Verdict
verdict_of a b =
    is_whole a ! Bad ⨾
    is_whole b ! Bad ⨾
    sizes_judge a b
