-- There is a width where there are tiles.
use Rattle.app_compare.proofs.show.Goals as goal

pub bmp_out-requires : goal.bmp_out-requires
bmp_out-requires c = c.requires c.in-Tiles-Some.is-0
