-- What the files give (`answer_known`); there are few tiles and a width where there are tiles.
use Rattle.std.proofs.Common.{refl}
use Rattle.tile_diff.specs.laws.Request.{few_tiles}
use Rattle.app_compare.specs.laws.Files.{answer_known}
use Rattle.app_compare.proofs.answer.Goals as goal

pub text-n-requires : goal.text-n-requires
text-n-requires c =
    (λ t. few_tiles _ _ (c.read_both-s.ensures.1 t), c.requires.1)

pub show-requires : goal.show-requires
show-requires c =
    λ t. (c.read_both-s.ensures.1 t).wider

pub returns : goal.returns
returns c =
    answer_known _ _ _ _ _ _ _ _ _ _ _ c.open-first.ensures c.open-second.ensures refl refl c.requires.0 c.read_both-s.ensures.0 c.text-n.ensures
