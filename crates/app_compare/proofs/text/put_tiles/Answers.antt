-- Two pieces (`put_two`), which are the last line (`tiles-text`).
use Rattle.app_compare.specs.laws.Text.{put_two, put_is, tiles-text}
use native.Mathlib.Omega.{arith}
use Rattle.app_compare.proofs.text.put_tiles.Goals as goal

pub put-n-requires : goal.put-n-requires
put-n-requires c =
    omega (arith, c.requires)

pub put_field-requires : goal.put_field-requires
put_field-requires c =
    omega (arith, c.put-n.ensures.end, c.put-n.ensures.len, c.requires)

pub returns : goal.returns
returns c =
    put_is _ _ _ _ _ _ (tiles-text c.args.t) (put_two _ _ _ _ _ _ _ _ c.put-n.ensures c.put_field.ensures.0)
