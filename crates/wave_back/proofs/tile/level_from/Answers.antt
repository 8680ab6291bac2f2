-- `level_from` meets its contract: its parts are what `level_back` asks for (`level_asks`), and what that gives stands on the end (`tail_put`).
use Prim.Native.Nat.{◌*◌}
use Rattle.whole.specs.laws.More.{tail_put}
use Rattle.wave_back.specs.Tile.{level}
use Rattle.wave_back.specs.laws.Pass.{level_asks}
use Rattle.wave_back.proofs.tile.level_from.Goals as goal

pub level_back-requires : goal.level_back-requires
level_back-requires c = level_asks c.args.a c.args.n c.args.w c.args.work.now c.args.tmp.now c.requires

pub returns : goal.returns
returns c =
    let f = c.level_back in
    tail_put (level c.args.n) c.args.a (4 * (c.args.n * c.args.n)) c.args.work.now f.new.region c.requires.2 f.ensures
