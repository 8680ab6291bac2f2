-- `level_from` meets its contract: its parts are what `level_forth` asks for (`level_asks`), and what that gives stands on the end (`tail_put`).
use Prim.Native.Nat.{◌*◌}
use Rattle.whole.specs.laws.More.{tail_put}
use Rattle.wave_forth.specs.Forth.{level_forth}
use Rattle.wave_back.specs.laws.Pass.{level_asks}
use Rattle.wave_forth.proofs.tile.level_from.Goals as goal

pub level_forth-requires : goal.level_forth-requires
level_forth-requires c = level_asks c.args.a c.args.n c.args.w c.args.work.now c.args.tmp.now c.requires

pub returns : goal.returns
returns c =
    let f = c.level_forth in
    tail_put (level_forth c.args.n) c.args.a (4 * (c.args.n * c.args.n)) c.args.work.now f.new.region c.requires.2 f.ensures
