-- Each turn keeps it, and at the end it is what is promised.
use Rattle.std.specs.Prelude.{map}
use Rattle.std.proofs.Common.{◌∙◌, arith}
use Rattle.tile_diff.specs.laws.Words.{words_differ}
use Rattle.tile_diff.specs.laws.Pictures.{places_none, places_next, places_done}
use Rattle.tile_diff.proofs.glasses.count_words.Goals as goal

pub loop-i-init : goal.loop-i-init
loop-i-init g c = let n = g.W.GlassWord.number in places_none (map n c.args.a.now) (map n c.args.b.now) c.args.width _

pub tile_at-requires : goal.tile_at-requires
tile_at-requires g c = (c.requires.0, c.requires.1, omega arith)

pub loop-i-preserved : goal.loop-i-preserved
loop-i-preserved g c =
    let s = c.args in
    let n = g.W.GlassWord.number in
    let d = words_differ n g.W.PartialEq.eq g.met.W.GlassWord.same s.a.now s.b.now c.loop-i.i _ _ (omega arith) (omega arith) c.index-a-i.is c.index-b-i.is in
    places_next (map n s.a.now) (map n s.b.now) s.width _ _ _ _ _ _ (c.ne.ensures ∙ d) c.tile_at.ensures c.count_if.ensures c.loop-i.invariant

pub returns : goal.returns
returns g c =
    let n = g.W.GlassWord.number in
    places_done (map n c.args.a.now) (map n c.args.b.now) c.args.width _ _ _ _ (omega arith) c.loop-i.invariant
