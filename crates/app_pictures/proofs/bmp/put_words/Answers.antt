-- What is passed is written word by word (`word_next`).
use Rattle.std.proofs.Common.{length, refl, arith, le-leb}
use Rattle.std.proofs.lemmas.Bool.{lt-leb}
use Rattle.whole.specs.laws.Row.{fails, passes}
use Rattle.app_pictures.specs.Bmp.{put_words}
use Rattle.app_pictures.specs.laws.Bmp.{words_none, words_all, word_next, word_fits}
use Rattle.app_pictures.proofs.bmp.put_words.Goals as goal

pub returns-then-out-size : goal.returns-then-out-size
unfolding put_words
returns-then-out-size g c = fails _ _ _ _ (rw (← c.size-size.ensures.0) (lt-leb _ _ c.if-out-size.true)) refl

pub loop-i-init : goal.loop-i-init
loop-i-init g c = words_none g.W.Word.size g.W.Word.bytes g.met.W.Word.each_bytes c.args.words.now _

pub put_bytes-requires : goal.put_bytes-requires
put_bytes-requires g c =
    let room = word_fits c.size-size.result c.loop-i.i (length c.args.words.now) (length c.args.out.now) (omega arith) (omega arith) c.if-out-size.false in
    rw (← c.size-size.ensures.0) (omega (arith, room))

pub loop-i-preserved : goal.loop-i-preserved
loop-i-preserved g c =
    word_next g.W.Word.size g.W.Word.bytes g.met.W.Word.each_bytes _ _ _ _ c.loop-i.i _ _ (rw c.size-size.ensures.0 at c.put_bytes.ensures)
    c.loop-i.invariant c.index-words-i.is (omega arith)

pub returns : goal.returns
unfolding put_words
returns g c =
    passes _ _ _ _ (rw (← c.size-size.ensures.0) (le-leb _ _ c.if-out-size.false))
    (words_all g.W.Word.size g.W.Word.bytes g.met.W.Word.each_bytes _ _ _ _ c.loop-i-test.false c.loop-i.invariant)
