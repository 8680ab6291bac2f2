-- What is passed is written.
use Rattle.std.proofs.Common.{◌≡◌, take}
use Rattle.wire.specs.Le.{written}
use Rattle.app_pictures.specs.Bmp.{word_bytes}
use Rattle.app_pictures.proofs.bmp.put_words.Given as goal

abbrev pub invariant-loop-i : goal.invariant-loop-i
invariant-loop-i g l = l.out ≡ written (word_bytes g.W.Word.bytes (take l.i l.words)) l.initial.out
