-- Each place that is passed has the word for it.
use Rattle.std.proofs.Common.{◌≡◌, ℕ, ◌<◌, get_or}
use Rattle.app_recording.proofs.lent.fill_picture.Given as goal

abbrev pub invariant-loop-i : goal.invariant-loop-i
invariant-loop-i g l = (n : ℕ) (d : _) → n < l.i → get_or l.picture n d ≡ g.W.Word.word_at l.seed n
