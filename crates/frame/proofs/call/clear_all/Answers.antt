-- Each list is cleared over its own length, and each length is 4,096.
use mathlib.Core.Path.{ap, ◌∙◌}
use Prim.Native.Nat.{ℕ}
use lib.IntN.{pos}
use lib.ListN.{replicate}
use Rattle.frame.proofs.call.clear_all.Goals as goal

pub returns : goal.returns
returns c =
    record {
      y_is = c.clear.ensures ∙ ap (λ (k : ℕ). replicate k (pos 0)) c.requires.y_len;
      cb_is = c.clear-2.ensures
          ∙ ap (λ (k : ℕ). replicate k (pos 0)) c.requires.cb_len;
      cr_is = c.clear-3.ensures
          ∙ ap (λ (k : ℕ). replicate k (pos 0)) c.requires.cr_len;
      tmp_is = c.clear-4.ensures
          ∙ ap (λ (k : ℕ). replicate k (pos 0)) c.requires.tmp_len;
    }
