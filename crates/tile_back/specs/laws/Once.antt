-- The promise of a row of words leaves one list.
-- Assumes nothing.
use Rattle.std.specs.Prelude.{ℕ, ◌<◌, ◌≡◌, List, ℤ}
use Rattle.std.proofs.Common.{sym, ◌∙◌, subst, ext_get_or}
use Rattle.tile_back.specs.Word.{WordsRow}

pub words_once : (glass : ℕ) (ys cbs crs : List ℤ) (y : ℕ) (a b : List ℕ) → WordsRow glass ys cbs crs y a → WordsRow glass ys cbs crs y b → a ≡ b
words_once glass ys cbs crs y a b p q =
    ext_get_or 0 a b (p.len ∙ sym q.len) (λ x h. let k = subst (λ (n : ℕ). x < n) p.len h in p.word x k ∙ sym (q.word x k))
