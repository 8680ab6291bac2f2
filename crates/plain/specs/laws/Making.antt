-- A tile's words, made one by one, on either glass. Assumes nothing.
use Rattle.std.specs.Prelude.{ℕ, ◌+◌, ◌≤◌, ◌<◌, ◌≡◌, List, ℤ, length, get_or, set}
use Rattle.std.proofs.Common.{◌∙◌, arith, length-set}
use Rattle.whole.specs.laws.Put.{put_any}
use Rattle.tile_back.specs.Word.{word_at}
use Rattle.plain.specs.Plain.{Words}

-- the first i words are made
pub record Making (glass : ℕ) (ys cbs crs : List ℤ) (i : ℕ) (words : List ℕ) : Type 0 where
  pub most : i ≤ 4096
  pub len : length words ≡ 4096
  pub made : (n : ℕ) → n < i → get_or words n 0 ≡ word_at glass ys cbs crs n

module _ (glass : ℕ) (ys cbs crs : List ℤ) (i : ℕ) (words : List ℕ) where
  pub making_none : length words ≡ 4096 → i ≡ 0 → Making glass ys cbs crs i words
  making_none l e = record { most = omega arith; len = l; made = λ n k. absurd (omega arith) }

  pub making_next :
      (v : ℕ) → i < 4096 → Making glass ys cbs crs i words → v ≡ word_at glass ys cbs crs i → Making glass ys cbs crs (i + 1) (set words i v)
  making_next v h m e =
      record {
        most = omega arith;
        len = length-set words i v ∙ m.len;
        made = put_any 0 (λ n. n) (word_at glass ys cbs crs) words i v (omega (arith, m.len)) (λ n k. omega arith) e m.made;
      }

  pub making_all : 4096 ≤ i → Making glass ys cbs crs i words → Words glass ys cbs crs words
  making_all h m = record { len = m.len; word = λ n k. m.made n (omega arith) }
