-- The samples of a component that has no fault are a plane; a word of three planes, and a row of words, made one by one, on either glass.
-- Assumes nothing.
use Rattle.std.specs.Prelude.{ℕ, ◌+◌, ◌*◌, ◌≤◌, ◌<◌, ◌≡◌, List, ℤ, length, get_or, set}
use Rattle.std.proofs.Common.{◌∙◌, arith, of_z, to_z, length-set}
use mir.Syntax.{w32}
use Rattle.whole.specs.Tab.{at}
use Rattle.whole.specs.laws.Near.{Near, back, back_near, near_le}
use Rattle.whole.specs.laws.Put.{put_any}
use Rattle.colour.specs.Colour.{word_of}
use Rattle.wave_back.specs.laws.Tile as tile
use Rattle.tile_back.specs.Component.{component_fault, coefficients_of, samples_of}
use Rattle.tile_back.specs.laws.Component.{coefficients_near}
use Rattle.tile_back.specs.Word.{Plane, word_at, WordsRow}

pub samples_plane : (mode : ℕ) (q s : List ℕ) → 0 ≡ component_fault mode q s → Plane (samples_of mode q s)
unfolding samples_of
samples_plane mode q s e =
    let c = coefficients_near mode q s e in
    record { len = tile.back_length (coefficients_of mode q s); near = tile.back_near (coefficients_of mode q s) c.0 c.1 }

-- a sample of a plane, as the machine reads it, is near enough for the colour step
pub plane_near : (xs : List ℤ) (i : ℕ) → Plane xs → Near 268435456 (to_z w32 (of_z w32 (at xs i)))
plane_near xs i p = back_near w32 (near_le {B = 268435456} (p.near.all i) tt) tt

module _ (glass : ℕ) (ys cbs crs : List ℤ) where
  -- the word of the three samples
  pub word_there :
      (i : ℕ) → Plane ys → Plane cbs → Plane crs →
      word_of glass (to_z w32 (of_z w32 (at ys i))) (to_z w32 (of_z w32 (at cbs i))) (to_z w32 (of_z w32 (at crs i))) ≡ word_at glass ys cbs crs i
  unfolding word_at
  word_there i p q r = cc (back w32 (p.near.all i) tt, back w32 (q.near.all i) tt, back w32 (r.near.all i) tt)

-- the first x words of row y are made
pub record Made (glass : ℕ) (ys cbs crs : List ℤ) (y x : ℕ) (row : List ℕ) : Type 0 where
  pub most : x ≤ 64
  pub len : length row ≡ 64
  pub words : (n : ℕ) → n < x → get_or row n 0 ≡ word_at glass ys cbs crs (64 * y + n)

module _ (glass : ℕ) (ys cbs crs : List ℤ) (y x : ℕ) (row : List ℕ) where
  pub made_none : length row ≡ 64 → x ≡ 0 → Made glass ys cbs crs y x row
  made_none l e = record { most = omega arith; len = l; words = λ n k. absurd (omega arith) }

  pub made_next :
      (v : ℕ) → x < 64 → Made glass ys cbs crs y x row → v ≡ word_at glass ys cbs crs (64 * y + x) → Made glass ys cbs crs y (x + 1) (set row x v)
  made_next v h m e =
      record {
        most = omega arith;
        len = length-set row x v ∙ m.len;
        words = put_any 0 (λ n. n) (λ n. word_at glass ys cbs crs (64 * y + n)) row x v (omega (arith, m.len)) (λ n k. omega arith) e m.words;
      }

  pub made_all : 64 ≤ x → Made glass ys cbs crs y x row → WordsRow glass ys cbs crs y row
  made_all h m = record { len = m.len; word = λ n k. m.words n (omega arith) }
