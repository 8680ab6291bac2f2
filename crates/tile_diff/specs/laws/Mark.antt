-- Laws on the rows of the picture for people.
use Prim.Native.Nat.{ℕ, zero, suc, ◌+◌, ◌*◌, ◌≤◌, ◌<◌}
use Rattle.std.specs.Prelude.{◌≡◌, ◌≢◌, Bool, true, false, List, length, get_or, set, eqb}
use Rattle.std.proofs.Math.Path.{refl}
use Rattle.std.proofs.Common.{ap, sym, ◌∙◌, arith, add-one, get_or-set_same, get_or-set_other, eqb-true}
use Rattle.std.proofs.Math.ListN.{length-set}
use Rattle.std.proofs.lemmas.Bool.{eqb-false}
use Rattle.wire.specs.Le.{le16}
use Rattle.tile_diff.specs.Tiles.{words_of}
use Rattle.tile_diff.specs.Mark.{shown_at, columns_marked}
use Rattle.tile_diff.specs.laws.Words.{word_at}

module _ (vs : List ℕ) (w h y : ℕ) (cs : List ℕ) where
  pub marked_length : (n : ℕ) (out : List ℕ) → length (columns_marked vs w h y cs n out) ≡ length out
  unfolding columns_marked
  marked_length zero out = refl
  marked_length (suc n) out = length-set (columns_marked vs w h y cs n out) n _ ∙ marked_length n out

  pub marked_none : (out : List ℕ) → out ≡ columns_marked vs w h y cs 0 out
  unfolding columns_marked
  marked_none out = refl

  pub marked_done : (x : ℕ) (to out : List ℕ) → x ≡ w → to ≡ columns_marked vs w h y cs x out → to ≡ columns_marked vs w h y cs w out
  marked_done x to out e f = f ∙ ap (λ (n : ℕ). columns_marked vs w h y cs n out) e

-- one word more, from the row's bytes
pub marked_next :
    (m : List ℕ) (w h y x v : ℕ) (cs from out : List ℕ)
    → 2 * x + 2 ≤ length m
    → v ≡ shown_at (le16 m (2 * x)) w h x y cs
    → from ≡ columns_marked (words_of m) w h y cs x out
    → set from x v ≡ columns_marked (words_of m) w h y cs (x + 1) out
unfolding columns_marked
marked_next m w h y x v cs from out l e f =
    rw add-one
    (ap (λ (o : List ℕ). set o x v) f
    ∙ ap (λ (u : ℕ). set (columns_marked (words_of m) w h y cs x out) x u) (e ∙ ap (λ (u : ℕ). shown_at u w h x y cs) (sym (word_at m x l))))

-- the picture for people, place by place: the word shown at column i
pub marked_at :
    (vs : List ℕ) (w h y : ℕ) (cs out : List ℕ) (n i : ℕ) → i < n → n ≤ length out →
    get_or (columns_marked vs w h y cs n out) i 0 ≡ shown_at (get_or vs i 0) w h i y cs
unfolding columns_marked
marked_at vs w h y cs out zero i p l = absurd (omega arith)
marked_at vs w h y cs out (suc n) i p l = by (eqb i n) refl (λ q. marked_at vs w h y cs out n i q (omega arith))
  where
    by :
        (t : Bool)
        → eqb i n ≡ t
        → (i < n → get_or (columns_marked vs w h y cs n out) i 0 ≡ shown_at (get_or vs i 0) w h i y cs)
        → get_or (set (columns_marked vs w h y cs n out) n (shown_at (get_or vs n 0) w h n y cs)) i 0 ≡ shown_at (get_or vs i 0) w h i y cs
    by true e r =
        let q : i ≡ n = eqb-true i n e in
        rw q (get_or-set_same (columns_marked vs w h y cs n out) n _ 0 (omega (arith, marked_length vs w h y cs n out)))
    by false e r =
        let d : i ≢ n = λ q. eqb-false i n e q in
        get_or-set_other (columns_marked vs w h y cs n out) n i _ 0 d ∙ r (omega (arith, d))
