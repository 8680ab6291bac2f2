-- Passing over: the returns of each function, the walk byte by byte, and that it does not matter how the bytes are cut.
use Rattle.std.specs.Prelude.{ℕ, suc, ◌+◌, ◌≤◌, ◌<◌, ◌≡◌, Bool, List, [], ◌∷◌, ◌++◌, leb, length, get_or, drop}
use Rattle.std.proofs.Math.Path.{refl, ap, sym}
use Rattle.std.proofs.Common.{◌∙◌, add-one, eq-eqb, ne_eqb, drop_of_length-le, drop-cons}
use Rattle.std.proofs.Math.Bool.{true, false, not}
use Rattle.std.proofs.Math.Dec.{eqb}
use Rattle.whole.specs.Row.{◌!◌⨾◌, ◌⇒◌∣◌}
use Rattle.whole.specs.laws.Row.{fails, passes, case_yes, case_no}
use Rattle.collect.specs.Collect.{at_end, in_frame, part_after}
use Rattle.app_stream.specs.declared.skip.Skip.{Skip}
use Rattle.app_stream.specs.declared.skip.Skipped.{Skipped}
use Rattle.app_stream.specs.Skip.{stays, byte_over, goes, skip_from}

-- ---- does a frame go on?

module _ (part kind : ℕ) where
  closes : (t : Bool) → not t ≡ eqb (t ⇒ at_end ∣ in_frame) in_frame
  unfolding ◌⇒◌∣◌
  closes true = refl
  closes false = refl

  pub stays_frame : part ≡ 3 → not (eqb kind 0xCCC5) ≡ stays part kind
  unfolding part_after
  stays_frame p = closes (eqb kind 0xCCC5) ∙ ap (λ (n : ℕ). eqb n in_frame) (case_yes _ _ _ _ (eq-eqb part 3 p) refl)

  alone : (t : Bool) → eqb (t ⇒ 1 ∣ 2) in_frame ≡ false
  unfolding ◌⇒◌∣◌
  alone true = refl
  alone false = refl

  opens : (t : Bool) → t ≡ eqb (t ⇒ in_frame ∣ leb kind 0xCCC3 ⇒ 1 ∣ 2) in_frame
  unfolding ◌⇒◌∣◌
  opens true = refl
  opens false = sym (alone (leb kind 0xCCC3))

  pub stays_out : (part ≡ 3 → ⊥) → eqb kind 0xCCC4 ≡ stays part kind
  unfolding part_after
  stays_out p = opens (eqb kind 0xCCC4) ∙ ap (λ (n : ℕ). eqb n in_frame) (case_no _ _ _ _ (ne_eqb part 3 p) refl)

-- ---- the walk

pub skip_on :
    (s t : Skip) (n at : ℕ) (bytes : List ℕ) (b : ℕ)
    → at < length bytes
    → goes s ≡ true
    → b ≡ get_or bytes at 0
    → t ≡ byte_over s b
    → skip_from s n (drop at bytes) ≡ skip_from t (n + 1) (drop (at + 1) bytes)
unfolding skip_from
skip_on s t n at bytes b l g e f =
    ap (skip_from s n) (drop-cons bytes at 0 l)
    ∙ sym (passes _ _ _ _ g refl)
    ∙ ap (λ (x : Skip). skip_from x (n + 1) (drop (suc at) bytes)) (ap (byte_over s) (sym e) ∙ sym f)
    ∙ ap (λ (k : ℕ). skip_from t (n + 1) (drop k bytes)) (sym (add-one at))

pub skip_stops : (s : Skip) (n : ℕ) (bs : List ℕ) → goes s ≡ false → skip_from s n bs ≡ record { skip = s; taken = n }
unfolding skip_from
skip_stops s n [] g = refl
skip_stops s n (b ∷ bs) g = sym (fails _ _ _ _ g refl)

pub skip_ends : (s : Skip) (at : ℕ) (bytes : List ℕ) → length bytes ≤ at → skip_from s at (drop at bytes) ≡ record { skip = s; taken = at }
unfolding skip_from
skip_ends s at bytes l = ap (skip_from s at) (drop_of_length-le bytes l)

-- ---- however the bytes are cut: those of one piece, and then those of the next, are those of both

after : Skipped → List ℕ → Skipped
after r bs = skip_from r.skip r.taken bs

cut_case :
    (t : Bool) (s : Skip) (n : ℕ) (x : Skipped) (y : Skipped) (bs : List ℕ)
    → goes s ≡ t
    → x ≡ after y bs
    → (t ! record { skip = s; taken = n } ⨾ x) ≡ after (t ! record { skip = s; taken = n } ⨾ y) bs
unfolding ◌!◌⨾◌ after
cut_case true s n x y bs g e = e
cut_case false s n x y bs g e = sym (skip_stops s n bs g)

pub skip_cut : (s : Skip) (n : ℕ) (xs ys : List ℕ) → skip_from s n (xs ++ ys) ≡ skip_from (skip_from s n xs).skip (skip_from s n xs).taken ys
unfolding skip_from after
skip_cut s n [] ys = refl
skip_cut s n (x ∷ xs) ys = cut_case (goes s) s n _ (skip_from (byte_over s x) (n + 1) xs) ys refl (skip_cut (byte_over s x) (n + 1) xs ys)
