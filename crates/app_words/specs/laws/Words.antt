-- How many digits a number has is one number only, and texts put one behind the other are one text.
use Prim.Native.Nat.{ℕ, zero, suc, ◌+◌, ◌-◌, ◌^◌, ◌≤◌, ◌<◌, min, max}
use Rattle.std.specs.Prelude.{◌≡◌, Bool, length, take, drop, get_or}
use Rattle.std.proofs.Math.Path.{refl, subst}
use Rattle.std.proofs.Common.{ap, sym, ◌∙◌, add-zero, length-append, take-suc, take_all, add-one}
use Rattle.std.proofs.Math.Bool.{true, false}
use mathlib.Core.List.{List, [], ◌∷◌, ◌++◌, append_assoc}
use native.Mathlib.Omega.{arith}
use Rattle.std.proofs.Math.Nat.{pow-le-pow_right}
use Rattle.std.proofs.Math.Seq.{take-length}
use Rattle.std.proofs.Math.Dec.{ltb}
use borrow.Author.Tests.{lt-ltb, le-ltb, ltb-true, ltb-false}
use Rattle.whole.specs.Row.{◌⇒◌∣◌}
use Rattle.whole.specs.laws.Row.{case_yes, case_no}
use Rattle.wire.specs.Le.{patch, written}
use Rattle.wire.specs.laws.Le.{patch_next, patch_none, patch_front}
use Rattle.io.specs.Digits.{last_digits, IsDigitCount}
use Rattle.app_words.specs.Words.{figures_from, text_of, text_each, Put}

module _ (base least n r : ℕ) (some : 0 < base) (is : IsDigitCount base least n r) where
  figures-from : (more k : ℕ) → least ≤ k → k ≤ r → r ≤ k + more → r ≡ figures_from more base k n
  unfolding figures_from
  figures-from zero k a b c = omega arith
  figures-from (suc more) k a b c = go (ltb k r) refl (λ h. figures-from more (k + 1) (omega arith) h (omega arith))
    where
      go : (t : Bool) → ltb k r ≡ t → (k + 1 ≤ r → r ≡ figures_from more base (k + 1) n) → r ≡ (ltb n (base ^ k) ⇒ k ∣ figures_from more base (k + 1) n)
      go true e rest =
          let h : k < r = ltb-true k r e in
          let p : base ^ k ≤ base ^ (r - 1) = pow-le-pow_right some (omega arith) in
          let q : base ^ (r - 1) ≤ n = is.2 (omega arith) in
          case_no _ _ _ _ (le-ltb n (base ^ k) (omega arith)) (rest (omega arith))
      go false e rest =
          let h : r ≡ k = omega (arith, ltb-false k r e) in
          let l : n < base ^ k = rw (← h) is.1 in
          case_yes _ _ _ _ (lt-ltb n (base ^ k) l) h

  -- no more are needed than hold the largest number
  pub few_digits : (most : ℕ) → least ≤ most → n < base ^ most → r ≤ most
  few_digits most l h = go (ltb most r) refl
    where
      go : (t : Bool) → ltb most r ≡ t → r ≤ most
      go true e =
          let k : most < r = ltb-true most r e in
          let p : base ^ most ≤ base ^ (r - 1) = pow-le-pow_right some (omega arith) in
          let q : base ^ (r - 1) ≤ n = is.2 (omega arith) in
          absurd (omega arith)
      go false e = ltb-false most r e

-- what the kit makes of a number is the number's text
pub text_is :
    (base least n r : ℕ) (text : List ℕ) → 0 < base → IsDigitCount base least n r → r ≤ least + 20 → take r text ≡ last_digits base r n → take r text ≡
    text_of base least n
unfolding text_of
text_is base least n r text some is few e =
    e ∙ ap (λ (k : ℕ). last_digits base k n) (figures-from base least n r some is 20 least (omega arith) is.0 few)

-- put at a place: `part` is what was put of it
pub number_put :
    (out part out' text : List ℕ) (base least n at r k most : ℕ)
    → 0 < base → IsDigitCount base least n k → k ≤ least + 20 → take k text ≡ last_digits base k n → part ≡ take k text → length part ≤ most
    → Put out at part out' r
    → Put out at (text_of base least n) out' r × (r ≤ at + most)
number_put out part out' text base least n at r k most some is few e f l p =
    (rw (← text_is base least n k text some is few e, ← f) p, omega (arith, p.behind))

-- a number of digits that the kit takes as it is
pub least_is : (base least n k : ℕ) → 1 ≤ least → least ≤ 16 → IsDigitCount base (min (max least 1) 16) n k → IsDigitCount base least n k
least_is base least n k a b h =
    let e : min (max least 1) 16 ≡ least = omega arith in
    subst (λ (l : ℕ). IsDigitCount base l n k) e h

-- ---- texts one behind the other

pub put_all : {out text out' : List ℕ} {at n r : ℕ} → n ≡ length text → out' ≡ patch out at (take n (drop 0 text)) → r ≡ at + n → Put out at text out' r
put_all {out} {text} {at = at} e f g =
    record { behind = rw (← e) g; left = f ∙ ap (patch out at) (rw (e, take-length text)) }

-- the same text in another form
pub put_as : {out text other out' : List ℕ} {at r : ℕ} → text ≡ other → Put out at text out' r → Put out at other out' r
put_as {out} {text} {other} {out'} {at} {r} e p = subst (λ (t : List ℕ). Put out at t out' r) e p

pub put_none : (out : List ℕ) (at : ℕ) → Put out at [] out at
put_none out at = record { behind = sym (add-zero at); left = patch_none out at }

pub put_next :
    {out a x b y : List ℕ} {at r k : ℕ} → Put out at a x r → Put x r b y k → at ≤ length out → Put out at (a ++ b) y k
put_next {out} {a} {x} {b} {y} {at} {r} {k} p q h =
    record {
      behind = q.behind ∙ simp length-append (omega (arith, p.behind));
      left = patch_next x y out a b at r p.left q.left p.behind h;
    }

-- from the first place on: its length, and a front that has been written
pub put_whole : {out text out' : List ℕ} {r : ℕ} → Put out 0 text out' r → (r ≡ length text) × (out' ≡ written text out)
put_whole {out} {text} p = (omega (arith, p.behind), p.left ∙ patch_front out text)

-- ---- numbers one behind the other

append_none : (l : List ℕ) → l ++ [] ≡ l
append_none [] = refl
append_none (a ∷ l) = ap (λ (t : List ℕ). a ∷ t) (append_none l)

each_append : (text : ℕ → List ℕ) (a b : List ℕ) → text_each text (a ++ b) ≡ text_each text a ++ text_each text b
unfolding text_each
each_append text [] b = refl
each_append text (n ∷ a) b = ap (λ (t : List ℕ). text n ++ t) (each_append text a b) ∙ sym (append_assoc (text n) (text_each text a) (text_each text b))

each_next : (text : ℕ → List ℕ) (ns : List ℕ) (k : ℕ) → k < length ns → text_each text (take (k + 1) ns) ≡ text_each text (take k ns) ++ text (get_or ns k 0)
unfolding text_each
each_next text ns k h =
    rw (add-one, take-suc ns k 0 h)
    (each_append text (take k ns) (get_or ns k 0 ∷ []) ∙ ap (λ (t : List ℕ). text_each text (take k ns) ++ t) (append_none (text (get_or ns k 0))))

module _ (text : ℕ → List ℕ) (out front ns : List ℕ) (at : ℕ) where
  -- the first k of them behind a front
  abbrev pub Row : ℕ → List ℕ → ℕ → Type 0
  Row k x p = Put out at (front ++ text_each text (take k ns)) x p

  pub row_none : {x : List ℕ} {p : ℕ} → Put out at front x p → Row 0 x p
  unfolding text_each
  row_none {x} {p} h = subst (λ (t : List ℕ). Put out at t x p) (sym (append_none front)) h

  pub row_next :
      (k n : ℕ) {x y : List ℕ} {p q : ℕ} → Row k x p → Put x p (text n) y q → n ≡ get_or ns k 0 → k < length ns → at ≤ length out → Row (k + 1) y q
  row_next k n {x} {y} {p} {q} h g e l s =
      let same : (front ++ text_each text (take k ns)) ++ text n ≡ front ++ text_each text (take (k + 1) ns) =
      append_assoc front (text_each text (take k ns)) (text n)
      ∙ ap (λ (t : List ℕ). front ++ t) (ap (λ (j : ℕ). text_each text (take k ns) ++ text j) e ∙ sym (each_next text ns k l)) in
      subst (λ (t : List ℕ). Put out at t y q) same (put_next h g s)

  pub row_all : (k : ℕ) {x : List ℕ} {p : ℕ} → length ns ≤ k → Row k x p → Put out at (front ++ text_each text ns) x p
  row_all k {x} {p} h r = subst (λ (l : List ℕ). Put out at (front ++ text_each text l) x p) (take_all k ns h) r
