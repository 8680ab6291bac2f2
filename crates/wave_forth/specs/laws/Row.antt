-- The row pass forth on plain lists: a row into its low and its high half, which stand in two bands of one list.
use Rattle.std.specs.Prelude.{◌≡◌, refl, List, ◌≢◌, ℕ, ◌+◌, ◌*◌, ◌<◌, ℤ, pos, length, set}
use Rattle.std.proofs.Common.{sym, ◌∙◌, ap, subst, not-suc-le-zero, arith, length-set, get_or-set_other, below_more}
use Rattle.whole.specs.laws.Put.{put_new, put_old}
use Rattle.whole.specs.Tab.{at}
use Rattle.whole.specs.laws.Tab.{row_in}
use Rattle.wave_forth.specs.Halves.{line_high, line_low}

-- the q places from l on and those from h on have none in common
pub record Apart (q l h : ℕ) : Type 0 where
  pub apart : (i j : ℕ) → i < q → j < q → l + i ≢ h + j

-- the numbers from place s on
abbrev pub from : List ℤ → ℕ → ℕ → ℤ
from src s k = at src (s + k)

-- the first c numbers of both halves of the row x are done, and what is in neither half is as it was
pub record Split (n : ℕ) (x : ℕ → ℤ) (l h c : ℕ) (d₀ d : List ℤ) : Type 0 where
  pub same : length d ≡ length d₀
  pub lows : (i : ℕ) → i < c → at d (l + i) ≡ line_low n x i
  pub highs : (i : ℕ) → i < c → at d (h + i) ≡ line_high n x i
  pub kept : (k : ℕ) → ((i : ℕ) → i < n → k ≢ l + i) → ((i : ℕ) → i < n → k ≢ h + i) → at d k ≡ at d₀ k

pub split_start : (n : ℕ) (x : ℕ → ℤ) (l h : ℕ) (d : List ℤ) → Split n x l h 0 d d
split_start n x l h d = record { same = refl; lows = λ i k. absurd (not-suc-le-zero k); highs = λ i k. absurd (not-suc-le-zero k); kept = λ k p q. refl }

pub split_put :
    (n : ℕ) (x : ℕ → ℤ) (l h j : ℕ) (d₀ d : List ℤ) (u v : ℤ) → Apart n l h → j < n → l + j < length d → h + j < length d → u ≡ line_low n x j →
    v ≡ line_high n x j → Split n x l h j d₀ d → Split n x l h (j + 1) d₀ (set (set d (h + j) v) (l + j) u)
split_put n x l h j d₀ d u v a b bl bh e f p = record {
  same = simp length-set p.same;
  lows = put_new (λ i. l + i) (line_low n x) (set d (h + j) v) j u (simp length-set bl) (λ i k. omega arith) e
      (put_old (λ i. l + i) (line_low n x) d (h + j) v j (λ i k. a.apart i j (omega arith) b) p.lows);
  highs = put_old (λ i. h + i) (line_high n x) (set d (h + j) v) (l + j) u (j + 1) (λ i k g. a.apart j i b (omega arith) (sym g))
      (put_new (λ i. h + i) (line_high n x) d j v bh (λ i k. omega arith) f p.highs);
  kept = λ k y z. get_or-set_other (set d (h + j) v) (l + j) k u (pos 0) (y j b) ∙ get_or-set_other d (h + j) k v (pos 0) (z j b) ∙ p.kept k y z;
}

pub split_whole : {n : ℕ} {x : ℕ → ℤ} {l h c : ℕ} {d₀ d : List ℤ} → c ≡ n → Split n x l h c d₀ d → Split n x l h n d₀ d
split_whole {n} {x} {l} {h} {c} {d₀} {d} e p = subst (λ (k : ℕ). Split n x l h k d₀ d) e p

-- r rows of w numbers of src, from place s on, are done: their halves are the first rows of the n by n bands at l and at h
pub record Bands (n w s : ℕ) (src : List ℤ) (l h r : ℕ) (d₀ d : List ℤ) : Type 0 where
  pub same : length d ≡ length d₀
  pub lows : (y : ℕ) → y < r → (i : ℕ) → i < n → at d (l + (y * n + i)) ≡ line_low n (from src (s + y * w)) i
  pub highs : (y : ℕ) → y < r → (i : ℕ) → i < n → at d (h + (y * n + i)) ≡ line_high n (from src (s + y * w)) i
  pub kept : (k : ℕ) → ((i : ℕ) → i < n * n → k ≢ l + i) → ((i : ℕ) → i < n * n → k ≢ h + i) → at d k ≡ at d₀ k

pub bands_start : (n w s : ℕ) (src : List ℤ) (l h : ℕ) (d : List ℤ) → Bands n w s src l h 0 d d
bands_start n w s src l h d = record { same = refl; lows = λ y k. absurd (not-suc-le-zero k); highs = λ y k. absurd (not-suc-le-zero k); kept = λ k p q. refl }

pub bands_whole : {n w s : ℕ} {src : List ℤ} {l h r : ℕ} {d₀ d : List ℤ} → r ≡ n → Bands n w s src l h r d₀ d → Bands n w s src l h n d₀ d
bands_whole {n} {w} {s} {src} {l} {h} {r} {d₀} {d} e p = subst (λ (k : ℕ). Bands n w s src l h k d₀ d) e p

module _ (n r l h : ℕ) (b : r < n) (a : Apart (n * n) l h) where
  in_row : (i : ℕ) → i < n → r * n + i < n * n
  in_row i k = omega (arith, row_in r n n b)

  -- rows of bands that are apart are apart
  pub row_apart : Apart n (l + r * n) (h + r * n)
  row_apart = record { apart = λ i j p q e. a.apart (r * n + i) (r * n + j) (in_row i p) (in_row j q) (omega arith) }

  pub bands_turn :
      (w s : ℕ) (src d₀ d e : List ℤ) → Split n (from src (s + r * w)) (l + r * n) (h + r * n) n d e → Bands n w s src l h r d₀ d →
      Bands n w s src l h (r + 1) d₀ e
  bands_turn w s src d₀ d e v p = record {
    same = v.same ∙ p.same;
    lows = below_more (λ y. (i : ℕ) → i < n → at e (l + (y * n + i)) ≡ line_low n (from src (s + y * w)) i) r
        (λ y k i j.
        v.kept (l + (y * n + i)) (λ m g. omega (arith, row_in y r n k))
        (λ m g f. a.apart (y * n + i) (r * n + m) (omega (arith, row_in y n n (before k))) (in_row m g) (omega arith)) ∙ p.lows y k i j)
        (λ i j. let z : l + (r * n + i) ≡ l + r * n + i = omega arith in ap (at e) z ∙ v.lows i j);
    highs = below_more (λ y. (i : ℕ) → i < n → at e (h + (y * n + i)) ≡ line_high n (from src (s + y * w)) i) r
        (λ y k i j.
        v.kept (h + (y * n + i)) (λ m g f. a.apart (r * n + m) (y * n + i) (in_row m g) (omega (arith, row_in y n n (before k))) (omega arith))
        (λ m g. omega (arith, row_in y r n k)) ∙ p.highs y k i j)
        (λ i j. let z : h + (r * n + i) ≡ h + r * n + i = omega arith in ap (at e) z ∙ v.highs i j);
    kept = λ k y z. v.kept k (λ i g f. y (r * n + i) (in_row i g) (omega arith)) (λ i g f. z (r * n + i) (in_row i g) (omega arith)) ∙ p.kept k y z;
  }
    where
      before : {y : ℕ} → y < r → y < n
      before k = omega arith

-- the same rows under other names
pub bands_as :
    {n w v s t : ℕ} {src new : List ℤ} {l h r : ℕ} {d₀ d : List ℤ} → w ≡ v → s ≡ t → src ≡ new → Bands n w s src l h r d₀ d → Bands n v t new l h r d₀ d
bands_as {n} {w} {v} {s} {t} {src} {new} {l} {h} {r} {d₀} {d} e f g p =
    subst (λ (x : ℕ). Bands n x t new l h r d₀ d) e (subst (λ (x : ℕ). Bands n w x new l h r d₀ d) f (subst (λ (x : List ℤ). Bands n w s x l h r d₀ d) g p))
