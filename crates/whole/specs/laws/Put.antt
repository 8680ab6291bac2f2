-- Lists that are filled by stores, stated place by place, for a list of anything; d is what stands past the end.
-- Assumes nothing.
use Rattle.std.specs.Prelude.{◌≡◌, List, ◌≢◌, ℕ, ◌+◌, ◌<◌, ℤ, pos, length, get_or, set}
use Rattle.std.proofs.Common.{◌∙◌, get_or-set_same, get_or-set_other, below_more}

module _ {A : Type 0} (d : A) where
  -- places g 0, .., g (i - 1) hold F; one more store, at g i
  pub put_any :
      (g : ℕ → ℕ) (F : ℕ → A) (l : List A) (i : ℕ) (v : A) → g i < length l → ((n : ℕ) → n < i → g n ≢ g i) → v ≡ F i →
      ((n : ℕ) → n < i → get_or l (g n) d ≡ F n) → (n : ℕ) → n < i + 1 → get_or (set l (g i) v) (g n) d ≡ F n
  put_any g F l i v b apart e h =
      below_more (λ n. get_or (set l (g i) v) (g n) d ≡ F n) i
      (λ n k. get_or-set_other l (g i) (g n) v d (apart n k) ∙ h n k) (get_or-set_same l (g i) v d b ∙ e)

  -- a store somewhere else
  pub keep_any :
      (g : ℕ → ℕ) (F : ℕ → A) (l : List A) (j : ℕ) (v : A) (m : ℕ) → ((n : ℕ) → n < m → g n ≢ j) → ((n : ℕ) → n < m → get_or l (g n) d ≡ F n) → (n : ℕ) →
      n < m → get_or (set l j v) (g n) d ≡ F n
  keep_any g F l j v m apart h n k = get_or-set_other l j (g n) v d (apart n k) ∙ h n k

-- the two laws for lists of whole numbers, whose places past the end hold 0
abbrev pub put_new :
    (g : ℕ → ℕ) (F : ℕ → ℤ) (l : List ℤ) (i : ℕ) (v : ℤ) → g i < length l → ((n : ℕ) → n < i → g n ≢ g i) → v ≡ F i →
    ((n : ℕ) → n < i → get_or l (g n) (pos 0) ≡ F n) → (n : ℕ) → n < i + 1 → get_or (set l (g i) v) (g n) (pos 0) ≡ F n
put_new = put_any (pos 0)

abbrev pub put_old :
    (g : ℕ → ℕ) (F : ℕ → ℤ) (l : List ℤ) (j : ℕ) (v : ℤ) (m : ℕ) → ((n : ℕ) → n < m → g n ≢ j) → ((n : ℕ) → n < m → get_or l (g n) (pos 0) ≡ F n) → (n : ℕ) →
    n < m → get_or (set l j v) (g n) (pos 0) ≡ F n
put_old = keep_any (pos 0)
