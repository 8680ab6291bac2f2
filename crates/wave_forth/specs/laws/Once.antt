-- The promise of the row pass forth leaves one list.
-- Assumes nothing.
use Rattle.std.specs.Prelude.{◌≡◌, List, ◌≢◌, ℕ, ◌+◌, ◌*◌, ◌-◌, ◌/◌, ◌%◌, ◌≤◌, ◌<◌, ℤ, pos}
use Rattle.std.proofs.Common.{sym, ◌∙◌, ap, div-add-mod', div-lt_iff_lt-mul, mod-lt, arith, ext_get_or}
use Rattle.std.proofs.Math.Decide.{dec_lt}
use Rattle.whole.specs.Tab.{at}
use Rattle.wave_forth.specs.laws.Row.{Bands}

module _ (n w s : ℕ) (src : List ℤ) (l h : ℕ) (d₀ d e : List ℤ) (one : 1 ≤ n) (p : Bands n w s src l h n d₀ d) (q : Bands n w s src l h n d₀ e) where
  -- a place of a band is a place of one of its rows
  in_band :
      (m k : ℕ) (f : ℕ → ℕ → ℤ) → m ≤ k → k < m + n * n → ((y : ℕ) → y < n → (i : ℕ) → i < n → at d (m + (y * n + i)) ≡ f y i) →
      ((y : ℕ) → y < n → (i : ℕ) → i < n → at e (m + (y * n + i)) ≡ f y i) → at d k ≡ at e k
  in_band m k f a b u v =
      let y : (k - m) / n < n = (div-lt_iff_lt-mul {k = n} {x = k - m} {y = n} (omega arith)).1 (omega arith) in
      let x : (k - m) % n < n = mod-lt (k - m) {m = n} (omega arith) in
      let z : m + ((k - m) / n * n + (k - m) % n) ≡ k = omega (arith, div-add-mod' (k - m) n) in
      ap (at d) (sym z) ∙ u ((k - m) / n) y ((k - m) % n) x ∙ sym (v ((k - m) / n) y ((k - m) % n) x) ∙ ap (at e) z

  high : (k : ℕ) → ((i : ℕ) → i < n * n → k ≢ l + i) → Dec (k < h) → Dec (k < h + n * n) → at d k ≡ at e k
  high k o (no a) (yes b) = in_band h k _ (omega arith) b p.highs q.highs
  high k o (yes a) b = p.kept k o (λ i g z. omega arith) ∙ sym (q.kept k o (λ i g z. omega arith))
  high k o (no a) (no b) = p.kept k o (λ i g z. omega arith) ∙ sym (q.kept k o (λ i g z. omega arith))

  place : (k : ℕ) → Dec (k < l) → Dec (k < l + n * n) → at d k ≡ at e k
  place k (no a) (yes b) = in_band l k _ (omega arith) b p.lows q.lows
  place k (yes a) b = high k (λ i g z. omega arith) (dec_lt k h) (dec_lt k (h + n * n))
  place k (no a) (no b) = high k (λ i g z. omega arith) (dec_lt k h) (dec_lt k (h + n * n))

  pub bands_once : d ≡ e
  bands_once = ext_get_or (pos 0) d e (p.same ∙ sym q.same) (λ k i. place k (dec_lt k l) (dec_lt k (l + n * n)))
