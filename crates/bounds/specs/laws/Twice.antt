-- Two levels of the low half taken together, and so LL2. One level makes a line half as big again, which three times over is more than 9 allows; but
-- two of them, without their floors, have the weights 1 2 8 2 7 16 32 16 7 2 8 2 1 over 64: 104, where twice one level would be 144.
-- Assumes nothing.
use Rattle.std.specs.Prelude.{◌≡◌, ℕ, zero, suc, ◌+◌, ◌*◌, ◌-◌, ◌≤◌, ◌<◌, ℤ, pos, ◌-ℤ◌, ◌*ℤ◌}
use Rattle.std.proofs.Math.Path.{refl, subst}
use Rattle.std.proofs.Common.{sym, ap, arith}
use Rattle.std.proofs.Math.Decide.{ℕ_discrete}
use Rattle.whole.specs.laws.Near.{Near, near_*}
use Rattle.wave_forth.specs.Halves.{line_low}
use Rattle.bounds.specs.laws.Gap.{over, under, near_parts, Gap, atom, bounded}
use Rattle.bounds.specs.laws.Lines.{mix5, mix5_gap, mix5_is, back2, back1, ahead, low5, low5_cong, low5_swap, low_line, off_near, line_more}

module _ {B : ℕ} (y : ℕ → ℤ) (p : (k : ℕ) → Near B (y k)) where
  within : (k : ℕ) → over (y k) + under (y k) ≤ B
  within k = near_parts (p k)

  abbrev row : (a b c d e : ℕ) → Gap (mix5 (y a) (y b) (y c) (y d) (y e))
  row a b c d e = mix5_gap (atom (y a)) (atom (y b)) (atom (y c)) (atom (y d)) (atom (y e))

  abbrev mixed : (a b c d e : ℕ) → ℤ
  mixed a b c d e = mix5 (y a) (y b) (y c) (y d) (y e)

  -- in the midst of a line
  middle : Near (104 * B) (mix5 (mixed 0 1 2 3 4) (mixed 2 3 4 5 6) (mixed 4 5 6 7 8) (mixed 6 7 8 9 10) (mixed 8 9 10 11 12))
  middle =
      let g = mix5_gap (row 0 1 2 3 4) (row 2 3 4 5 6) (row 4 5 6 7 8) (row 6 7 8 9 10) (row 8 9 10 11 12) in
      bounded g
      (omega (arith, within 0, within 1, within 2, within 3, within 4, within 5, within 6, within 7, within 8, within 9, within 10, within 11, within 12))
      (omega (arith, within 0, within 1, within 2, within 3, within 4, within 5, within 6, within 7, within 8, within 9, within 10, within 11, within 12))

  -- at its first place, which stands mirrored
  first : Near (104 * B) (mix5 (mixed 2 3 4 5 6) (mixed 0 1 2 3 4) (mixed 2 1 0 1 2) (mixed 0 1 2 3 4) (mixed 2 3 4 5 6))
  first =
      let g = mix5_gap (row 2 3 4 5 6) (row 0 1 2 3 4) (row 2 1 0 1 2) (row 0 1 2 3 4) (row 2 3 4 5 6) in
      bounded g (omega (arith, within 0, within 1, within 2, within 3, within 4, within 5, within 6))
      (omega (arith, within 0, within 1, within 2, within 3, within 4, within 5, within 6))

  -- at its last, past which stands the last even one
  last : Near (104 * B) (mix5 (mixed 0 1 2 3 4) (mixed 2 3 4 5 6) (mixed 4 5 6 7 8) (mixed 6 7 8 9 8) (mixed 4 5 6 7 8))
  last =
      let g = mix5_gap (row 0 1 2 3 4) (row 2 3 4 5 6) (row 4 5 6 7 8) (row 6 7 8 9 8) (row 4 5 6 7 8) in
      bounded g (omega (arith, within 0, within 1, within 2, within 3, within 4, within 5, within 6, within 7, within 8, within 9))
      (omega (arith, within 0, within 1, within 2, within 3, within 4, within 5, within 6, within 7, within 8, within 9))

-- a line of 4N numbers, twice forth
module _ {B : ℕ} (N : ℕ) (x : ℕ → ℤ) (p : (k : ℕ) → Near B (x k)) (big : 2 < N) where
  -- one of the five numbers that the second level looks at: where its own five stand
  at_places : (m a b c d e : ℕ) → a ≡ back2 m → b ≡ back1 m → c ≡ 2 * m → d ≡ 2 * m + 1 → e ≡ ahead (2 * N) m →
      mix5 (x a) (x b) (x c) (x d) (x e) ≡ low5 (2 * N) x m
  unfolding low5
  at_places m a b c d e q r s t u = mix5_is (ap x q) (ap x r) (ap x s) (ap x t) (ap x u)

  one : Near (104 * B) (low5 N (low5 (2 * N) x) 0)
  unfolding low5
  one =
      subst (Near (104 * B)) (mix5_is (at_places 2 2 3 4 5 6 refl refl refl refl (omega arith)) (at_places 1 0 1 2 3 4 refl refl refl refl (omega arith))
      (at_places 0 2 1 0 1 2 refl refl refl refl (omega arith)) (at_places 1 0 1 2 3 4 refl refl refl refl (omega arith))
      (at_places (ahead N 0) 2 3 4 5 6 (omega arith) (omega arith) (omega arith) (omega arith) (omega arith))) (first x p)

  -- where the number stands that is j - 6 from the middle
  abbrev spot : ℕ → ℕ → ℕ
  spot n j = 4 * n + j - 6 + (6 - (4 * n + j))

  spots : (n m j : ℕ) → 2 * m + 4 ≡ 4 * n + j → m + 1 < 2 * N →
      mix5 (x (spot n j)) (x (spot n (j + 1))) (x (spot n (j + 2))) (x (spot n (j + 3))) (x (spot n (j + 4))) ≡ low5 (2 * N) x m
  spots n m j e l =
      at_places m (spot n j) (spot n (j + 1)) (spot n (j + 2)) (spot n (j + 3)) (spot n (j + 4))
      (omega arith) (omega arith) (omega arith) (omega arith) (omega arith)

  some : (n : ℕ) → 0 < n → n + 1 < N → Near (104 * B) (low5 N (low5 (2 * N) x) n)
  unfolding low5
  some n l h =
      subst (Near (104 * B)) (mix5_is (spots n (back2 n) 0 (omega arith) (omega arith)) (spots n (back1 n) 2 (omega arith) (omega arith))
      (spots n (2 * n) 4 (omega arith) (omega arith)) (spots n (2 * n + 1) 6 (omega arith) (omega arith)) (spots n (ahead N n) 8 (omega arith) (omega arith)))
      (middle (λ j. x (spot n j)) (λ j. p (spot n j)))

  -- and the one that stands 10 - j before the end
  abbrev late : ℕ → ℕ
  late j = 4 * N + j - 10

  lates : (m j : ℕ) → 2 * m + 8 ≡ 4 * N + j → m + 1 < 2 * N →
      mix5 (x (late j)) (x (late (j + 1))) (x (late (j + 2))) (x (late (j + 3))) (x (late (j + 4))) ≡ low5 (2 * N) x m
  lates m j e l =
      at_places m (late j) (late (j + 1)) (late (j + 2)) (late (j + 3)) (late (j + 4))
      (omega arith) (omega arith) (omega arith) (omega arith) (omega arith)

  end : (n : ℕ) → n + 1 ≡ N → Near (104 * B) (low5 N (low5 (2 * N) x) n)
  unfolding low5
  end n h =
      subst (Near (104 * B)) (mix5_is (lates (back2 n) 0 (omega arith) (omega arith)) (lates (back1 n) 2 (omega arith) (omega arith))
      (lates (2 * n) 4 (omega arith) (omega arith))
      (at_places (2 * n + 1) (late 6) (late 7) (late 8) (late 9) (late 8) (omega arith) (omega arith) (omega arith) (omega arith) (omega arith))
      (lates (ahead N n) 4 (omega arith) (omega arith)))
      (last (λ j. x (late j)) (λ j. p (late j)))

  pub twice : (n : ℕ) → n < N → Near (104 * B) (low5 N (low5 (2 * N) x) n)
  twice zero l = one
  twice (suc n) l = by (ℕ_discrete (suc n + 1) N)
    where
      by : Dec (suc n + 1 ≡ N) → Near (104 * B) (low5 N (low5 (2 * N) x) (suc n))
      by (yes e) = end (suc n) e
      by (no e) = some (suc n) (omega arith) (omega arith)

-- ---- two levels of a tile's plane

module _ (g : ℕ → ℕ → ℤ) (p : (v u : ℕ) → Near 4096 (g v u)) where
  -- down and along at each level, and the same without floors
  abbrev pub down1 : ℕ → ℕ → ℤ
  down1 y u = line_low 32 (λ v. g v u) y

  abbrev pub both1 : ℕ → ℕ → ℤ
  both1 y x = line_low 32 (down1 y) x

  abbrev pub down2 : ℕ → ℕ → ℤ
  down2 r x = line_low 16 (λ y. both1 y x) r

  abbrev pub both2 : ℕ → ℕ → ℤ
  both2 r c = line_low 16 (down2 r) c

  abbrev flat1 : ℕ → ℕ → ℤ
  flat1 y u = low5 32 (λ v. g v u) y

  abbrev flat2 : ℕ → ℕ → ℤ
  flat2 r x = low5 16 (λ y. low5 32 (flat1 y) x) r

  -- what the floors have taken: 8, 160, 2,432, 33,280
  taken1 : (y x : ℕ) → y < 32 → x < 32 → Near 160 (pos 64 *ℤ both1 y x -ℤ low5 32 (flat1 y) x)
  taken1 y x i j = line_more 32 8 8 (down1 y) (flat1 y) x (omega arith) j (λ u l. low_line 32 (λ v. g v u) y (omega arith) i)

  taken2 : (r c : ℕ) → r < 16 → c < 16 → Near 33280 (pos 4096 *ℤ both2 r c -ℤ low5 16 (flat2 r) c)
  taken2 r c i j = line_more 16 512 2432 (down2 r) (flat2 r) c (omega arith) j
      (λ x l. line_more 16 64 160 (λ y. both1 y x) (λ y. low5 32 (flat1 y) x) r (omega arith) i (λ y m. taken1 y x m l))

  -- both passes down first, then both along
  turned : (r c : ℕ) → c < 16 → low5 16 (flat2 r) c ≡ low5 16 (low5 32 (λ u. low5 16 (λ y. flat1 y u) r)) c
  turned r c j = low5_cong 16 (flat2 r) (low5 32 (λ u. low5 16 (λ y. flat1 y u) r)) c (omega arith) j (λ x l. low5_swap 16 32 flat1 r x)

  flat_near : (r c : ℕ) → r < 16 → c < 16 → Near 44302336 (low5 16 (flat2 r) c)
  flat_near r c i j = subst (Near 44302336) (sym (turned r c j))
      (twice 16 (λ u. low5 16 (λ y. flat1 y u) r) (λ u. twice 16 (λ v. g v u) (λ v. p v u) (omega arith) r i) (omega arith) c j)

  pub both2_near : (r c : ℕ) → r < 16 → c < 16 → Near 10824 (both2 r c)
  both2_near r c i j =
      let h = off_near (pos 4096 *ℤ both2 r c) (taken2 r c i j) (flat_near r c i j) in
      record { near = omega (arith, h.near, near_* (pos 4096) (both2 r c)) }
