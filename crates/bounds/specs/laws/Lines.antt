-- One line of the way forth against its linear form. Eight times the low half is the form, but for what four floors take: 8 at most.
-- Assumes nothing.
use Rattle.std.specs.Prelude.{◌≡◌, ℕ, zero, suc, ◌+◌, ◌*◌, ◌-◌, ◌/◌, ◌<◌, min, ℤ, pos, neg_ℤ, ◌+ℤ◌, ◌-ℤ◌, ◌*ℤ◌}
use Rattle.std.proofs.Common.{sym, ◌∙◌, ap, subst, arith}
use Rattle.std.proofs.Math.IntN.{+ℤ_comm, -ℤ-+ℤ_cancel}
use Rattle.whole.specs.laws.Near.{Near, near_*, add_near, sub_near, half_near, mul_near, lit_near, wide_near}
use Rattle.whole.specs.laws.Sums.{sums, mul_assoc, distrib_l, mul_neg}
use Rattle.wave_back.specs.Line.{half_z}
use Rattle.wave_forth.specs.Halves.{high_z, low_z, line_high, line_low}
use Rattle.bounds.specs.laws.Gap.{over, under, near_parts, halved, Gap, atom, plus, minus, times, bounded, equal}

-- five numbers in a row, with the weights -1 2 6 2 -1
unfoldable pub mix5 : ℤ → ℤ → ℤ → ℤ → ℤ → ℤ
mix5 a b c d e = pos 2 *ℤ b +ℤ pos 6 *ℤ c +ℤ pos 2 *ℤ d -ℤ a -ℤ e

pub mix5_parts : {a b c d e : ℤ} (p : Gap a) (q : Gap b) (r : Gap c) (s : Gap d) (t : Gap e) →
    over (mix5 a b c d e) + (2 * q.down + 6 * r.down + 2 * s.down + p.up + t.up)
    ≡ under (mix5 a b c d e) + (2 * q.up + 6 * r.up + 2 * s.up + p.down + t.down)
unfolding mix5
mix5_parts p q r s t = let g = minus (minus (plus (plus (times 2 q) (times 6 r)) (times 2 s)) p) t in omega (arith, g.is)

abbrev pub mix5_gap : {a b c d e : ℤ} → Gap a → Gap b → Gap c → Gap d → Gap e → Gap (mix5 a b c d e)
mix5_gap p q r s t = record {
  up = 2 * q.up + 6 * r.up + 2 * s.up + p.down + t.down;
  down = 2 * q.down + 6 * r.down + 2 * s.down + p.up + t.up;
  is = mix5_parts p q r s t;
}

-- the places that L[n] looks at beside 2n and 2n + 1: before the first place the line stands mirrored, past the last even place stands that place
abbrev pub back2 : ℕ → ℕ
back2 n = 2 * n - 2 + (2 - 2 * n)

abbrev pub back1 : ℕ → ℕ
back1 n = 2 * n - 1 + (1 - 2 * n)

abbrev pub ahead : ℕ → ℕ → ℕ
ahead N n = 2 * min (n + 1) (N - 1)

-- eight times L[n], without its floors
unfoldable pub low5 : ℕ → (ℕ → ℤ) → ℕ → ℤ
low5 N x n = mix5 (x (back2 n)) (x (back1 n)) (x (2 * n)) (x (2 * n + 1)) (x (ahead N n))

pub mix5_is : {a b c d e a' b' c' d' e' : ℤ} → a ≡ a' → b ≡ b' → c ≡ c' → d ≡ d' → e ≡ e' → mix5 a b c d e ≡ mix5 a' b' c' d' e'
mix5_is p q r s t = cc

mix5_near : {B : ℕ} {a b c d e : ℤ} → Near B a → Near B b → Near B c → Near B d → Near B e → Near (12 * B) (mix5 a b c d e)
mix5_near {B} {a} {b} {c} {d} {e} p q r s t =
    let g = mix5_gap (atom a) (atom b) (atom c) (atom d) (atom e) in
    let pa = near_parts p in
    let pb = near_parts q in
    let pc = near_parts r in
    let pd = near_parts s in
    let pe = near_parts t in
    bounded g (omega (arith, pa, pb, pc, pd, pe)) (omega (arith, pa, pb, pc, pd, pe))

-- ---- a line

-- the low number at c, from the two high ones beside it
abbrev low_of : ℤ → ℤ → ℤ → ℤ → ℤ → ℤ
low_of a b c d e = low_z c (high_z b a c) (high_z d c e)

line : (a b c d e : ℤ) → Near 8 (pos 8 *ℤ low_of a b c d e -ℤ mix5 a b c d e)
line a b c d e =
    let u = halved (plus (atom a) (atom c)) in
    let v = halved (plus (atom c) (atom e)) in
    let g = halved (minus (atom b) (atom (half_z (a +ℤ c)))) in
    let h = halved (minus (atom d) (atom (half_z (c +ℤ e)))) in
    let l = halved (plus (atom (high_z b a c)) (atom (high_z d c e))) in
    let z = minus (times 8 (plus (atom c) (atom (half_z (high_z b a c +ℤ high_z d c e))))) (mix5_gap (atom a) (atom b) (atom c) (atom d) (atom e)) in
    bounded z (omega (arith, u.0, v.0, g.0, h.0, l.0, u.1, v.1, g.1, h.1, l.1))
    (omega (arith, u.0, v.0, g.0, h.0, l.0, u.1, v.1, g.1, h.1, l.1))

-- before the first place the line stands mirrored
line_first : (c d e : ℤ) → Near 8 (pos 8 *ℤ low_z c (high_z d c e) (high_z d c e) -ℤ mix5 e d c d e)
line_first c d e =
    subst (λ (z : ℤ). Near 8 (pos 8 *ℤ low_z c (half_z (d -ℤ half_z z)) (high_z d c e) -ℤ mix5 e d c d e)) (+ℤ_comm e c) (line e d c d e)

pub low_line : (N : ℕ) (x : ℕ → ℤ) (n : ℕ) → 1 < N → n < N → Near 8 (pos 8 *ℤ line_low N x n -ℤ low5 N x n)
unfolding line_low line_high low5
low_line N x zero o l =
    subst (λ (k : ℕ). Near 8 (pos 8 *ℤ low_z (x 0) (high_z (x 1) (x 0) (x k)) (high_z (x 1) (x 0) (x k)) -ℤ mix5 (x 2) (x 1) (x 0) (x 1) (x k)))
    (omega arith) (line_first (x 0) (x 1) (x 2))
low_line N x (suc n) o l =
    let a = x (back2 (suc n)) in
    let b = x (back1 (suc n)) in
    let c = x (2 * suc n) in
    let d = x (2 * suc n + 1) in
    let e = x (ahead N (suc n)) in
    let same_low : line_low N x (suc n) ≡ low_of a b c d e = low_is (line_high N x (suc n)) (ap x (omega arith)) (ap x (omega arith)) (ap x (omega arith)) in
    subst (λ (z : ℤ). Near 8 (pos 8 *ℤ z -ℤ mix5 a b c d e)) (sym same_low) (line a b c d e)
  where
    low_is : {a b c f a' b' : ℤ} (h : ℤ) → a ≡ a' → b ≡ b' → f ≡ c → low_z c (high_z b a f) h ≡ low_z c (high_z b' a' c) h
    low_is h p q r = cc

-- ---- the form is linear

-- and at most 12 times as big
pub low5_near : {B : ℕ} (N : ℕ) (x : ℕ → ℤ) (n : ℕ) → 1 < N → n < N → ((k : ℕ) → k < 2 * N → Near B (x k)) → Near (12 * B) (low5 N x n)
unfolding low5
low5_near N x n o l p = mix5_near (p _ (omega arith)) (p _ (omega arith)) (p _ (omega arith)) (p _ (omega arith)) (p _ (omega arith))

pub low5_cong : (N : ℕ) (x y : ℕ → ℤ) (n : ℕ) → 1 < N → n < N → ((k : ℕ) → k < 2 * N → x k ≡ y k) → low5 N x n ≡ low5 N y n
unfolding low5
low5_cong N x y n o l p = mix5_is (p _ (omega arith)) (p _ (omega arith)) (p _ (omega arith)) (p _ (omega arith)) (p _ (omega arith))

mix5_less : (a b c d e a' b' c' d' e' : ℤ) → mix5 (a -ℤ a') (b -ℤ b') (c -ℤ c') (d -ℤ d') (e -ℤ e') ≡ mix5 a b c d e -ℤ mix5 a' b' c' d' e'
mix5_less a b c d e a' b' c' d' e' =
    equal (mix5_gap (minus (atom a) (atom a')) (minus (atom b) (atom b')) (minus (atom c) (atom c')) (minus (atom d) (atom d')) (minus (atom e) (atom e')))
    (minus (mix5_gap (atom a) (atom b) (atom c) (atom d) (atom e)) (mix5_gap (atom a') (atom b') (atom c') (atom d') (atom e'))) (omega arith)

mix5_times : (k : ℕ) (a b c d e : ℤ) → mix5 (pos k *ℤ a) (pos k *ℤ b) (pos k *ℤ c) (pos k *ℤ d) (pos k *ℤ e) ≡ pos k *ℤ mix5 a b c d e
unfolding mix5
mix5_times k a b c d e = simp sums

pub low5_less : (N k : ℕ) (x y : ℕ → ℤ) (n : ℕ) → low5 N (λ i. pos k *ℤ x i -ℤ y i) n ≡ pos k *ℤ low5 N x n -ℤ low5 N y n
unfolding low5
low5_less N k x y n = mix5_less _ _ _ _ _ _ _ _ _ _ ∙ ap (λ (z : ℤ). z -ℤ low5 N y n) (mix5_times k _ _ _ _ _)

-- down and along, in either order
module _ (f : ℕ → ℕ → ℤ) (a b c d e : ℕ) where
  abbrev row : (r : ℕ) → Gap (mix5 (f r a) (f r b) (f r c) (f r d) (f r e))
  row r = mix5_gap (atom (f r a)) (atom (f r b)) (atom (f r c)) (atom (f r d)) (atom (f r e))

  abbrev column : (r s t u v c : ℕ) → Gap (mix5 (f r c) (f s c) (f t c) (f u c) (f v c))
  column r s t u v c = mix5_gap (atom (f r c)) (atom (f s c)) (atom (f t c)) (atom (f u c)) (atom (f v c))

  mix5_swap : (r s t u v : ℕ) →
      mix5 (mix5 (f r a) (f r b) (f r c) (f r d) (f r e)) (mix5 (f s a) (f s b) (f s c) (f s d) (f s e)) (mix5 (f t a) (f t b) (f t c) (f t d) (f t e))
      (mix5 (f u a) (f u b) (f u c) (f u d) (f u e)) (mix5 (f v a) (f v b) (f v c) (f v d) (f v e))
      ≡ mix5 (mix5 (f r a) (f s a) (f t a) (f u a) (f v a)) (mix5 (f r b) (f s b) (f t b) (f u b) (f v b)) (mix5 (f r c) (f s c) (f t c) (f u c) (f v c))
      (mix5 (f r d) (f s d) (f t d) (f u d) (f v d)) (mix5 (f r e) (f s e) (f t e) (f u e) (f v e))
  mix5_swap r s t u v =
      equal (mix5_gap (row r) (row s) (row t) (row u) (row v))
      (mix5_gap (column r s t u v a) (column r s t u v b) (column r s t u v c) (column r s t u v d) (column r s t u v e)) (omega arith)

pub low5_swap : (N M : ℕ) (f : ℕ → ℕ → ℤ) (i j : ℕ) → low5 N (λ r. low5 M (f r) j) i ≡ low5 M (λ c. low5 N (λ r. f r c) i) j
unfolding low5
low5_swap N M f i j = mix5_swap f _ _ _ _ _ _ _ _ _ _

-- ---- bounds

-- what is within E of a number that is within M of 0
pub off_near : {E M : ℕ} {w : ℤ} (z : ℤ) → Near E (z -ℤ w) → Near M w → Near (E + M) z
off_near {E} {M} {w} z p q = subst (Near (E + M)) (-ℤ-+ℤ_cancel z w) (add_near p q)

-- the low half is at most half as big again, and 1
pub low_tight : {B : ℕ} (N : ℕ) (x : ℕ → ℤ) (n : ℕ) → 1 < N → n < N → ((k : ℕ) → k < 2 * N → Near B (x k)) → Near (3 * B / 2 + 1) (line_low N x n)
low_tight {B} N x n o l p =
    let h = off_near (pos 8 *ℤ line_low N x n) (low_line N x n o l) (low5_near N x n o l p) in
    record { near = omega (arith, h.near, near_* (pos 8) (line_low N x n)) }

-- the high half no bigger
pub high_tight : {B : ℕ} (N : ℕ) (x : ℕ → ℤ) (n : ℕ) → n < N → ((k : ℕ) → k < 2 * N → Near B (x k)) → Near B (line_high N x n)
unfolding line_high
high_tight {B} N x n l p =
    let around = half_near (add_near (p (2 * n) (omega arith)) (p (ahead N n) (omega arith))) in
    wide_near (omega arith) (half_near (sub_near (p (2 * n + 1) (omega arith)) around))

times_less : (k : ℕ) (a b : ℤ) → pos k *ℤ (a -ℤ b) ≡ pos k *ℤ a -ℤ pos k *ℤ b
times_less k a b = distrib_l (pos k) a (neg_ℤ b) ∙ ap (λ (z : ℤ). pos k *ℤ a +ℤ z) (mul_neg (pos k) b)

over_again : (a b c : ℤ) → a -ℤ b +ℤ (b -ℤ c) ≡ a -ℤ c
over_again a b c = equal (plus (minus (atom a) (atom b)) (minus (atom b) (atom c))) (minus (atom a) (atom c)) (omega arith)

-- a line more: y, S times over, is within E of f
pub line_more : (N S E : ℕ) (y f : ℕ → ℤ) (n : ℕ) → 1 < N → n < N → ((k : ℕ) → k < 2 * N → Near E (pos S *ℤ y k -ℤ f k)) →
    Near (S * 8 + 12 * E) (pos (S * 8) *ℤ line_low N y n -ℤ low5 N f n)
line_more N S E y f n o l p =
    let a = line_low N y n in
    let b = low5 N y n in
    let c = low5 N f n in
    let u = mul_near (lit_near (pos S)) (low_line N y n o l) in
    let v = subst (Near (12 * E)) (low5_less N S y f n) (low5_near N (λ k. pos S *ℤ y k -ℤ f k) n o l p) in
    let e : pos S *ℤ (pos 8 *ℤ a -ℤ b) +ℤ (pos S *ℤ b -ℤ c) ≡ pos S *ℤ (pos 8 *ℤ a) -ℤ c =
    ap (λ (z : ℤ). z +ℤ (pos S *ℤ b -ℤ c)) (times_less S (pos 8 *ℤ a) b) ∙ over_again (pos S *ℤ (pos 8 *ℤ a)) (pos S *ℤ b) c in
    subst (Near (S * 8 + 12 * E)) (e ∙ ap (λ (z : ℤ). z -ℤ c) (sym (mul_assoc (pos S) (pos 8) a))) (add_near u v)
