-- Floors of sums and of floors: what lets a product of 38 bits be computed in 32.
-- Assumes nothing.
use Rattle.std.specs.Prelude.{◌≡◌, refl, ℕ, zero, suc, ◌+◌, ◌*◌, ◌-◌, ◌/◌, ◌%◌, ◌≤◌, ◌<◌, ltb, ℤ, pos, negsuc, neg_ℤ, ◌+ℤ◌, ◌-ℤ◌, ◌*ℤ◌}
use Rattle.std.proofs.Common.{sym, ◌∙◌, ap, div-add-mod', mod-lt, arith, ltb→lt, nltb→le}
use Rattle.std.proofs.Math.Nat.{div-div-eq-div-mul}
use Rattle.std.proofs.Math.Arith.{digits_div}
use Rattle.std.proofs.Math.IntN.{sub_ℕ, +ℤ_assoc, +ℤ_comm, +ℤ-neg_ℤ_cancel}
use Rattle.std.specs.Int.Signed.{shr_z}
use Rattle.whole.specs.laws.Near.{cond_ind}
use Rattle.whole.specs.laws.Sums.{distrib}

-- a - b: by cases, with the fact that omega wants
pub sub_cases : (a b : ℕ) (P : ℤ → Type 0) → ((n : ℕ) → a + suc n ≡ b → P (negsuc n)) → ((n : ℕ) → a ≡ b + n → P (pos n)) → P (sub_ℕ a b)
sub_cases a b P f g =
    cond_ind (ltb a b) (negsuc (b - suc a)) (pos (a - b)) P
    (λ t. let h : a < b = ltb→lt a b t in f (b - suc a) (omega arith))
    (λ t. let h : b ≤ a = nltb→le a b t in g (a - b) (omega arith))

neg_plus : (n r : ℕ) → 0 < n → neg_ℤ (pos n) +ℤ pos r ≡ sub_ℕ r n
neg_plus zero r h = absurd (omega arith)
neg_plus (suc n) r h = refl

-- a floor of a floor
pub shr-shr : (z : ℤ) (a b : ℕ) → shr_z (shr_z z a) b ≡ shr_z z (a * b)
shr-shr (pos n) a b = ap pos (div-div-eq-div-mul n a b)
shr-shr (negsuc n) a b = ap negsuc (div-div-eq-div-mul n a b)

-- a whole number of m, and less than m more
pub shr_digits : (q : ℤ) (m r : ℕ) → r < m → shr_z (q *ℤ pos m +ℤ pos r) m ≡ q
shr_digits (pos q) m r h = ap pos (digits_div q h)
shr_digits (negsuc q) m r h =
    ap (λ (z : ℤ). shr_z z m) (neg_plus (suc q * m) r (omega arith))
    ∙ sub_cases r (suc q * m) (λ z. shr_z z m ≡ negsuc q)
    (λ n k.
    let e : n ≡ q * m + (m - suc r) = omega arith in
    let l : m - suc r < m = omega arith in
    ap (λ (i : ℕ). negsuc (i / m)) e ∙ ap negsuc (digits_div q l))
    (λ n k. absurd (omega arith))

-- shr_z is the floor, for a sceptical reader: z is m times it and a rest, and the rest is from 0 to m - 1
pub rest : ℤ → ℕ → ℕ
rest (pos a) m = a % m
rest (negsuc a) m = m - suc (a % m)

pub rest_below : (z : ℤ) (m : ℕ) → 0 < m → rest z m < m
unfolding rest
rest_below (pos a) m h = mod-lt a h
rest_below (negsuc a) m h = omega arith

pub floor_is : (z : ℤ) (m : ℕ) → 0 < m → shr_z z m *ℤ pos m +ℤ pos (rest z m) ≡ z
unfolding rest
floor_is (pos a) m h = ap pos (div-add-mod' a m)
floor_is (negsuc a) m h =
    let d : a / m * m + a % m ≡ a = div-add-mod' a m in
    let l : a % m < m = mod-lt a h in
    neg_plus (suc (a / m) * m) (m - suc (a % m)) (omega arith)
    ∙ sub_cases (m - suc (a % m)) (suc (a / m) * m) (λ z. z ≡ negsuc a) (λ n k. ap negsuc (omega arith)) (λ n k. absurd (omega arith))

-- what m times the floor leaves
pub rest_is : (z : ℤ) (m : ℕ) → 0 < m → z -ℤ shr_z z m *ℤ pos m ≡ pos (rest z m)
rest_is z m h =
    let q = shr_z z m *ℤ pos m in
    ap (λ (x : ℤ). x -ℤ q) (sym (floor_is z m h) ∙ +ℤ_comm q (pos (rest z m))) ∙ +ℤ-neg_ℤ_cancel (pos (rest z m)) q

-- whole parts come out of a floor
pub shr_sum : (a b : ℤ) (m : ℕ) → 0 < m → shr_z (a *ℤ pos m +ℤ b) m ≡ a +ℤ shr_z b m
shr_sum a b m h =
    let q = shr_z b m in
    let r = rest b m in
    ap (λ (z : ℤ). shr_z (a *ℤ pos m +ℤ z) m) (sym (floor_is b m h))
    ∙ ap (λ (z : ℤ). shr_z z m) (sym (+ℤ_assoc (a *ℤ pos m) (q *ℤ pos m) (pos r)) ∙ ap (λ (z : ℤ). z +ℤ pos r) (sym (distrib a q (pos m))))
    ∙ shr_digits (a +ℤ q) m r (rest_below b m h)
