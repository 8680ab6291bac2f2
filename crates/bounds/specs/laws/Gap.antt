-- A signed number as a difference of two whole numbers, step by step, so that sums, multiples and bounds of signed numbers are questions about whole
-- numbers. The number is in the type; the two are fields.
-- Assumes nothing.
use Rattle.std.specs.Prelude.{◌≡◌, refl, ℕ, zero, suc, ◌+◌, ◌*◌, ◌≤◌, ◌<◌, ℤ, pos, negsuc, neg_ℤ, nat_abs, ◌+ℤ◌, ◌-ℤ◌, ◌*ℤ◌}
use Rattle.std.proofs.Common.{sym, ◌∙◌, ap, mul-add, div-add-mod', mod-lt, arith}
use Rattle.std.proofs.Math.IntN.{sub_ℕ}
use Rattle.std.specs.Int.Signed.{shr_z}
use Rattle.whole.specs.laws.Near.{Near}
use Rattle.whole.specs.laws.Floor.{sub_cases}

-- how far above 0, and how far below
unfoldable pub over : ℤ → ℕ
over (pos n) = n
over (negsuc n) = 0

unfoldable pub under : ℤ → ℕ
under (pos n) = 0
under (negsuc n) = suc n

pub parts_abs : (z : ℤ) → over z + under z ≡ nat_abs z
unfolding over under
parts_abs (pos n) = omega arith
parts_abs (negsuc n) = omega arith

pub pos_parts : (n : ℕ) → over (pos n) + 0 ≡ under (pos n) + n
unfolding over under
pos_parts n = omega arith

pub near_parts : {B : ℕ} {z : ℤ} → Near B z → over z + under z ≤ B
near_parts {B} {z} p = omega (arith, parts_abs z, p.near)

sub_parts : (a b : ℕ) → over (sub_ℕ a b) + b ≡ under (sub_ℕ a b) + a
unfolding over under
sub_parts a b = sub_cases a b (λ z. over z + b ≡ under z + a) (λ n e. omega arith) (λ n e. omega arith)

pub add_parts : (x y : ℤ) → over (x +ℤ y) + (under x + under y) ≡ under (x +ℤ y) + (over x + over y)
unfolding over under
add_parts (pos a) (pos b) = omega arith
add_parts (pos a) (negsuc b) = omega (arith, sub_parts a (suc b))
add_parts (negsuc a) (pos b) = omega (arith, sub_parts b (suc a))
add_parts (negsuc a) (negsuc b) = omega arith

pub neg_parts : (x : ℤ) → (over (neg_ℤ x) ≡ under x) × (under (neg_ℤ x) ≡ over x)
unfolding over under
neg_parts (pos zero) = (refl, refl)
neg_parts (pos (suc n)) = (refl, refl)
neg_parts (negsuc n) = (refl, refl)

pub times_parts : (k : ℕ) (x : ℤ) → over (pos k *ℤ x) + k * under x ≡ under (pos k *ℤ x) + k * over x
unfolding over under
times_parts k (pos a) = omega arith
times_parts k (negsuc a) = let p = neg_parts (pos (k * suc a)) in omega (arith, p.0, p.1)

pub times_is : (k o u a b p q : ℕ) → o + k * b ≡ u + k * a → a + q ≡ b + p → o + k * q ≡ u + k * p
times_is k o u a b p q e f =
    let g : k * a + k * q ≡ k * b + k * p = sym (mul-add k a q) ∙ ap (λ (n : ℕ). k * n) f ∙ mul-add k b p in omega arith

-- z is up less down
pub record Gap (z : ℤ) : Type 0 where
  pub up : ℕ
  pub down : ℕ
  pub is : over z + down ≡ under z + up

abbrev pub atom : (z : ℤ) → Gap z
atom z = record { up = over z; down = under z; is = omega arith }

abbrev pub whole : (n : ℕ) → Gap (pos n)
whole n = record { up = n; down = 0; is = pos_parts n }

abbrev pub negated : {x : ℤ} (p : Gap x) → Gap (neg_ℤ x)
negated {x} p = record { up = p.down; down = p.up; is = omega (arith, (neg_parts x).0, (neg_parts x).1, p.is) }

abbrev pub plus : {x y : ℤ} (p : Gap x) (q : Gap y) → Gap (x +ℤ y)
plus {x} {y} p q = record { up = p.up + q.up; down = p.down + q.down; is = omega (arith, add_parts x y, p.is, q.is) }

abbrev pub minus : {x y : ℤ} (p : Gap x) (q : Gap y) → Gap (x -ℤ y)
minus {x} {y} p q = record {
  up = p.up + q.down;
  down = p.down + q.up;
  is = omega (arith, add_parts x (neg_ℤ y), (neg_parts y).0, (neg_parts y).1, p.is, q.is);
}

abbrev pub times : {x : ℤ} (k : ℕ) (p : Gap x) → Gap (pos k *ℤ x)
times {x} k p = record {
  up = k * p.up;
  down = k * p.down;
  is = times_is k (over (pos k *ℤ x)) (under (pos k *ℤ x)) (over x) (under x) p.up p.down (times_parts k x) p.is;
}

shr_parts : (m : ℕ) (x : ℤ) → 0 < m →
    (m * over (shr_z x m) + under x ≤ over x + m * under (shr_z x m)) × (over x + m * under (shr_z x m) < m * over (shr_z x m) + under x + m)
unfolding over under
shr_parts m (pos a) h = (omega (arith, div-add-mod' a m, mod-lt a h), omega (arith, div-add-mod' a m, mod-lt a h))
shr_parts m (negsuc a) h = (omega (arith, div-add-mod' a m, mod-lt a h), omega (arith, div-add-mod' a m, mod-lt a h))

-- m times a floor over m is the number, or less than m below it
pub floored : {x : ℤ} (m : ℕ) (p : Gap x) → 0 < m →
    (m * over (shr_z x m) + p.down ≤ p.up + m * under (shr_z x m)) × (p.up + m * under (shr_z x m) < m * over (shr_z x m) + p.down + m)
floored {x} m p h = let f = shr_parts m x h in (omega (arith, f.0, p.is), omega (arith, f.1, p.is))

pub halved : {x : ℤ} (p : Gap x) →
    (2 * over (shr_z x 2) + p.down ≤ p.up + 2 * under (shr_z x 2)) × (p.up + 2 * under (shr_z x 2) < 2 * over (shr_z x 2) + p.down + 2)
halved p = floored 2 p (omega arith)

-- at most K from 0
pub bounded : {K : ℕ} {z : ℤ} (g : Gap z) → g.up ≤ g.down + K → g.down ≤ g.up + K → Near K z
unfolding over under
bounded {K} {z} g h l = go z g.is
  where
    go : (z : ℤ) → over z + g.down ≡ under z + g.up → Near K z
    go (pos n) e = record { near = omega arith }
    go (negsuc n) e = record { near = omega arith }

pub equal : {x y : ℤ} (p : Gap x) (q : Gap y) → p.up + q.down ≡ q.up + p.down → x ≡ y
unfolding over under
equal {x} {y} p q e = go x y p.is q.is
  where
    go : (x y : ℤ) → over x + p.down ≡ under x + p.up → over y + q.down ≡ under y + q.up → x ≡ y
    go (pos a) (pos b) u v = ap pos (omega arith)
    go (pos a) (negsuc b) u v = absurd (omega arith)
    go (negsuc a) (pos b) u v = absurd (omega arith)
    go (negsuc a) (negsuc b) u v = ap negsuc (omega arith)
