-- Sums of products of whole numbers, brought to one form: `simp sums` proves an equation between two of them.
-- Assumes nothing.
use Rattle.std.specs.Prelude.{◌≡◌, refl, zero, suc, ◌*◌, ℤ, pos, negsuc, neg_ℤ, ◌+ℤ◌, ◌-ℤ◌, ◌*ℤ◌}
use Rattle.std.proofs.Common.{sym, ◌∙◌, ap}
use Rattle.std.proofs.Math.Nat as N
use Rattle.std.proofs.Math.IntN.{suc_ℤ, pred_ℤ, +ℤ_assoc, +ℤ_comm, +ℤ_idl, zero-*ℤ, suc_ℤ-+ℤ, pred_ℤ-+ℤ, suc_ℤ-*ℤ, pred_ℤ-*ℤ, *ℤ_comm, negsuc-*ℤ-pos}
use Rattle.std.proofs.Math.IntN.{neg_ℤ-neg_ℤ, neg_ℤ-+ℤ}

-- the last two of three change places
pub swap : (a b c : ℤ) → a +ℤ b +ℤ c ≡ a +ℤ c +ℤ b
swap a b c = +ℤ_assoc a b c ∙ ap (λ (z : ℤ). a +ℤ z) (+ℤ_comm b c) ∙ sym (+ℤ_assoc a c b)

up : (a q k : ℤ) → (a +ℤ q) *ℤ k ≡ a *ℤ k +ℤ q *ℤ k → (suc_ℤ a +ℤ q) *ℤ k ≡ suc_ℤ a *ℤ k +ℤ q *ℤ k
up a q k h =
    ap (λ (z : ℤ). z *ℤ k) (suc_ℤ-+ℤ a q) ∙ suc_ℤ-*ℤ (a +ℤ q) k ∙ ap (λ (z : ℤ). z +ℤ k) h
    ∙ swap (a *ℤ k) (q *ℤ k) k ∙ ap (λ (z : ℤ). z +ℤ q *ℤ k) (sym (suc_ℤ-*ℤ a k))

down : (a q k : ℤ) → (a +ℤ q) *ℤ k ≡ a *ℤ k +ℤ q *ℤ k → (pred_ℤ a +ℤ q) *ℤ k ≡ pred_ℤ a *ℤ k +ℤ q *ℤ k
down a q k h =
    ap (λ (z : ℤ). z *ℤ k) (pred_ℤ-+ℤ a q) ∙ pred_ℤ-*ℤ (a +ℤ q) k ∙ ap (λ (z : ℤ). z -ℤ k) h
    ∙ swap (a *ℤ k) (q *ℤ k) (neg_ℤ k) ∙ ap (λ (z : ℤ). z +ℤ q *ℤ k) (sym (pred_ℤ-*ℤ a k))

none : (q k : ℤ) → (pos zero +ℤ q) *ℤ k ≡ pos zero *ℤ k +ℤ q *ℤ k
none q k = ap (λ (z : ℤ). z *ℤ k) (+ℤ_idl q) ∙ sym (+ℤ_idl (q *ℤ k)) ∙ ap (λ (z : ℤ). z +ℤ q *ℤ k) (sym (zero-*ℤ k))

pub distrib : (a q k : ℤ) → (a +ℤ q) *ℤ k ≡ a *ℤ k +ℤ q *ℤ k
distrib (pos zero) q k = none q k
distrib (pos (suc n)) q k = up (pos n) q k (distrib (pos n) q k)
distrib (negsuc zero) q k = down (pos zero) q k (none q k)
distrib (negsuc (suc n)) q k = down (negsuc n) q k (distrib (negsuc n) q k)

-- a sign comes out of a product
pub neg_mul : (b c : ℤ) → neg_ℤ b *ℤ c ≡ neg_ℤ (b *ℤ c)
neg_mul (pos zero) c = zero-*ℤ c ∙ ap neg_ℤ (sym (zero-*ℤ c))
neg_mul (pos (suc n)) (pos c) = refl
neg_mul (pos (suc n)) (negsuc c) = sym (neg_ℤ-neg_ℤ (pos (suc n * suc c)))
neg_mul (negsuc n) (pos c) = sym (neg_ℤ-neg_ℤ (pos (suc n * c)))
neg_mul (negsuc n) (negsuc c) = refl

pub mul_neg : (b c : ℤ) → b *ℤ neg_ℤ c ≡ neg_ℤ (b *ℤ c)
mul_neg b c = simp (*ℤ_comm b, neg_mul)

pub less_mul : (a b k : ℤ) → (a -ℤ b) *ℤ k ≡ a *ℤ k -ℤ b *ℤ k
less_mul a b k = simp (distrib, neg_mul)

pub distrib_l : (k a q : ℤ) → k *ℤ (a +ℤ q) ≡ k *ℤ a +ℤ k *ℤ q
distrib_l k a q = simp (*ℤ_comm k, distrib)

pub mul_assoc : (a b c : ℤ) → a *ℤ b *ℤ c ≡ a *ℤ (b *ℤ c)
mul_assoc (pos a) (pos b) (pos c) = ap pos (N.mul_assoc a b c)
mul_assoc (pos a) (pos b) (negsuc c) = simp (mul_neg, N.mul_assoc)
mul_assoc (pos a) (negsuc b) (pos c) = simp (mul_neg, neg_mul, N.mul_assoc)
mul_assoc (pos a) (negsuc b) (negsuc c) = simp (neg_mul, neg_ℤ-neg_ℤ, N.mul_assoc)
mul_assoc (negsuc a) (pos b) (pos c) = simp (neg_mul, N.mul_assoc)
mul_assoc (negsuc a) (pos b) (negsuc c) = simp (mul_neg, neg_mul, neg_ℤ-neg_ℤ, N.mul_assoc)
mul_assoc (negsuc a) (negsuc b) (pos c) = simp (mul_neg, negsuc-*ℤ-pos, neg_ℤ-neg_ℤ, N.mul_assoc)
mul_assoc (negsuc a) (negsuc b) (negsuc c) = simp N.mul_assoc

-- what sorts a sum and a product
pub add_left : (a b c : ℤ) → a +ℤ (b +ℤ c) ≡ b +ℤ (a +ℤ c)
add_left a b c = sym (+ℤ_assoc a b c) ∙ ap (λ (z : ℤ). z +ℤ c) (+ℤ_comm a b) ∙ +ℤ_assoc b a c

pub mul_left : (a b c : ℤ) → a *ℤ (b *ℤ c) ≡ b *ℤ (a *ℤ c)
mul_left a b c = sym (mul_assoc a b c) ∙ ap (λ (z : ℤ). z *ℤ c) (*ℤ_comm a b) ∙ mul_assoc b a c

pub ruleset sums = (distrib, distrib_l, neg_mul, mul_neg, neg_ℤ-+ℤ, neg_ℤ-neg_ℤ, +ℤ_assoc, add_left, +ℤ_comm, mul_assoc, mul_left, *ℤ_comm)
