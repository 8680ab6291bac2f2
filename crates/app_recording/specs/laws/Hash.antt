-- Laws of the hash, in the forms that the code has.
use Rattle.std.specs.Prelude.{◌≡◌, ℕ, ◌+◌, ◌*◌, ◌/◌, ◌%◌, ◌^◌, ◌<◌, ◌≤◌, List, length, drop, slice_index_or, refl}
use Rattle.std.proofs.Math.Path.{sym, ap}
use Rattle.std.proofs.Common.{◌∙◌, add-one, arith, drop_of_length-le}
use Rattle.std.proofs.Math.Nat.{add-mod-mod, mod-add-mod}
use Rattle.std.proofs.Math.Seq.{drop-cons}
use Rattle.std.specs.Prelude.{ℤ, pos, negsuc, FitsSigned}
use Rattle.std.specs.Int.{w32, cast_unsigned}
use Rattle.app_recording.specs.Hash.{basis, hash_of, bits_of}

-- a sum of three that is cut to W step by step
sum_cut : (W a b c : ℕ) → ((a + b % W) % W + c % W) % W ≡ (a + b + c) % W
sum_cut W a b c =
    add-mod-mod ((a + b % W) % W) c W ∙ ap (λ (k : ℕ). (k + c) % W) (add-mod-mod a b W) ∙ mod-add-mod (a + b) W c

-- times 2^40 + 435: the code multiplies each half by 435, so that nothing is lost
pub times-prime : (W x : ℕ) → ((435 * (x % 4294967296) + 435 * (x / 4294967296) * 2 ^ 32 % W) % W + x * 2 ^ 40 % W) % W ≡ x * 1099511628211 % W
times-prime W x =
    sum_cut W (435 * (x % 4294967296)) (435 * (x / 4294967296) * 2 ^ 32) (x * 2 ^ 40)
    ∙ ap (λ (k : ℕ). k % W) (omega arith)

-- a hash under way: after the first i elements of a list the hash is h, so that what is left comes to the hash of the whole list
pub record Hashing {A : Type 0} (more : ℕ → A → ℕ) (s : List A) (h i : ℕ) : Type 0 where
  pub within : i ≤ length s
  pub rest : hash_of more h (drop i s) ≡ hash_of more basis s

module _ {A : Type 0} (more : ℕ → A → ℕ) (s : List A) where
  pub hash_none : Hashing more s basis 0
  hash_none = record { within = omega arith; rest = refl }

  -- one element more; d is what stands past the end
  pub hash_more : (h i : ℕ) (d : A) (r : ℕ) → Hashing more s h i → i < length s → r ≡ more h (slice_index_or s i d) → Hashing more s r (i + 1)
  unfolding hash_of
  hash_more h i d r g l e =
      let m : hash_of more (more h (slice_index_or s i d)) (drop (i + 1) s) ≡ hash_of more h (drop i s) = rw (add-one, drop-cons s i d) in
      record { within = omega arith; rest = ap (λ (k : ℕ). hash_of more k (drop (i + 1) s)) e ∙ m ∙ g.rest }

  -- none is left
  pub hash_all : (h i : ℕ) → Hashing more s h i → length s ≤ i → h ≡ hash_of more basis s
  unfolding hash_of
  hash_all h i g l = sym (ap (hash_of more h) (drop_of_length-le s l)) ∙ g.rest

-- the 32 bits of a signed number are those of its cast
pub bits_are : (z : ℤ) → FitsSigned w32 z → cast_unsigned w32 z ≡ bits_of z
unfolding bits_of
bits_are (pos n) f = refl
bits_are (negsuc n) f = omega arith
