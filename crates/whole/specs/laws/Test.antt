-- Tests of signed numbers, as a branch leaves them, said of the numbers themselves.
-- Assumes nothing.
use Rattle.std.specs.Prelude.{◌≡◌, Bool, ℤ}
use Rattle.std.proofs.Common.{subst, SFits, of_z, to_z, to_z-of_z}
use Rattle.std.specs.Int.Signed.{lt_z}
use Rattle.std.specs.Int.{Width}

-- z < k and k < z, of the machine's z
pub test_l : {w : Width} {z : ℤ} (k : ℤ) (b : Bool) → SFits w z → lt_z (to_z w (of_z w z)) k ≡ b → lt_z z k ≡ b
test_l k b p h = subst (λ (s : ℤ). lt_z s k ≡ b) (to_z-of_z p) h

pub test_r : {w : Width} {z : ℤ} (k : ℤ) (b : Bool) → SFits w z → lt_z k (to_z w (of_z w z)) ≡ b → lt_z k z ≡ b
test_r k b p h = subst (λ (s : ℤ). lt_z k s ≡ b) (to_z-of_z p) h
