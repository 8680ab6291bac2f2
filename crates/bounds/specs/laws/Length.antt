-- A component of a picture has at most 64,964 bytes, whatever the picture (`slight_few` of the crate code_write).
-- Assumes nothing.
use Rattle.std.specs.Prelude.{ℕ, ◌+◌, ◌-◌, ◌≤◌, ◌<◌, ◌≡◌, List, ℤ, nat_abs, length}
use Rattle.std.proofs.Common.{subst, arith}
use Rattle.whole.specs.laws.Near.{Near}
use Rattle.whole.specs.Tab.{at}
use Rattle.code_write.specs.Write.{bytes_of}
use Rattle.code_write.specs.laws.Length.{slight_few}
use Rattle.bands.specs.Bands.{ll3}

module _ (mode : ℕ) (zs : List ℤ) (len : length zs ≡ 4096) (front : (k : ℕ) → k < 4032 → Near 512 (at zs k))
    (last : (i : ℕ) → i < 64 → Near 1536 (ll3 zs i)) where
  far : (k : ℕ) → 4032 ≤ k → k < 4096 → nat_abs (at zs k) ≤ 1536
  far k l h =
      let n : 4032 + (k - 4032) ≡ k = omega arith in
      subst (λ (i : ℕ). nat_abs (at zs i) ≤ 1536) n (last (k - 4032) (omega arith)).near

  -- 6, which begins at 65,536, does not happen
  pub no_six : length (bytes_of mode zs) ≤ 64964
  no_six = slight_few zs (record { long = len; front = λ k h. (front k h).near; last = far }) mode
