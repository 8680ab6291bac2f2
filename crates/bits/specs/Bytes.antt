-- Bits as bytes: padded with zeros to a whole byte, in one way only.
use Rattle.std.specs.Prelude.{ℕ, ◌<◌, ◌≡◌, Bool, false, List, ◌++◌, replicate}
use Rattle.bits.specs.Bits.{bits_of}

-- the bytes s hold the bits bs, and zeros up to a whole byte
pub record Written (s : List ℕ) (bs : List Bool) : Type 0 where
  pub pad : ℕ
  pub few : pad < 8
  pub bits : bits_of s ≡ bs ++ replicate pad false
