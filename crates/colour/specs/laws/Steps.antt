-- What the steps between 01's sums and the code give. Forth: one weighed sum serves Y, Cb and Cr. Back: a sample is split in two parts
-- (02, request Two: "split the product elsewhere").
-- (01 is this project's scope document, 02 its change requests, 001 is MS-RDPRFX: README, "What 01 is".)
use Rattle.std.specs.Prelude.{ℕ, ℤ, pos, ◌+ℤ◌, ◌-ℤ◌, ◌*ℤ◌}
use Rattle.whole.specs.laws.Near.{Near, Upto}
use Rattle.colour.specs.Colour.{cut11}
use Rattle.colour.specs.declared.Parts.{Parts}

-- a pixel's bytes, each with its weight, over 2,048
unfoldable pub weighed : ℤ → ℤ → ℤ → ℕ → ℕ → ℕ → ℤ
weighed j k l r g b = cut11 (j *ℤ pos r +ℤ k *ℤ pos g +ℤ l *ℤ pos b)

-- two samples, or parts of them, each with its factor
abbrev pub mix : ℤ → ℤ → ℤ → ℤ → ℤ
mix j u k v = j *ℤ u -ℤ k *ℤ v

-- the sample that the parts are of
abbrev pub joined : Parts → ℤ
joined p = p.high *ℤ pos 65536 +ℤ p.low

-- parts whose products fit 32 bits
pub record Small (p : Parts) : Type 0 where
  pub high : Near 4097 p.high
  pub low : Upto 65535 p.low
