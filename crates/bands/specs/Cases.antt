-- Document 01, "Cases on both sides": those of the bands, proved of the definitions.
-- Assumes nothing.
-- (01 is this project's scope document, 02 its change requests, 001 is MS-RDPRFX: README, "What 01 is".)
use Rattle.std.specs.Prelude.{ℕ, ◌≡◌, [], ◌∷◌, map, pos, negsuc}
use Rattle.bands.specs.Bands.{quant_of, scale_at}
use Rattle.bands.specs.Rounding.{round_z}

pub record BandCases : Type 0 where
  -- "Bytes 66 66 77 88 98: 6 6 6 6 7 7 8 8 8 9" (bytes in hexadecimal)
  pub set : quant_of (102 ∷ 102 ∷ 119 ∷ 136 ∷ 152 ∷ []) ≡ 6 ∷ 6 ∷ 6 ∷ 6 ∷ 7 ∷ 7 ∷ 8 ∷ 8 ∷ 8 ∷ 9 ∷ []
  -- "q = 6: 15 to 0, 16 to 1, -16 to 0, -17 to -1"
  pub below : round_z 6 (pos 15) ≡ pos 0
  pub half : round_z 6 (pos 16) ≡ pos 1
  pub minus_half : round_z 6 (negsuc 15) ≡ pos 0
  pub minus_more : round_z 6 (negsuc 16) ≡ negsuc 0
  -- "Pairing quantisers with bands in list order (HL stands first there, LH in the set)" is a slip: with the set 6 to 15 ones are scaled, at the first
  -- place of HL1, LH1, HH1, HL2, LH2, HH2, HL3, LH3, HH3 and LL3, times 2^(q-1) with q = 14 13 15 11 10 12 8 7 9 6
  pub factors :
      map (scale_at (6 ∷ 7 ∷ 8 ∷ 9 ∷ 10 ∷ 11 ∷ 12 ∷ 13 ∷ 14 ∷ 15 ∷ []) (λ (k : ℕ). pos 1))
      (0 ∷ 1024 ∷ 2048 ∷ 3072 ∷ 3328 ∷ 3584 ∷ 3840 ∷ 3904 ∷ 3968 ∷ 4032 ∷ [])
      ≡ pos 8192 ∷ pos 4096 ∷ pos 16384 ∷ pos 1024 ∷ pos 512 ∷ pos 2048 ∷ pos 128 ∷ pos 64 ∷ pos 256 ∷ pos 32 ∷ []
