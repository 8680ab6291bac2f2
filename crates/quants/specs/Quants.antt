-- Quantiser sets as bytes, and the two sets of a picture.
-- (01 is this project's scope document, 02 its change requests, 001 is MS-RDPRFX: README, "What 01 is".)
use Rattle.std.specs.Prelude.{ℕ, ◌+◌, ◌*◌, Bool, true, false, ◌&&◌, List, [], ◌∷◌, ◌++◌, eqb}
use Rattle.whole.specs.Row.{◌⇒◌∣◌}
use Rattle.bands.specs.declared.Quant.{Quant}
use Rattle.quants.specs.declared.Quants.{Quants}

-- 01: "A quantiser set is five bytes, low half first, ten values"; the values of two sets are ten bytes
unfoldable pub quant_bytes : List ℕ → List ℕ
quant_bytes [] = []
quant_bytes (a ∷ []) = []
quant_bytes (a ∷ b ∷ q) = (a + 16 * b) ∷ quant_bytes q

-- are two lists the same, value by value?
unfoldable pub alike : List ℕ → List ℕ → Bool
alike [] [] = true
alike [] (b ∷ ys) = false
alike (a ∷ xs) [] = false
alike (a ∷ xs) (b ∷ ys) = eqb a b && alike xs ys

-- 02: "Equal luma and chroma"
unfoldable pub same : Quants → Bool
same q = alike q.luma.v q.chroma.v

-- the set of component c: 0 is Y, 1 Cb, 2 Cr
unfoldable pub quant_for : Quants → ℕ → Quant
quant_for q c = eqb c 0 ⇒ q.luma ∣ q.chroma

-- 02: "Where chroma differs, the frame writer emits two quantiser sets": the values of the sets that a frame carries, and which of them is chroma's
unfoldable pub sets_of : Quants → List ℕ
sets_of q = same q ⇒ q.luma.v ∣ (q.luma.v ++ q.chroma.v)

unfoldable pub chroma_index : Quants → ℕ
chroma_index q = same q ⇒ 0 ∣ 1

-- one set for luma and chroma
abbrev pub one_for : List ℕ → Quants
one_for v = record { luma = record { v = v }; chroma = record { v = v } }
