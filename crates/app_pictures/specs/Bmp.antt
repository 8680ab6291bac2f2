-- A BMP file of 16 or 32 bits a pixel: the file's head of 14 bytes, a BITMAPINFOHEADER of 40 with compression 3 (BI_BITFIELDS), the three masks of 5-6-5 or of
-- 8-8-8, then the rows from below, each filled up to a multiple of four bytes.
use Rattle.std.specs.Prelude.{ℕ, ◌+◌, ◌*◌, ◌/◌, ◌%◌, List, [], ◌∷◌, ◌++◌, length, take, drop, nat_le}
use Rattle.wire.specs.Le.{bytes16, bytes32, written}
use Rattle.whole.specs.Row.{◌!◌⨾◌}
use Rattle.app_pictures.specs.declared.bmp.Packing.{Packing}

-- the bytes of a row in the file: two for each word, filled up to a multiple of four
abbrev pub row_size : ℕ → ℕ
row_size width = 2 * (width + width % 2)

-- 5-6-5
abbrev pub packed16 : Packing
packed16 = record { bits = 16; red = 0xF800; green = 0x07E0; blue = 0x001F }

-- "words of 32 bits: R x 65536 + G x 256 + B" (02, request Thirteen)
abbrev pub packed32 : Packing
packed32 = record { bits = 32; red = 0xFF0000; green = 0x00FF00; blue = 0x0000FF }

-- "BM", the file's size, nothing, and where the rows begin
unfoldable pub file_head : ℕ → List ℕ
file_head size = bytes16 0x4D42 ++ (bytes32 (66 + size) ++ (bytes32 0 ++ bytes32 66))

-- its own size, width, height (from below), one plane, the bits of a pixel, compression 3
unfoldable pub info_head : ℕ → ℕ → ℕ → List ℕ
info_head bits width height = bytes32 40 ++ (bytes32 width ++ (bytes32 height ++ ((bytes16 1 ++ bytes16 bits) ++ bytes32 3)))

-- the bytes of all rows, 2,835 pixels a metre both ways, no table of colours
unfoldable pub info_rest : ℕ → List ℕ
info_rest size = bytes32 size ++ (bytes32 2835 ++ (bytes32 2835 ++ (bytes32 0 ++ bytes32 0)))

-- where red, green and blue are in a word
unfoldable pub masks : Packing → List ℕ
masks p = bytes32 p.red ++ (bytes32 p.green ++ bytes32 p.blue)

-- all 66 bytes
unfoldable pub head_of : Packing → ℕ → ℕ → ℕ → List ℕ
head_of p width height size = file_head size ++ (info_head p.bits width height ++ (info_rest size ++ masks p))

-- words as bytes, each by `bytes`: low byte first in a BMP (`bytes16`, `bytes32`), red, green and blue in a PNG (specs/Png)
unfoldable pub word_bytes : {A : Type 0} → (A → List ℕ) → List A → List ℕ
word_bytes bytes [] = []
word_bytes bytes (w ∷ ws) = bytes w ++ word_bytes bytes ws

-- words of k bytes each at the start of an output, which is left as it is where there is no room
unfoldable pub put_words : {A : Type 0} → ℕ → (A → List ℕ) → List A → List ℕ → List ℕ
put_words k bytes ws out = nat_le (length ws) (length out / k) ! out ⨾ written (word_bytes bytes ws) out

-- the words of a picture's row, "row by row, width words a row"; none where they are not all there
unfoldable pub row_of : {A : Type 0} → List A → ℕ → ℕ → List A
row_of picture width r =
    nat_le width 4096 ! take 0 picture ⨾
    nat_le r 2048 ! take 0 picture ⨾
    nat_le (r * width + width) (length picture) ! take 0 picture ⨾
    take width (drop (r * width) picture)
