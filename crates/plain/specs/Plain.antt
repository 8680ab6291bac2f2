-- What the plain decoder leaves, for every code and list, by the definitions that the product is held to as well.
-- (01 is this project's scope document, 02 its change requests, 001 is MS-RDPRFX: README, "What 01 is".)
use Rattle.std.specs.Prelude.{ℕ, ◌<◌, ◌≡◌, List, eqb, ℤ, pos, length, get_or, replicate}
use Rattle.whole.specs.Row.{◌!◌⨾◌}
use Rattle.code.specs.Read.{read_fault, read_into}
use Rattle.tile_back.specs.Component.{component_fault, coefficients_of, samples_of}
use Rattle.tile_back.specs.Word.{word_at}

-- the list of a component: where its code is refused as the component reader leaves it, zeros where a sum or a scaled value is out of range,
-- and else its coefficients
unfoldable pub component_into : ℕ → List ℕ → List ℕ → List ℤ → List ℤ
component_into mode q s before =
    eqb (read_fault mode 4096 s) 0 ! read_into mode s before ⨾
    eqb (component_fault mode q s) 0 ! replicate 4096 (pos 0) ⨾
    coefficients_of mode q s

pub record Component (mode : ℕ) (q s : List ℕ) (before after : List ℤ) (r : ℕ) : Type 0 where
  pub number : r ≡ component_fault mode q s
  pub list : after ≡ component_into mode q s before

-- the same list with the samples for the coefficients
unfoldable pub samples_into : ℕ → List ℕ → List ℕ → List ℤ → List ℤ
samples_into mode q s before =
    eqb (component_fault mode q s) 0 ! component_into mode q s before ⨾
    samples_of mode q s

pub record Sampled (mode : ℕ) (q s : List ℕ) (before after : List ℤ) (r : ℕ) : Type 0 where
  pub number : r ≡ component_fault mode q s
  pub list : after ≡ samples_into mode q s before

-- a tile's 4,096 words, row by row, on a glass
pub record Words (glass : ℕ) (ys cbs crs : List ℤ) (words : List ℕ) : Type 0 where
  pub len : length words ≡ 4096
  pub word : (i : ℕ) → i < 4096 → get_or words i 0 ≡ word_at glass ys cbs crs i
