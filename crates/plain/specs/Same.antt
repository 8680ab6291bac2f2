-- Document 02, request Nine: "Prove that it and the product give the same answer and the same 4,096 coefficients and tile pixels on every input,
-- refusals included. Whatever differs only by code mode is proved once over the mode." One page, over the calls: each field takes what a call of the
-- plain decoder promises and what the product's call promises of the same input, and says that their answers are the same.
-- (01 is this project's scope document, 02 its change requests, 001 is MS-RDPRFX: README, "What 01 is".)
use Rattle.std.specs.Prelude.{ℕ, ◌+◌, ◌*◌, ◌<◌, ◌≡◌, List, ℤ, get_or}
use Rattle.code.specs.Read.{reading_number, reading_bits, ComponentRead}
use Rattle.code.specs.declared.read.Reading.{Reading}
use Rattle.tile_back.specs.Component.{coefficients_of, samples_of, Checked}
use Rattle.tile_back.specs.Word.{WordsRow}
use Rattle.plain.specs.Plain.{Component, Sampled, Words}

-- what is the same of two component calls: 01's number, the code's length in bits, the list
pub record Alike (a b : List ℤ) (r t : Reading) : Type 0 where
  pub number : reading_number r ≡ reading_number t
  pub bits : reading_bits r ≡ reading_bits t
  pub list : a ≡ b

-- a component as `plain::samples` leaves it, and as the product's `tile_back::samples` does, which is called where the number is 0
pub record Plane (mode : ℕ) (q s : List ℕ) (plain ours : List ℤ) : Type 0 where
  pub before : List ℤ
  pub number : ℕ
  pub did : Sampled mode q s before plain number
  pub none : number ≡ 0
  pub ours_did : ours ≡ samples_of mode q s

pub record PlainSame : Type 0 where
  -- the component call: `plain_code::read_component` and `code::read::read_component`, for every mode, code and list
  pub component :
      (mode : ℕ) (s : List ℕ) (before a b : List ℤ) (r t : Reading) → ComponentRead mode s before a r → ComponentRead mode s before b t → Alike a b r t
  -- a component's number, "code, then LL3 sums and scaling": `plain::component` and `tile_back::component_fault`, whatever their lists held
  pub number :
      (mode : ℕ) (q s : List ℕ) (before a other b : List ℤ) (r t : ℕ) → Component mode q s before a r → Checked mode q s other b t → r ≡ t
  -- and where it is 0, "the same 4,096 coefficients", summed and scaled: what `plain::component` leaves and what the product's `tile_back::coefficients` does
  pub coefficients :
      (mode : ℕ) (q s : List ℕ) (before a ours : List ℤ) (r : ℕ) → Component mode q s before a r → r ≡ 0 → ours ≡ coefficients_of mode q s → a ≡ ours
  -- `plain::samples` says the same number
  pub samples_number :
      (mode : ℕ) (q s : List ℕ) (before a other b : List ℤ) (r t : ℕ) → Sampled mode q s before a r → Checked mode q s other b t → r ≡ t
  -- and where it is 0 its samples are the same list
  pub samples : (mode : ℕ) (q s : List ℕ) (a b : List ℤ) → Plane mode q s a b → a ≡ b
  -- a tile whose three numbers are 0: the pixel at place x of row y, by `plain::pixels` and by the product's
  -- `tile_back::words_row`; read over either packing
  pub pixels :
      (glass mode : ℕ) (p q r s t u : List ℕ) (ys cbs crs ours-y ours-cb ours-cr : List ℤ) → Plane mode p s ys ours-y → Plane mode q t cbs ours-cb →
      Plane mode r u crs ours-cr → (words row : List ℕ) (y x : ℕ) → Words glass ys cbs crs words → WordsRow glass ours-y ours-cb ours-cr y row →
      y < 64 → x < 64 → get_or words (64 * y + x) 0 ≡ get_or row x 0
