-- How a layout is read: one walk along the wire, field by field. 02, Twelve: "fixed fields refuse with 5, lengths with 4, missing bytes with 1, in wire
-- order".
-- (01 is this project's scope document, 02 its change requests, 001 is MS-RDPRFX: README, "What 01 is".)
use Rattle.std.specs.Prelude.{ℕ, ◌<◌, ◌≡◌, List, [], ◌∷◌, ◌++◌, leb, eqb, length, get_or, drop, Result, Ok, Err}
use Rattle.whole.specs.Row.{◌!◌⨾◌}
use Rattle.wire.specs.Le.{byte_at, le16, le32, bytes16, bytes32}
use Rattle.wire.specs.Refusal.{refusal_of}
use Rattle.wire.specs.declared.Refusal.{Refusal}
use Rattle.caps.specs.declared.walk.Width.{Width}
use Rattle.caps.specs.declared.walk.Width.TheVariants.{One, Two, Four}

infixr 10 ◌then◌
-- ---- fields: one, two or four bytes, low byte first

unfoldable pub size : Width → ℕ
size One = 1
size Two = 2
size Four = 4

-- the number in the first bytes
unfoldable pub number : Width → List ℕ → ℕ
number One m = byte_at m 0
number Two m = le16 m 0
number Four m = le32 m 0

-- what a number in so many bytes stays below, and its bytes
abbrev pub most : Width → ℕ
most One = 256
most Two = 65536
most Four = 4294967296

unfoldable pub spelled : Width → ℕ → List ℕ
spelled One v = v ∷ []
spelled Two v = bytes16 v
spelled Four v = bytes32 v

-- a message holds bytes
abbrev pub Bytes : List ℕ → Type 0
Bytes m = (i : ℕ) → get_or m i 0 < 256

-- ---- a layout, which gives what its fields say

pub data Layout (A : Type 0) : Type 0 where
  gives : A → Layout A
  refuse : ℕ → Layout A
  field : Width → (ℕ → Layout A) → Layout A

-- one layout, and behind it another
unfoldable pub ◌then◌ : {A B : Type 0} → Layout A → (A → Layout B) → Layout B
gives a then next = next a
refuse n then next = refuse n
field w more then next = field w (λ v. more v then next)

-- ---- the walk

-- what it gives with the bytes that follow, or the number of the first fault
pub data Walked (A : Type 0) : Type 0 where
  Came : A → List ℕ → Walked A
  Stopped : ℕ → Walked A

-- a field whose bytes are not all there is 1; then it is judged, by the rows of its layout; then the next
unfoldable pub walk : {A : Type 0} → Layout A → List ℕ → Walked A
walk (gives a) m = Came a m
walk (refuse n) m = Stopped n
walk (field w next) m =
    leb (size w) (length m) ! Stopped 1 ⨾
    walk (next (number w m)) (drop (size w) m)

-- a message is a layout and nothing more: bytes after it are 4, last of all
unfoldable pub ended : {A R : Type 0} → (A → R) → (ℕ → R) → Walked A → R
ended taken refused (Came a rest) = eqb (length rest) 0 ! refused 4 ⨾ taken a
ended taken refused (Stopped n) = refused n

-- what a reader answers
abbrev pub refused_by : {A : Type 0} → ℕ → Result A Refusal
refused_by n = Err (refusal_of n)

abbrev pub answered : {A : Type 0} → Walked A → Result A Refusal
answered w = ended Ok refused_by w

-- ---- a layout's law, both ways: "Writing then reading gives the fields back, and any accepted bytes, written again from their fields, come out the same,
-- flags that aren't judged included"

pub record Both {A : Type 0} (l : Layout A) (Good : A → Type 0) (bytes : A → List ℕ) : Type 0 where
  pub back : (a : A) (rest : List ℕ) → Good a → walk l (bytes a ++ rest) ≡ Came a rest
  pub same : (m : List ℕ) (a : A) (rest : List ℕ) → Bytes m → walk l m ≡ Came a rest → Good a × (m ≡ bytes a ++ rest)
