-- What is known of files by the pieces that reads of them gave: `Told P` says that P holds of all files of which these pieces are parts, so of those that were
-- there. Nothing is known of a file that was not read, of one file by the reads of another, or of a place by the reads of another place.
use Rattle.std.specs.Prelude.{ℕ, ◌≡◌, List, [], ◌∷◌, ℤ, take, drop}
use Rattle.app_compare.specs.Outside.{Piece, Gave}

-- the bytes of the file behind each descriptor; none where there is no file
abbrev pub Files : Type 0
Files = ℤ → List ℕ

-- pieces that reads gave
pub data Came : List Piece → Type 0 where
  none : Came []
  more : {p : Piece} {ps : List Piece} → Gave p → Came ps → Came (p ∷ ps)

-- a piece of a file: from its place on stand the bytes that came, all that were asked for or all that are there
abbrev pub PartOf : Files → Piece → Type 0
PartOf file p = p.bytes ≡ take p.want (drop p.place (file p.fd))

pub data Parts (file : Files) : List Piece → Type 0 where
  none : Parts file []
  more : {p : Piece} {ps : List Piece} → PartOf file p → Parts file ps → Parts file (p ∷ ps)

pub record Told (P : Files → Type 0) : Type 0 where
  pub pieces : List Piece
  pub came : Came pieces
  pub holds : (file : Files) → Parts file pieces → P file
