-- What the outside gave: which bytes a read gives, and which file a descriptor is, no contract can say (the kit's `io` and `std` promise nothing of
-- it). So both are words here that stay shut: nothing can be proved of them, and they come from two places only, the proofs of `files::open`
-- (`as_opened`) and `files::read_at` (`as_read`), each of which makes the one call of which it speaks. Every other proof has them from there.
use Rattle.std.specs.Prelude.{ℕ, List, ℤ, negsuc, Option}
use Rattle.std.specs.Prelude.{None, Some}
use Rattle.std.specs.Fd.{file_raw_fd}
use Rattle.std.specs.declared.fs.File.{File}

-- the number of a file's descriptor; below 0 where the file could not be opened
abbrev pub descriptor : Option File → ℤ
descriptor None = negsuc 0
descriptor (Some file) = file_raw_fd file

-- so many bytes asked for, from a place on, of the file behind a descriptor, and those that came
pub record Piece : Type 0 where
  pub fd : ℤ
  pub place : ℕ
  pub want : ℕ
  pub bytes : List ℕ

-- a read gave this piece
pub Gave : Piece → Type 0
Gave p = Unit {0}

pub as_read : (p : Piece) → Gave p
unfolding Gave
as_read p = tt

-- this descriptor is what opening the file of a name gave
pub Opened : List ℕ → ℤ → Type 0
Opened name fd = Unit {0}

pub as_opened : (name : List ℕ) (fd : ℤ) → Opened name fd
unfolding Opened
as_opened name fd = tt
