-- What a pen has written.
use Rattle.std.specs.Prelude.{ℕ, ◌+◌, ◌*◌, ◌/◌, ◌%◌, ◌^◌, ◌≤◌, ◌<◌, ◌≡◌, Bool, List, ◌++◌, length, take, drop}
use Rattle.bits.specs.Bits.{bits_of, num_bits}
use Rattle.bits.specs.Bytes.{Written}
use Rattle.bits.specs.declared.Pen.{Pen}

-- all bits written so far: those of the whole bytes, and those that wait
unfoldable pub pen_bits : List ℕ → Pen → List Bool
pen_bits out p = bits_of (take p.at out) ++ num_bits p.n p.acc

-- a pen in order, with room for k bits more in `size` bytes
pub record Ready (size : ℕ) (p : Pen) (k : ℕ) : Type 0 where
  pub few : p.n < 8
  pub small : p.acc < 2 ^ p.n
  pub room : p.at * 8 + p.n + k ≤ size * 8

-- the pen p and the bytes before, the pen r and the bytes after: the bits bs are appended, and no byte past the pen's place is changed
pub record Put (before : List ℕ) (p : Pen) (after : List ℕ) (r : Pen) (bs : List Bool) : Type 0 where
  pub few : r.n < 8
  pub small : r.acc < 2 ^ r.n
  pub place : r.at * 8 + r.n ≡ p.at * 8 + p.n + length bs
  pub long : length after ≡ length before
  pub rest : drop r.at after ≡ drop r.at before
  pub bits : pen_bits after r ≡ pen_bits before p ++ bs

-- ---- a pen at which up to 31 bits wait (`bits::wide`)

-- such a pen in order, with room for k bits more in `size` bytes
pub record ReadyWide (size : ℕ) (p : Pen) (k : ℕ) : Type 0 where
  pub few : p.n < 32
  pub small : p.acc < 2 ^ p.n
  pub room : p.at * 8 + p.n + k ≤ size * 8

-- `Put`, of such pens: bytes go out four at a time
pub record PutWide (before : List ℕ) (p : Pen) (after : List ℕ) (r : Pen) (bs : List Bool) : Type 0 where
  pub place : r.at ≡ p.at + (p.n + length bs) / 32 * 4
  pub waits : r.n ≡ (p.n + length bs) % 32
  pub small : r.acc < 2 ^ r.n
  pub long : length after ≡ length before
  pub rest : drop r.at after ≡ drop r.at before
  pub bits : pen_bits after r ≡ pen_bits before p ++ bs

-- a pen at which nothing waits
abbrev pub empty_at : ℕ → Pen
empty_at at = record { at = at; acc = 0; n = 0 }

-- ---- the last byte

-- the first `size` bytes after hold the pen's bits, padded with zeros, and no byte past them is changed
pub record Closed (before : List ℕ) (p : Pen) (after : List ℕ) (size : ℕ) : Type 0 where
  pub end : size ≡ p.at + (p.n + 7) / 8
  pub written : Written (take size after) (pen_bits before p)
  pub long : length after ≡ length before
  pub rest : drop size after ≡ drop size before
