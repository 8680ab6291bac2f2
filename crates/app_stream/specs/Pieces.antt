-- A program that goes by the pieces that its input gives, one after the other. What it does at a turn, with a place in a piece, is a function of its state; the
-- next piece is read only where the place is at the end of the one before; and it goes on until the input has ended, which a piece without bytes says. A
-- program
-- that reads nothing, that leaves bytes of a piece out, or that stops before the end, does not meet it.
use Rattle.std.specs.Prelude.{ℕ, ◌+◌, ◌-◌, ◌≤◌, ◌<◌, ◌≡◌, Bool, true, List, [], ◌∷◌, length}

-- the piece that was read last; before the first there are no bytes
abbrev pub latest : List (List ℕ) → List ℕ
latest [] = []
latest (p ∷ ps) = p

-- the piece that is there where its end is not reached, else the next, at what is left of the place; `last`: it has no bytes, and that is the input's end
pub data Filled (at : ℕ) (piece : List ℕ) : ℕ → List ℕ → Type 0 where
  same : at < length piece → Filled at piece at piece
  next : (new : List ℕ) → length piece ≤ at → Filled at piece (at - length piece) new

pub record Fills (at : ℕ) (piece : List ℕ) (at' : ℕ) (piece' : List ℕ) (last : Bool) : Type 0 where
  pub filled : Filled at piece at' piece'
  pub ended : last ≡ true → (piece' ≡ []) × (length piece ≤ at)

-- ---- turns, by the place that a state has and what a turn makes of it with a place in a piece; pieces stand in the list latest first

module _ {S : Type 0} (at : S → ℕ) (turn : ℕ → List ℕ → S → S) (s : S) where
  pub data Played : S → List (List ℕ) → ℕ → Type 0 where
    -- nothing has been read
    none : Played s [] 0
    -- a turn with the piece that is there
    more : (t : S) (ps : List (List ℕ)) (n : ℕ) → Played t ps n → at t < length (latest ps) → Played (turn (at t) (latest ps) t) ps (n + 1)
    -- a turn with the next
    read :
        (t : S) (ps : List (List ℕ)) (n : ℕ) (new : List ℕ)
        → Played t ps n
        → length (latest ps) ≤ at t
        → Played (turn (at t - length (latest ps)) new t) (new ∷ ps) (n + 1)

-- where it may stop: the input has ended; or for a reason of the program's own; or after 2^64 - 1 turns, which no run uses up (a proved loop ends, and nothing
-- says
-- that an input does)
pub data Ends (why : Type 0) (pieces : List (List ℕ)) (turns : ℕ) : Type 0 where
  all : (ps : List (List ℕ)) → pieces ≡ [] ∷ ps → Ends why pieces turns
  stop : why → Ends why pieces turns
  long : turns ≡ 18446744073709551615 → Ends why pieces turns

-- from one state to another, by the pieces that were read, to where it may stop
pub record PlayedTo {S : Type 0} (at : S → ℕ) (turn : ℕ → List ℕ → S → S) (why : Type 0) (s t : S) : Type 0 where
  pub pieces : List (List ℕ)
  pub turns : ℕ
  pub played : Played at turn s t pieces turns
  pub ends : Ends why pieces turns
