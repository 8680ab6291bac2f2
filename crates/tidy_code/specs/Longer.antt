-- 4,097 places, of which a list has the first 4,096 and a number beside it the last: what storing and filling leave.
use Rattle.std.specs.Prelude.{ℕ, ◌≡◌, List, [], ◌∷◌, ◌++◌, map, ℤ, Result, Ok, Err}
use Rattle.code.specs.Fold.{fold_z, unfold_z}
use Rattle.code.specs.ReadList.{Walked, whole, bad}
use Rattle.code.specs.Fill.{placed_of, stored_of}
use Rattle.code.specs.declared.element.State.{State}
use Rattle.code.specs.declared.element.Element.{Element}
use Rattle.wire.specs.declared.Refusal.{Refusal}

-- the list and the last value, which is folded
abbrev pub with_last : List ℤ → ℕ → List ℤ
with_last list last = list ++ (unfold_z last ∷ [])

-- an element stored at place i of all 4,097: the next place, the state there and the last value
pub record PlacedAs (all : List ℤ) (i : ℕ) (e : Element) (after : List ℤ) (r : ℕ × State × ℕ) : Type 0 where
  pub next : r.0 ≡ (placed_of 4097 i e).0
  pub state : r.1 ≡ (placed_of 4097 i e).1
  pub stored : with_last after r.2 ≡ stored_of all i e

-- a code read into them: its length and the last value, or its refusal
abbrev pub FilledAs : Walked → List ℤ → Result (ℕ × ℕ) Refusal → Type 0
FilledAs w after (Err q) = w ≡ bad q
FilledAs w after (Ok p) = w ≡ whole (map fold_z after ++ (p.1 ∷ [])) p.0
