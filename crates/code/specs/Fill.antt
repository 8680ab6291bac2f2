-- Filling a list from a code, element by element: what is stored, and what is left; and what a turn by a word does.
use Rattle.std.specs.Prelude.{ℕ, zero, suc, ◌+◌, ◌-◌, ◌/◌, ◌^◌, ◌≤◌, ◌<◌, min, ◌≡◌, Bool, List, map, ℤ, pos, length, take, drop, set, replicate, ltb}
use Rattle.std.specs.Prelude.{Option, Some, None, Result, Ok, Err}
use Rattle.whole.specs.Row.{◌⇒◌∣◌}
use Rattle.bits.specs.Bits.{got, bits_of, num_bits, num_of}
use Rattle.bits.specs.Word.{front_zeros}
use Rattle.wire.specs.declared.Refusal.{Refusal}
use Rattle.code.specs.Code.{raised}
use Rattle.code.specs.ReadList.{state_at, run_elem, Walked, whole, bad, walk, read_list}
use Rattle.code.specs.declared.element.State.{State}
use Rattle.code.specs.declared.element.Element.{Element}
use Rattle.code.specs.declared.element.Element.TheVariants.{Zeros, One, Two}
use Rattle.code.specs.Fold.{fold_z, unfold_z}

-- what filling found: the code's length in bits, or why it is refused
abbrev pub Fills : Walked → List ℤ → Result ℕ Refusal → Type 0
Fills (whole xs at) out r = (out ≡ map unfold_z xs) × (r ≡ Ok at)
Fills (bad q) out r = r ≡ Err q

-- an element that fits at place i of n
abbrev pub Fine : ℕ → ℕ → Element → Type 0
Fine n i (Zeros z s) = Unit {0}
Fine n i (One z v s) = (i + z < n) × (v ≤ 65534)
Fine n i (Two a b s) = (a ≤ 65534) × (i + 1 < n → b ≤ 65534)

-- the next place and the state there
abbrev pub placed_of : ℕ → ℕ → Element → ℕ × State
placed_of n i (Zeros z s) = (min n (i + z), s)
placed_of n i (One z v s) = (i + z + 1, s)
placed_of n i (Two a b s) = (min n (i + 2), s)

abbrev pub stored_of : List ℤ → ℕ → Element → List ℤ
stored_of out i (Zeros z s) = out
stored_of out i (One z v s) = set out (i + z) (unfold_z v)
stored_of out i (Two a b s) = ltb (i + 1) (length out) ⇒ set (set out i (unfold_z a)) (i + 1) (unfold_z b) ∣ set out i (unfold_z a)

-- ---- a list that is being filled

-- n places, of which those from i on hold zeros
pub record Clear (n : ℕ) (out : List ℤ) (i : ℕ) : Type 0 where
  pub room : i ≤ n
  pub len : length out ≡ n
  pub zeros : drop i out ≡ replicate (n - i) (pos 0)

-- the first i places of n are filled, and the rest of the list is what is read of B from the state c on; f bounds the elements still to come
pub record Filling (rlgr3 : Bool) (n : ℕ) (B : List Bool) (out : List ℤ) (c : State) (i : ℕ) : Type 0 where
  pub f : ℕ
  pub clear : Clear n out i
  pub fuel : n - i ≤ f
  pub kps : c.kp ≤ 80
  pub krs : c.krp ≤ 80
  pub same : walk f rlgr3 c.kp c.krp c.at (n - i) (map fold_z (take i out)) B ≡ read_list rlgr3 n B

-- a list with a place left, which is being filled from the bytes s
abbrev pub Open : Bool → List ℕ → List ℤ → State → ℕ → Type 0
Open rlgr3 s out c i = (length s ≤ 65535) × (length out ≤ 4096) × (i < length out) × Filling rlgr3 (length out) (bits_of s) out c i

-- ---- a turn by a word

-- a next place and the state there, of a turn that was made
pattern abbrev pub jump : ℕ → State → Option (ℕ × State)
jump j t = Some (j, t)

-- as many of m full runs, from the state c on, as there are places for among n from place i on: "each bit 0 is 2^k zeros, then kp + 4"
unfoldable pub leap_of : ℕ → ℕ → ℕ → State → ℕ × State
unfolding ◌⇒◌∣◌
leap_of zero n i c = (i, c)
leap_of (suc m) n i c = ltb i n ⇒ leap_of m n (min n (i + 2 ^ (c.kp / 8))) (state_at (c.at + 1) (raised 4 c.kp) c.krp) ∣ (i, c)

-- a state, its place counted from `at` on
abbrev pub onward_of : ℕ → State → State
onward_of at t = state_at (at + t.at) t.kp t.krp

-- what was read of a word: an element that fits, and the place behind it lies in the word or right behind that
abbrev pub Storable : ℕ → ℕ → Result Element Refusal → Type 0
Storable n i (Err q) = Unit {0}
Storable n i (Ok e) = Fine n i e × ((placed_of n i e).1.at ≤ 57)

-- it is stored, and its state's place is counted from `at` on; or it was refused and the list stays
abbrev pub Kept : ℕ → ℕ → List ℤ → List ℤ → Result Element Refusal → Option (ℕ × State) → Type 0
Kept at i out new (Err q) r = (r ≡ None) × (new ≡ out)
Kept at i out new (Ok e) r = (r ≡ jump (placed_of (length out) i e).0 (onward_of at (placed_of (length out) i e).1)) × (new ≡ stored_of out i e)

-- the list was filled on, or it stays
abbrev pub Quickly : Bool → List Bool → ℕ → List ℤ → List ℤ → Option (ℕ × State) → Type 0
Quickly rlgr3 B i out new None = new ≡ out
Quickly rlgr3 B i out new (jump j t) = Filling rlgr3 (length out) B new t j × (i < j)

-- the same of any bits at whose place c .at the word w stands
abbrev pub Turned : Bool → ℕ → State → ℕ → List ℤ → List ℤ → Option (ℕ × State) → Type 0
Turned rlgr3 w c i out new r =
    (B : List Bool) → got w (c.at + 57) ≡ num_of 57 0 c.at (drop c.at B) → Filling rlgr3 (length out) B out c i → Quickly rlgr3 B i out new r

-- and in whichever mode the list is being filled
abbrev pub EitherTurned : ℕ → State → ℕ → List ℤ → List ℤ → Option (ℕ × State) → Type 0
EitherTurned w c i out new r = (rlgr3 : Bool) → Turned rlgr3 w c i out new r

-- a list with a place left, and a state at which the word w stands
pub record Worded (w : ℕ) (out : List ℤ) (c : State) (i : ℕ) : Type 0 where
  pub small : w < 2 ^ 57
  pub places : length out ≤ 4096
  pub room : i < length out
  pub kps : c.kp ≤ 80
  pub krs : c.krp ≤ 80
  pub place : c.at ≤ 524280

-- what turns by words led to, from place i of n on: the list was filled on
abbrev pub Rushed : Bool → List Bool → ℕ → ℕ → List ℤ → ℕ × State → Type 0
Rushed rlgr3 B n i new p = Filling rlgr3 n B new p.1 p.0 × (i ≤ p.0)

-- a list with a place left, and the state t before a run's value whose 1 stands behind the m zeros that w begins with
pub record Valued (w m at : ℕ) (t : State) (out : List ℤ) (j : ℕ) : Type 0 where
  pub zeros : m ≡ front_zeros (num_bits 57 w)
  pub inside : m < 57
  pub place : at ≤ 524280
  pub high : 8 ≤ t.kp
  pub kps : t.kp ≤ 80
  pub krs : t.krp ≤ 80
  pub places : length out ≤ 4096
  pub room : j < length out

-- the value's element in w
abbrev pub value_of : ℕ → ℕ → State → ℕ → Result Element Refusal
value_of w m t left = run_elem t.kp t.krp left (num_bits 57 w) (num_of 1 0 m (drop m (num_bits 57 w)))
