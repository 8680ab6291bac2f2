-- Request Fourteen with request One in front: "the same is said of the blocks that it hands on; resets of the collector are not calls."
-- (01 is this project's scope document, 02 its change requests, 001 is MS-RDPRFX: README, "What 01 is".)
use Rattle.std.specs.Prelude.{ℕ, ◌≡◌, true, false, List, [], ◌∷◌, ◌++◌, map}
use Rattle.collect.specs.Collect.{Part}
use Rattle.collect.specs.Collect as Collect
use Rattle.collect.specs.Request.{Bytes, together, Given}
use Rattle.day.specs.Day.{State, Call, Day, Asked, ask_header, ask_frame, asked}

-- ---- the collector's day

-- A stretch is the pieces that are given between one reset and the next; the first begins with a fresh collector, as each does after its reset. So a day is a
-- list of stretches, and the parts that are handed on are theirs, one stretch after the other. A reset hands nothing on.
pub data Gathered : Collect.State → List (List (List ℕ)) → List Part → Collect.State → Type 0 where
  no_stretch : {s : Collect.State} → Gathered s [] [] s
  stretch :
      {s t u : Collect.State} {ps : List (List ℕ)} {pss : List (List (List ℕ))} {hs ks : List Part}
      → Given (Collect.state Collect.fresh s.store) ps hs t
      → Gathered t pss ks u
      → Gathered s (ps ∷ pss) (hs ++ ks) u

-- two days of as many stretches, each of the same bytes, "however the bytes are cut"
abbrev pub SameBytes : List (List (List ℕ)) → List (List (List ℕ)) → Type 0
SameBytes [] [] = Unit
SameBytes [] (qs ∷ qss) = ⊥
SameBytes (ps ∷ pss) [] = ⊥
SameBytes (ps ∷ pss) (qs ∷ qss) = (together ps ≡ together qs) × SameBytes pss qss

-- they are bytes
abbrev pub AllBytes : List (List (List ℕ)) → Type 0
AllBytes [] = Unit
AllBytes (ps ∷ pss) = Bytes (together ps) × AllBytes pss

pub record Gathers (s : Collect.State) (pss : List (List (List ℕ))) : Type 0 where
  pub parts : List Part
  pub end : Collect.State
  pub gathered : Gathered s pss parts end

-- ---- the calls are the parts

-- to which call a part goes, and its bytes
abbrev pub part_of : Asked → Part
part_of (ask_header m) = record { header = true; bytes = m }
part_of (ask_frame m y cb cr scratch) = record { header = false; bytes = m }

-- how long the work lists are that a call is lent; a header call is lent none
abbrev pub lists_of : Asked → List ℕ
lists_of (ask_header m) = []
lists_of (ask_frame m y cb cr scratch) = y ∷ cb ∷ cr ∷ scratch ∷ []

-- the calls of a day are the parts that the collector hands on, in order. A part stays in the store until its call is answered
pub record CollectedDay (k : Collect.State) (pss : List (List (List ℕ))) (s : State) (cs : List Call) (t : State) : Type 0 where
  pub parts : List Part
  pub end : Collect.State
  pub gathered : Gathered k pss parts end
  pub calls : map part_of (map asked cs) ≡ parts
  pub day : Day s cs t

pub record Collects (k : Collect.State) (pss : List (List (List ℕ))) (s : State) : Type 0 where
  pub calls : List Call
  pub last : State
  pub collected : CollectedDay k pss s calls last
