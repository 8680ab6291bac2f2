-- 02's request One over the calls: what a caller does with the bytes that the card gives him, and what he can rely on, sentence by sentence.
-- `request_one` (specs/RequestLaws) proves all of it.
-- (01 is this project's scope document, 02 its change requests, 001 is MS-RDPRFX: README, "What 01 is".)
use Rattle.std.specs.Prelude.{ℕ, ◌+◌, ◌*◌, ◌≤◌, ◌<◌, ◌≡◌, true, List, [], ◌∷◌, ◌++◌, ◌⊎◌, leb, length, get_or, take, drop}
use Rattle.wire.specs.Le.{bytes16, bytes32, patch}
use Rattle.whole.specs.Row.{◌⇒◌∣◌}
use Rattle.collect.specs.declared.Collector.{Collector}
use Rattle.wire.specs.declared.Refusal.{Refusal}
use Rattle.wire.specs.declared.Refusal.TheVariants.{Buffer}
use Rattle.collect.specs.declared.Collected.TheVariants.{More, Header, Frame, Refused}
use Rattle.collect.specs.declared.Took.{Took}
use Rattle.collect.specs.Collect.{State, Part, refused_by, fresh, refusing, head_bytes, state, step, took, said}
use Rattle.collect.specs.Collect.{collector_made, collector_fault, collect_of, parts_of}

-- ---- bytes

abbrev pub Bytes : List ℕ → Type 0
Bytes bs = (i : ℕ) → get_or bs i 0 < 256

-- pieces, empty ones too, and all their bytes
unfoldable pub together : List (List ℕ) → List ℕ
together [] = []
together (p ∷ ps) = p ++ together ps

-- what is left of a piece that was given
abbrev pub rest : State → List ℕ → List ℕ
rest s p = drop (collect_of s p).taken p

abbrev pub after : State → List ℕ → State
after s p = (collect_of s p).step.state

-- what a caller does with pieces, which parts are handed on to him, and the state that he ends in
pub data Given : State → List (List ℕ) → List Part → State → Type 0 where
  -- nothing is left to give
  done : {s : State} → Given s [] [] s
  -- "the rest is given again"
  over :
      {s t : State} {p : List ℕ} {ps : List (List ℕ)} {hs : List Part}
      → Given (after s p) (rest s p ∷ ps) hs t
      → Given s (p ∷ ps) (parts_of (collect_of s p).step ++ hs) t
  -- no rest: it need not be given
  next : {s t : State} {ps : List (List ℕ)} {hs : List Part} → Given s ps hs t → Given s ([] ∷ ps) hs t
  -- a rest may be given together with the next piece
  join : {s t : State} {p q : List ℕ} {ps : List (List ℕ)} {hs : List Part} → Given s ((p ++ q) ∷ ps) hs t → Given s (p ∷ q ∷ ps) hs t
  -- the rest of a piece that was refused is not given again
  stop :
      {s t : State} {p : List ℕ} {ps : List (List ℕ)} {hs : List Part} (refusal : Refusal)
      → (collect_of s p).step.answer ≡ Refused refusal
      → Given (after s p) ps hs t
      → Given s (p ∷ ps) hs t

pub record Gives (s : State) (ps : List (List ℕ)) : Type 0 where
  pub parts : List Part
  pub end : State
  pub given : Given s ps parts end

-- ---- blocks, as 01 lays them out: "blockType 2, blockLen 4 (whole block)", and the rest

pub record Block : Type 0 where
  pub kind : ℕ
  pub body : List ℕ

unfoldable pub block_bytes : Block → List ℕ
block_bytes b = (bytes16 b.kind ++ bytes32 (6 + length b.body)) ++ b.body

unfoldable pub blocks_of : List Block → List ℕ
blocks_of [] = []
blocks_of (b ∷ bs) = block_bytes b ++ blocks_of bs

-- "from its begin block through its end block"
unfoldable pub frame_bytes : List ℕ → List Block → List ℕ → List ℕ
frame_bytes first bs last =
    block_bytes (record { kind = 0xCCC4; body = first }) ++ (blocks_of bs ++ block_bytes (record { kind = 0xCCC5; body = last }))

-- a type CCC0 to CCC7, and a length that blockLen can say
pub record Known (b : Block) : Type 0 where
  pub low : 0xCCC0 ≤ b.kind
  pub high : b.kind ≤ 0xCCC7
  pub small : 6 + length b.body < 4294967296

-- blocks between a frame's begin and its end: any that are known, but no end block
abbrev pub Inner : List Block → Type 0
Inner [] = Unit
Inner (b ∷ bs) = Known b × ((b.kind ≡ 0xCCC5 → ⊥) × Inner bs)

-- ---- a caller

-- the bytes of parts
unfoldable pub flat : List Part → List ℕ
flat [] = []
flat (p ∷ ps) = p.bytes ++ flat ps

-- the bytes that are taken and not handed on yet: those in the store, and those of the head beside it
abbrev pub unhanded : State → List ℕ
unhanded s = take s.collector.held s.store ++ head_bytes s.collector.seen s.collector.head

-- a store and bytes of which one call makes a record
pub record Reached (c : Collector) : Type 0 where
  pub store : List ℕ
  pub bytes : List ℕ
  pub small : Bytes bytes
  pub is : (collect_of (state fresh store) bytes).step.state.collector ≡ c

-- ---- a head: its six bytes, and how it is refused

abbrev pub head_bytes_of : ℕ → ℕ → List ℕ
head_bytes_of kind size = bytes16 kind ++ bytes32 size

-- a type and a blockLen that six bytes can say
pub record Head (kind size : ℕ) : Type 0 where
  pub kind_small : kind < 65536
  pub size_small : size < 4294967296

-- between blocks, outside a frame or in one, over a store that fits what is gathered
pub record BetweenBlocks (s : State) : Type 0 where
  pub no_block : s.collector.end ≡ 0
  pub takes : 0 ≡ collector_fault s.collector (length s.store)

-- a head is refused with a number: its six bytes are taken and none behind them, they stay beside the store, and the store, with the frame's earlier blocks
-- in it, is as it was
abbrev pub HeadRefused : ℕ → State → ℕ → ℕ → List ℕ → Type 0
HeadRefused number s kind size more =
    collect_of s (head_bytes_of kind size ++ more)
    ≡ took 6 (step (refusing number s.collector.part s.collector.held (kind + 65536 * size)) s.store (refused_by number))

-- bytes of a head that is not complete yet: all of them are taken, nothing is answered, and they are beside the store, which is as it was
pub record HeadWaits (s : State) (bs : List ℕ) : Type 0 where
  pub answer : (collect_of s bs).step.answer ≡ More
  pub taken : (collect_of s bs).taken ≡ length bs
  pub store : (after s bs).store ≡ s.store
  pub held : (after s bs).collector.held ≡ s.collector.held
  pub seen : (after s bs).collector.seen ≡ s.collector.seen + length bs

pub record RequestOne : Type 0 where
  -- one answer alone, and one content of the store, meet the promise of a call
  pub one_answer :
      (s : State) (bs out out' : List ℕ) (r r' : Took) → said r out ≡ collect_of s bs → said r' out' ≡ collect_of s bs → (r ≡ r') × (out ≡ out')
  -- "gathers one header block .. and hands it on whole": a block outside a frame, if it is no begin and the store has room; "CCC5 to CCC7 then go to the frame
  -- call"; "a call stops at the end of what it hands on"
  pub block :
      (store more : List ℕ) (b : Block)
      → Known b
      → (b.kind ≡ 0xCCC4 → ⊥)
      → length (block_bytes b) ≤ length store
      → collect_of (state fresh store) (block_bytes b ++ more)
      ≡ took (length (block_bytes b))
      (step fresh (patch store 0 (block_bytes b)) (leb b.kind 0xCCC3 ⇒ Header (length (block_bytes b)) ∣ Frame (length (block_bytes b))))
  -- "or one frame from its begin block through its end block", whatever blocks are between them
  pub frame :
      (store more first last : List ℕ) (bs : List Block)
      → 6 + length first < 4294967296
      → Inner bs
      → 6 + length last < 4294967296
      → length (frame_bytes first bs last) ≤ length store
      → collect_of (state fresh store) (frame_bytes first bs last ++ more)
      ≡ took (length (frame_bytes first bs last)) (step fresh (patch store 0 (frame_bytes first bs last)) (Frame (length (frame_bytes first bs last))))
  -- "the head waits beside the store till then": fewer than six bytes wait, whatever they are
  pub head_waits : (s : State) (bs : List ℕ) → BetweenBlocks s → s.collector.seen + length bs < 6 → HeadWaits s bs
  -- "When a block head is complete it is judged, in this order: type not CCC0 to CCC7 is 3", whatever its blockLen and the store
  pub wrong_type :
      (s : State) (kind size : ℕ) (more : List ℕ)
      → BetweenBlocks s
      → s.collector.seen ≡ 0
      → Head kind size
      → (kind < 0xCCC0) ⊎ (0xCCC7 < kind)
      → HeadRefused 3 s kind size more
  -- "blockLen under 6 is 4", whatever the store
  pub wrong_length :
      (s : State) (kind size : ℕ) (more : List ℕ)
      → BetweenBlocks s
      → s.collector.seen ≡ 0
      → 0xCCC0 ≤ kind
      → kind ≤ 0xCCC7
      → size < 6
      → HeadRefused 4 s kind size more
  -- "the frame's earlier blocks plus blockLen over the store is 13"
  pub no_room :
      (s : State) (kind size : ℕ) (more : List ℕ)
      → BetweenBlocks s
      → s.collector.seen ≡ 0
      → Head kind size
      → 0xCCC0 ≤ kind
      → kind ≤ 0xCCC7
      → 6 ≤ size
      → length s.store < s.collector.held + size
      → HeadRefused 13 s kind size more
  -- nothing is lost and nothing is taken twice: what a call hands on, and what it then holds, is what it held before and the bytes that it says it took
  pub nothing_lost :
      (s : State) (bs : List ℕ) → Bytes bs → flat (parts_of (collect_of s bs).step) ++ unhanded (after s bs) ≡ unhanded s ++ take (collect_of s bs).taken bs
  -- "However the bytes are cut, also with empty hand-overs, the blocks handed on and the state at the end are those of one hand-over"
  pub however_cut :
      {s t u : State} {ps qs : List (List ℕ)} {hs ks : List Part}
      → Given s ps hs t
      → Given s qs ks u
      → together ps ≡ together qs
      → Bytes (together ps)
      → (hs ≡ ks) × (t ≡ u)
  -- and every list of pieces can be given
  pub can_be_given : (s : State) (ps : List (List ℕ)) → Bytes (together ps) → Gives s ps
  -- an empty hand-over takes nothing, changes nothing and hands nothing on
  pub empty : (s : State) → 0 ≡ collector_fault s.collector (length s.store) → collect_of s [] ≡ took 0 (step s.collector s.store More)
  -- "After such a refusal it answers the same until reset", whatever bytes and whatever store it is lent (a store that does not fit, 2, is not remembered)
  pub refusal_stays :
      (s : State) (bs store cs : List ℕ) (refusal : Refusal)
      → Bytes bs
      → (collect_of s bs).step.answer ≡ Refused refusal
      → (refusal ≡ Buffer → ⊥)
      → collect_of (state (after s bs).collector store) cs ≡ took 0 (step (after s bs).collector store (Refused refusal))
  -- "until reset": a fresh record takes bytes over any store
  pub reset_takes : (room : ℕ) → 0 ≡ collector_fault fresh room
  -- a record that calls make is one that is taken, and every one that is taken can be made by a call
  pub made_fresh : true ≡ collector_made fresh
  pub made_stays : (s : State) (bs : List ℕ) → Bytes bs → true ≡ collector_made s.collector → true ≡ collector_made (after s bs).collector
  pub made_reached : (c : Collector) → true ≡ collector_made c → Reached c
