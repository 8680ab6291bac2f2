-- Small cases of the collector, computed by the definitions.
use Rattle.std.specs.Prelude.{ℕ, ◌≡◌, List, [], ◌∷◌, ◌++◌, replicate}
use Rattle.collect.specs.declared.Collected.TheVariants.{More, Header, Frame}
use Rattle.collect.specs.Collect.{refused_by, in_frame, waiting, fresh, gathering, refusing, state, step, took, collect_of}

-- a store of so many bytes, all 0; the head of a block of type CC.. and a blockLen under 256
abbrev room : ℕ → List ℕ
room n = replicate n 0

abbrev head : ℕ → ℕ → List ℕ
head kind size = kind ∷ 0xCC ∷ size ∷ 0 ∷ 0 ∷ 0 ∷ []

pub record Cases : Type 0 where
  -- an end block outside a frame is handed on alone, to the frame call; the store has it whole
  pub alone : collect_of (state fresh (room 8)) (head 0xC5 8 ++ (1 ∷ 2 ∷ [])) ≡ took 8 (step fresh (head 0xC5 8 ++ (1 ∷ 2 ∷ [])) (Frame 8))
  -- a call stops at the end of what it hands on
  pub stops : collect_of (state fresh (room 6)) (head 0xC0 6 ++ head 0xC0 6) ≡ took 6 (step fresh (head 0xC0 6) (Header 6))
  -- a begin hands nothing on; every block is gathered up to the end block
  pub begin : collect_of (state fresh (room 6)) (head 0xC4 6) ≡ took 6 (step (waiting in_frame 6 0 0) (head 0xC4 6) More)
  pub frame :
      collect_of (state fresh (room 18)) (head 0xC4 6 ++ (head 0xC0 6 ++ head 0xC5 6))
      ≡ took 18 (step fresh (head 0xC4 6 ++ (head 0xC0 6 ++ head 0xC5 6)) (Frame 18))
  -- five bytes of a head wait, of whatever type; the sixth is judged: 3, then 4, then 13
  pub waits : collect_of (state fresh []) (0xC8 ∷ 0xCC ∷ 0 ∷ 0 ∷ 0 ∷ []) ≡ took 5 (step (waiting 0 0 5 0xCCC8) [] More)
  pub kind : collect_of (state (waiting 0 0 5 0xCCC8) []) (0 ∷ 9 ∷ []) ≡ took 1 (step (refusing 3 0 0 0xCCC8) [] (refused_by 3))
  pub below : collect_of (state fresh []) (head 0xBF 6) ≡ took 6 (step (refusing 3 0 0 0x6CCBF) [] (refused_by 3))
  pub size : collect_of (state fresh []) (head 0xC7 5) ≡ took 6 (step (refusing 4 0 0 0x5CCC7) [] (refused_by 4))
  pub full : collect_of (state fresh (room 7)) (head 0xC7 8) ≡ took 6 (step (refusing 13 0 0 0x8CCC7) (room 7) (refused_by 13))
  -- the frame's earlier blocks count
  pub earlier : collect_of (state (waiting in_frame 6 0 0) (room 11)) (head 0xC5 6) ≡ took 6 (step (refusing 13 in_frame 6 0x6CCC5) (room 11) (refused_by 13))
  -- a refusal is kept, also over a store that would do
  pub kept : collect_of (state (refusing 13 0 0 0x8CCC7) (room 8)) (head 0xC7 8) ≡ took 0 (step (refusing 13 0 0 0x8CCC7) (room 8) (refused_by 13))
  -- a record that no calls could have made is 12; a store shorter than the block under way is 2, and takes nothing
  pub unmade : collect_of (state (gathering in_frame 6 6) (room 9)) (1 ∷ []) ≡ took 0 (step (gathering in_frame 6 6) (room 9) (refused_by 12))
  pub short : collect_of (state (gathering in_frame 6 10) (room 9)) (1 ∷ []) ≡ took 0 (step (gathering in_frame 6 10) (room 9) (refused_by 2))
