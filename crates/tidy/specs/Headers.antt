-- "Headers put into 01's order": behind a good sync the next three header blocks wait until versions, channels and context are all there, and then go on in
-- this order; if another block comes before that, what waits goes on as it came, and the block behind it. Nothing is lost and nothing is made up.
-- (01 is this project's scope document, 02 its change requests, 001 is MS-RDPRFX: README, "What 01 is".)
use Rattle.std.specs.Prelude.{ℕ, zero, suc, ◌≡◌, Bool, true, false, List, [], ◌∷◌, ◌++◌, leb, eqb, length, take, drop}
use Rattle.whole.specs.Row.{◌!◌⨾◌, ◌⇒◌∣◌}
use Rattle.wire.specs.Le.{le16, patch}
use Rattle.wire.specs.Refusal.{number_of, count_of}
use Rattle.wire.specs.Wrote.{length_said, out_left}
use Rattle.session.specs.Header.{record_of, header_fault as panelFault}
use Rattle.tidy.specs.declared.headers.Waiting.{Waiting}
use Rattle.tidy.specs.declared.headers.Gave.{Gave}

-- which of the three a block is, by its type and 01's length: 1 versions, 2 channels, 3 context; 0 is any other block
unfoldable pub kind_by : ℕ → ℕ → ℕ
kind_by type long =
    eqb type 0xCCC1 ⇒ (eqb long 10 ⇒ 1 ∣ 0) ∣
    eqb type 0xCCC2 ⇒ (eqb long 12 ⇒ 2 ∣ 0) ∣
    eqb type 0xCCC3 ⇒ (eqb long 13 ⇒ 3 ∣ 0) ∣
    0

unfoldable pub kind_of : List ℕ → ℕ
kind_of b = kind_by (le16 b 0) (length b)

-- a good sync: what a session just opened takes, for nothing else is due to it ("Headers come in table order; a good sync is always due"), and what every
-- other session takes as well (`sync_good`). A sync that the panel refuses, for its length, magic or version, opens no wait
unfoldable pub is_sync : List ℕ → Bool
is_sync b = eqb (panelFault (record_of 0 0 0 0 0) b) 0

-- the three have a place each in a store of 35 bytes, in 01's order
unfoldable pub place_of : ℕ → ℕ
place_of k = eqb k 1 ⇒ 0 ∣ eqb k 2 ⇒ 10 ∣ 22

unfoldable pub length_of : ℕ → ℕ
length_of k = eqb k 1 ⇒ 10 ∣ eqb k 2 ⇒ 12 ∣ eqb k 3 ⇒ 13 ∣ 0

unfoldable pub block_at : List ℕ → ℕ → List ℕ
block_at store k = take (length_of k) (drop (place_of k) store)

-- what waits, as it came: `first`, then `second`; 0 is none
unfoldable pub waiting_bytes : Waiting → List ℕ → List ℕ
waiting_bytes w store = block_at store w.first ++ block_at store w.second

-- does a block of this kind wait? Behind a good sync, and no other of its kind waits
unfoldable pub waits : Waiting → ℕ → Bool
waits w k =
    eqb w.on 1 ! false ⨾
    eqb k 0 ⇒ false ∣
    eqb k w.first ⇒ false ∣
    eqb k w.second ⇒ false ∣
    true

-- ---- one block

-- what goes on: nothing while one or two wait, all three in 01's order when the third is there, else what waited and the block
unfoldable pub held_on : Waiting → List ℕ → List ℕ
held_on w store = eqb w.second 0 ⇒ [] ∣ take 35 store

unfoldable pub passed_on : Waiting → List ℕ → List ℕ → List ℕ
passed_on w store b = waits w (kind_of b) ! (waiting_bytes w store ++ b) ⨾ held_on w (patch store (place_of (kind_of b)) b)

unfoldable pub store_after : Waiting → List ℕ → List ℕ → List ℕ
store_after w store b = waits w (kind_of b) ! store ⨾ patch store (place_of (kind_of b)) b

unfoldable pub flag_of : Bool → ℕ
flag_of sync = sync ⇒ 1 ∣ 0

-- a good sync opens the wait, the third of the three or any other block ends it
unfoldable pub waiting_by : Waiting → ℕ → Bool → Waiting
waiting_by w k sync =
    waits w k ! record { on = flag_of sync; first = 0; second = 0 } ⨾
    eqb w.first 0 ⇒ record { on = 1; first = k; second = 0 } ∣
    eqb w.second 0 ⇒ record { on = 1; first = w.first; second = k } ∣
    record { on = 0; first = 0; second = 0 }

unfoldable pub waiting_after : Waiting → List ℕ → Waiting
waiting_after w b = waiting_by w (kind_of b) (is_sync b)

-- ---- all blocks of a stream, one after the other, and what waits at its end

unfoldable pub all_on : Waiting → List ℕ → List (List ℕ) → List ℕ
all_on w store [] = waiting_bytes w store
all_on w store (b ∷ bs) = passed_on w store b ++ all_on (waiting_after w b) (store_after w store b) bs

-- nothing waits
abbrev pub none : Waiting
none = record { on = 0; first = 0; second = 0 }

-- ---- the same by blocks alone

-- versions, channels and context in any order: three kinds, no two alike, and none of them 0
unfoldable pub is_three : ℕ → ℕ → ℕ → Bool
is_three i j k =
    eqb i 0 ⇒ false ∣
    eqb j 0 ⇒ false ∣ eqb j i ⇒ false ∣
    eqb k 0 ⇒ false ∣ eqb k i ⇒ false ∣ eqb k j ⇒ false ∣
    true

-- a good sync, and behind it the three
unfoldable pub is_group : List ℕ → List ℕ → List ℕ → List ℕ → Bool
is_group s a b c = is_sync s ! false ⨾ is_three (kind_of a) (kind_of b) (kind_of c)

-- of the three the one of a kind
unfoldable pub of_kind : ℕ → List ℕ → List ℕ → List ℕ → List ℕ
of_kind k a b c = eqb (kind_of a) k ⇒ a ∣ eqb (kind_of b) k ⇒ b ∣ c

-- the blocks that go on: in each group versions, channels and context behind their sync, every other block as it came
unfoldable pub blocks_on : List (List ℕ) → List (List ℕ)
blocks_on [] = []
blocks_on (s ∷ []) = s ∷ []
blocks_on (s ∷ a ∷ []) = s ∷ a ∷ []
blocks_on (s ∷ a ∷ b ∷ []) = s ∷ a ∷ b ∷ []
blocks_on (s ∷ a ∷ b ∷ c ∷ rest) =
    is_group s a b c ! (s ∷ blocks_on (a ∷ b ∷ c ∷ rest)) ⨾
    (s ∷ of_kind 1 a b c ∷ of_kind 2 a b c ∷ of_kind 3 a b c ∷ blocks_on rest)

-- ---- what the calls promise

-- refusals, by the store's length, what waits, the bytes that may go on and the room for them: 2 where the store is not 35 bytes or a number of what waits
-- is none of the three, 13 where the output is too short
unfoldable pub header_fault : ℕ → Waiting → ℕ → ℕ → ℕ
header_fault store w most room = eqb store 35 ! 2 ⨾ leb w.first 3 ! 2 ⨾ leb w.second 3 ! 2 ⨾ leb most room ! 13 ⨾ 0

-- "nothing is changed" where a call is refused
unfoldable pub waiting_said : ℕ → Waiting → Waiting → Waiting
waiting_said zero next w = next
waiting_said (suc f) next w = w

unfoldable pub store_left : ℕ → List ℕ → List ℕ → List ℕ
store_left zero next store = next
store_left (suc f) next store = store

-- by the number of the first fault, the bytes that go on, what waits then and the store then: the answer, the store and the output
pub record GaveOn (fault : ℕ) (bytes : List ℕ) (next w : Waiting) (after store store' out out' : List ℕ) (r : Gave) : Type 0 where
  pub number : number_of r.answer ≡ fault
  pub size : count_of r.answer ≡ length_said fault bytes
  pub waiting : r.waiting ≡ waiting_said fault next w
  pub kept : store' ≡ store_left fault after store
  pub left : out' ≡ out_left fault bytes out
