-- What is promised of frames and headers that were passed on, for every session record and all bytes, on one page. Proved by `tidy_frames` and `tidy_headers`
-- (laws/Request).
-- (01 is this project's scope document, 02 its change requests, 001 is MS-RDPRFX: README, "What 01 is".)
use Rattle.std.specs.Prelude.{ℕ, ◌<◌, ◌≤◌, ◌≡◌, true, false, eqb, ℤ, length, Result}
use mathlib.Core.List.{List, [], ◌∷◌, ◌++◌, map, flatten, Perm}
use Rattle.bits.specs.laws.Bytes.{Bytes}
use Rattle.whole.specs.Row.{◌!◌⨾◌}
use Rattle.wire.specs.Le.{le16}
use Rattle.session.specs.Header.{ready, header_fault}
use Rattle.session.specs.declared.Session.{Session}
use Rattle.frame_layout.specs.Reader.{frame_fault, frame_tiles, rect_count, set_at, set_place, quant_count}
use Rattle.frame_blocks.specs.Blocks.{rects_of}
use Rattle.frame_blocks.specs.Judged.{judged}
use Rattle.tidy_code.specs.Sent.{tidy_code}
use Rattle.tidy.specs.Tidy.{tidy_tile, fault_for, is_tidied, tidy_frame, told_of, FrameTidied}
use Rattle.tidy.specs.Headers.{kind_of, is_sync, all_on, none, blocks_on, GaveOn}
use Rattle.wire.specs.Refusal.{number_of, count_of}
use Rattle.wire.specs.declared.Refusal.{Refusal}
use Rattle.tidy.specs.Held.{HeldGave}
use Rattle.tidy.specs.declared.frames.Tidied.{Tidied}
use Rattle.tidy.specs.declared.headers.Gave.{Gave}
use Rattle.tidy.specs.declared.headers.Waiting.{Waiting}

-- a component judged by what its code means for a sender: the panel's number of the tidied code. That the bytes are the sender's own form of a list and not
-- 01's
-- is no fault here; everything else is
unfoldable pub judged_as : ℕ → ℕ → List ℕ → List ℕ → ℕ
judged_as sd et five code = judged et five (tidy_code sd et code)

pub record TidyFrames : Type 1 where
  -- "a frame that the panel accepts is passed on byte for byte"
  pub accepted_kept : (sd : ℕ) (s : Session) (m : List ℕ) → fault_for s m ≡ 0 → tidy_frame sd s m ≡ m
  -- "a frame whose only faults are these is accepted after tidying"
  pub mended :
      (sd : ℕ) (s : Session) (m : List ℕ) → Bytes m → ready s ≡ true → frame_fault (judged_as sd) s.width s.height s.mode m ≡ 0 → fault_for s
      (tidy_frame sd s m) ≡ 0
  -- "and shows the decoding of the same lists": its tiles are those that came with their codes tidied (each of which reads to the list that the code means:
  -- `same_list` of the crate tidy_code), under the same rectangles and quantiser sets
  pub same_tiles : (sd : ℕ) (s : Session) (m : List ℕ) → Bytes m → is_tidied sd s m ≡ true → frame_tiles (tidy_frame sd s m) ≡ map (tidy_tile sd s.mode)
      (frame_tiles m)
  pub same_region :
      (sd : ℕ) (s : Session) (m : List ℕ) → Bytes m → is_tidied sd s m ≡ true → (rect_count (tidy_frame sd s m) 14 ≡ rect_count m 14) ×
      (rects_of (tidy_frame sd s m) 14 ≡ rects_of m 14)
  pub same_sets :
      (sd : ℕ) (s : Session) (m : List ℕ) (j : ℕ) → Bytes m → is_tidied sd s m ≡ true → j < quant_count m (set_place m) →
      set_at (tidy_frame sd s m) (set_place (tidy_frame sd s m)) j ≡ set_at m (set_place m) j
  -- "what cannot be tidied goes through unchanged": what the panel would still refuse is what came, and keeps its number
  pub others_kept : (sd : ℕ) (s : Session) (m : List ℕ) → (fault_for s (tidy_frame sd s m) ≡ 0 → ⊥) → tidy_frame sd s m ≡ m
  -- "tidying twice is tidying once"
  pub once : (sd : ℕ) (s : Session) (m : List ℕ) → tidy_frame sd s (tidy_frame sd s m) ≡ tidy_frame sd s m
  pub never_longer : (sd : ℕ) (s : Session) (m : List ℕ) → length (tidy_frame sd s m) ≤ length m
  -- one answer: two that meet the promise for the same input are equal, the lent lists too
  pub one_answer :
      (sd : ℕ) (s : Session) (m : List ℕ) (list a b : List ℤ) (out x y : List ℕ) (r q : Result Tidied Refusal) → FrameTidied sd s m list a out x r →
      FrameTidied sd s m list b out y q →
      (number_of r ≡ number_of q) × ((told_of r).size ≡ (told_of q).size) × ((told_of r).cut ≡ (told_of q).cut) × (a ≡ b) × (x ≡ y)

-- ---- headers

-- versions, channels and context in the six orders
unfoldable pub orders_of : List ℕ → List ℕ → List ℕ → List (List (List ℕ))
orders_of v c x =
    (v ∷ c ∷ x ∷ []) ∷ (v ∷ x ∷ c ∷ []) ∷ (c ∷ v ∷ x ∷ []) ∷ (c ∷ x ∷ v ∷ []) ∷ (x ∷ v ∷ c ∷ []) ∷ (x ∷ c ∷ v ∷ []) ∷ []

-- each of some lists of blocks
unfoldable pub EachOf : (List (List ℕ) → Type 0) → List (List (List ℕ)) → Type 0
EachOf P [] = Unit
EachOf P (bs ∷ rest) = P bs × EachOf P rest

pub record TidyHeaders : Type 1 where
  -- the syncs that open the wait are those that the panel takes, whatever its record is: by their type, and with no fault in them
  pub sync_good : (s : Session) (b : List ℕ) → is_sync b ≡ (eqb (le16 b 0) 0xCCC0 ! false ⨾ eqb (header_fault s b) 0)
  -- "Headers put into 01's order": a good sync, then the three in any order, go on as sync, versions, channels, context
  pub ordered :
      (s v c x store : List ℕ) → length store ≡ 35 → is_sync s ≡ true → kind_of v ≡ 1 → kind_of c ≡ 2 → kind_of x ≡ 3 →
      EachOf (λ (bs : List (List ℕ)). all_on none store (s ∷ bs) ≡ s ++ (v ++ (c ++ x))) (orders_of v c x)
  -- blocks in 01's order pass unchanged
  pub unchanged :
      (s v c x store : List ℕ) → length store ≡ 35 → is_sync s ≡ true → kind_of v ≡ 1 → kind_of c ≡ 2 → kind_of x ≡ 3 →
      all_on none store (s ∷ v ∷ c ∷ x ∷ []) ≡ s ++ (v ++ (c ++ x))
  -- "Nothing is lost and nothing is made up": whatever blocks come, the bytes that go on are those of these blocks, each as often as it came, in the order of
  -- `blocks_on`; and so they are as many
  pub nothing_lost : (store : List ℕ) (bs : List (List ℕ)) → length store ≡ 35 → (all_on none store bs ≡ flatten (blocks_on bs)) × Perm (blocks_on bs) bs
  -- "tidying twice is tidying once", whatever blocks come: those that went on stay as they are
  pub once : (bs : List (List ℕ)) → blocks_on (blocks_on bs) ≡ blocks_on bs
  -- one answer of giving a block, and of letting go what waits: two that meet the promise for the same input are equal, the store and the output too
  pub one_answer :
      (fault : ℕ) (bytes : List ℕ) (next w : Waiting) (after store a b out x y : List ℕ) (r q : Gave) → GaveOn fault bytes next w after store a out x r →
      GaveOn fault bytes next w after store b out y q →
      (number_of r.answer ≡ number_of q.answer) × (count_of r.answer ≡ count_of q.answer) × (r.waiting ≡ q.waiting) × (a ≡ b) × (x ≡ y)
  -- and with what waits in 38 bytes
  pub one_held :
      (fault : ℕ) (bytes after held a b out x y : List ℕ) (r q : Result ℕ Refusal) → HeldGave fault bytes after held a out x r →
      HeldGave fault bytes after held b out y
      q →
      (number_of r ≡ number_of q) × (count_of r ≡ count_of q) × (a ≡ b) × (x ≡ y)
