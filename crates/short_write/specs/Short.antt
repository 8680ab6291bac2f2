-- The short frame's writer: what it answers and what it leaves, for every input. 02, request Eleven: "The short frame's writer makes this check itself, after
-- its own 5, 7 and 2; then 9, 6 and 13 as before, over the listed tiles."
-- (01 is this project's scope document, 02 its change requests, 001 is MS-RDPRFX: README, "What 01 is".)
use Rattle.std.specs.Prelude.{ℕ, ◌≡◌, List, ℤ, length, Result}
use Rattle.whole.specs.Row.{◌!◌⨾◌, ◌⨟◌}
use Rattle.quants.specs.declared.Quants.{Quants}
use Rattle.frame_pieces.specs.Parts.{pixels_good}
use Rattle.frame_write.specs.FrameWrite.{work_left}
use Rattle.frame_write.specs.Sets.{arg_fault_over}
use Rattle.frame_write.specs.Picked.{frame_picked, send_fault_picked}
use Rattle.plan.specs.Plan.{picks_fault}
use Rattle.short_write.specs.Answer.{WroteShort}
use Rattle.plan.specs.declared.check.PlanRefusal.{PlanRefusal}

-- "its own 5, 7 and 2": the frame writer's of the new picture, and 2 for the old one's length too
unfoldable pub own_fault : ℕ → ℕ → ℕ → Quants → ℕ → ℕ → ℕ → ℕ → ℕ
own_fault w h mode q old new list scratch = arg_fault_over w h mode q new list scratch ⨟ (pixels_good w h old ! 2 ⨾ 0)

-- the number of the first fault: its own, then "this check" (16, 8, 17), "then 9, 6 and 13 as before, over the listed tiles"
unfoldable pub short_fault : ℕ → ℕ → ℕ → Quants → ℕ → List ℕ → List ℕ → List ℕ → ℕ → ℕ → ℕ → ℕ
short_fault w h mode q index old new ks list scratch room =
    own_fault w h mode q (length old) (length new) list scratch ⨟
    (picks_fault old new w h ks ⨟
    send_fault_picked index w h mode q new ks room)

-- what the call says and leaves; xs' is a list at exit. "The frame writer's work lists are untouched on 5, 7 and 2 and hold only zeros after every other
-- answer" (01): also on 16, 8 and 17
pub record ShortWritten (w h mode : ℕ) (q : Quants) (index : ℕ) (old new ks : List ℕ) (list list' scratch scratch' : List ℤ)
    (out out' : List ℕ) (r : Result ℕ PlanRefusal) : Type 0 where
  pub wrote :
      WroteShort (short_fault w h mode q index old new ks (length list) (length scratch) (length out))
      (frame_picked index w h mode q new ks) out out' r
  pub first : list' ≡ work_left (own_fault w h mode q (length old) (length new) (length list) (length scratch)) list
  pub second : scratch' ≡ work_left (own_fault w h mode q (length old) (length new) (length list) (length scratch)) scratch
