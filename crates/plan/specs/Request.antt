-- 02's request Eleven, checker and planner, over the calls: what a caller can rely on, sentence by sentence. `request_eleven` (specs/laws/Request)
-- proves all of it.
-- (01 is this project's scope document, 02 its change requests, 001 is MS-RDPRFX: README, "What 01 is".)
use Rattle.std.specs.Prelude.{ℕ, ◌≤◌, ◌<◌, ◌≡◌, true, List, length, take, drop, Result}
use Rattle.frame_pieces.specs.Parts.{tiles_no}
use Rattle.plan.specs.Plan.{is_listed, plan_fault, changed, Size, Lengths, Pictures}
use Rattle.plan.specs.Facts.{Unchanged, PixelOf, SamePixel, StrictlyRising, AllExist, AllListed, Contains, Acceptable}
use Rattle.plan.specs.Made.{PlanMade, MakePlanCall}
use Rattle.wire.specs.Refusal.{number_of, count_of}
use Rattle.wire.specs.declared.Refusal.{Refusal}

-- ---- the calls: what was given, what was answered, what lent memory holds afterwards (marked '), and that the call's promise holds of them

-- check_plan
pub record CheckPlan : Type 0 where
  pub width : ℕ
  pub height : ℕ
  pub old : List ℕ
  pub new : List ℕ
  pub picks : List ℕ
  pub answer : ℕ
  pub promise : answer ≡ plan_fault width height old new picks

-- make_plan
pub record MakePlan : Type 0 where
  pub width : ℕ
  pub height : ℕ
  pub old : List ℕ
  pub new : List ℕ
  pub out : List ℕ
  pub out' : List ℕ
  pub answer : Result ℕ Refusal
  pub promise : PlanMade width height old new out out' answer

-- the numbers that it listed
abbrev pub planned_by : MakePlan → List ℕ
planned_by m = take (count_of m.answer) m.out'

-- both calls were given the same pictures
pub record SamePictures (m : MakePlan) (c : CheckPlan) : Type 0 where
  pub width : m.width ≡ c.width
  pub height : m.height ≡ c.height
  pub old : m.old ≡ c.old
  pub new : m.new ≡ c.new

-- ---- what they can rely on

pub record RequestEleven : Type 0 where
  -- "accepted exactly if the list is strictly rising, all numbers exist, and every tile whose filled-up RGB bytes differ is listed"
  pub accepted : (c : CheckPlan) → c.answer ≡ 0 → Acceptable c.width c.height c.old c.new c.picks
  pub accepts : (c : CheckPlan) → Acceptable c.width c.height c.old c.new c.picks → c.answer ≡ 0
  -- "before all, a size that 01 refuses is 5, then wrong picture lengths 2"
  pub wrong_size : (c : CheckPlan) → (Size c.width c.height → ⊥) → c.answer ≡ 5
  pub wrong_lengths : (c : CheckPlan) → Size c.width c.height → (Lengths c.width c.height c.old c.new → ⊥) → c.answer ≡ 2
  -- "Out of order is 16, no such tile 8, a changed tile missing 17, first in this order"
  pub out_of_order :
      (c : CheckPlan)
      → Pictures c.width c.height c.old c.new
      → (StrictlyRising c.picks → ⊥)
      → c.answer ≡ 16
  pub no_such_tile :
      (c : CheckPlan)
      → Pictures c.width c.height c.old c.new
      → StrictlyRising c.picks
      → (AllExist (tiles_no c.width c.height) c.picks → ⊥)
      → c.answer ≡ 8
  pub missing :
      (c : CheckPlan)
      → Pictures c.width c.height c.old c.new
      → StrictlyRising c.picks
      → AllExist (tiles_no c.width c.height) c.picks
      → (AllListed c.old c.new c.width c.height c.picks → ⊥)
      → c.answer ≡ 17
  -- "An unchanged tile may be listed": more tiles than an accepted list has, in order, are accepted too
  pub more_may_be_listed :
      (w h : ℕ) (old new ks js : List ℕ)
      → plan_fault w h old new ks ≡ 0
      → StrictlyRising js
      → AllExist (tiles_no w h) js
      → Contains js ks
      → plan_fault w h old new js ≡ 0
  -- filled-up bytes differ exactly if some pixel of the tile inside the picture does: the fill adds nothing
  pub fill_adds_nothing :
      (w h k : ℕ) (old new : List ℕ)
      → Size w h
      → k < tiles_no w h
      → (Unchanged old new w h k → (x y : ℕ) → PixelOf w h k x y → SamePixel old new w x y)
      × (((x y : ℕ) → PixelOf w h k x y → SamePixel old new w x y) → Unchanged old new w h k)
  -- "Ship a planner of our own too": it lists exactly the tiles that differ
  pub listed_differ : (w h : ℕ) (old new : List ℕ) (k : ℕ) → is_listed k (changed old new w h) ≡ true → (k < tiles_no w h) × (Unchanged old new w h k → ⊥)
  pub differ_listed : (w h : ℕ) (old new : List ℕ) (k : ℕ) → k < tiles_no w h → (Unchanged old new w h k → ⊥) → is_listed k (changed old new w h) ≡ true
  -- what it listed is the definition's list, in front of the list that it was lent; the rest is untouched
  pub lists : (m : MakePlan) → number_of m.answer ≡ 0 → planned_by m ≡ changed m.old m.new m.width m.height
  pub rest_untouched :
      (m : MakePlan) → number_of m.answer ≡ 0 → drop (count_of m.answer) m.out' ≡ drop (count_of m.answer) m.out
  -- refused, nothing is written
  pub refused_untouched : (m : MakePlan) → (number_of m.answer ≡ 0 → ⊥) → m.out' ≡ m.out
  -- its list is always accepted: the definition's, and what one call listed by the other call
  pub own_list : (w h : ℕ) (old new : List ℕ) → Pictures w h old new → plan_fault w h old new (changed old new w h) ≡ 0
  pub plan_accepted :
      (m : MakePlan) (c : CheckPlan) → number_of m.answer ≡ 0 → SamePictures m c → c.picks ≡ planned_by m → c.answer ≡ 0
  -- every accepted list contains it, and none is shorter
  pub contained : (w h : ℕ) (old new ks : List ℕ) → plan_fault w h old new ks ≡ 0 → Contains ks (changed old new w h)
  pub none_shorter : (w h : ℕ) (old new ks : List ℕ) → plan_fault w h old new ks ≡ 0 → length (changed old new w h) ≤ length ks
  -- one answer and one content for every input, and for C one number, one count and one content
  pub one_number :
      (c d : CheckPlan)
      → c.width ≡ d.width
      → c.height ≡ d.height
      → c.old ≡ d.old
      → c.new ≡ d.new
      → c.picks ≡ d.picks
      → c.answer ≡ d.answer
  pub one_answer :
      (w h : ℕ) (old new out a b : List ℕ) (r q : Result ℕ Refusal) → PlanMade w h old new out a r → PlanMade w h old new out b q → (r ≡ q) × (a ≡ b)
  pub one_call :
      (w h : ℕ) (old new out a b : List ℕ) (i j m n : ℕ)
      → MakePlanCall w h old new out a i m
      → MakePlanCall w h old new out b j n
      → (m ≡ n) × ((i ≡ j) × (a ≡ b))
