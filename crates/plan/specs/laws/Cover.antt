-- The walk over the tiles with a finger in the list: every tile so far is listed where it differs.
use Rattle.std.specs.Prelude.{ℕ, ◌+◌, ◌≤◌, ◌<◌, ◌≡◌, Bool, List}
use Rattle.std.proofs.Math.Path.{refl}
use Rattle.std.proofs.Common.{sym}
use Rattle.std.proofs.Math.Bool.{true, false}
use Rattle.whole.specs.Row.{◌⇒◌∣◌}
use Rattle.whole.specs.laws.Row.{case_yes, case_no}
use Rattle.frame_pieces.specs.Parts.{tiles_no}
use Rattle.plan.specs.Plan.{all_below, changed_tile, is_listed, covers}
use Rattle.plan.specs.Facts.{StrictlyRising}
use Rattle.plan.specs.Runs.{listed_at}
use Rattle.plan.specs.laws.All.{all_none, all_more, all_fails, all_fewer}
use Rattle.plan.specs.laws.Lists.{Finger, finger_first, finger_on, finger_stays, finger_listed, finger_not}

-- a tile is listed, or does not differ
abbrev pub is_covered : List ℕ → List ℕ → ℕ → ℕ → List ℕ → ℕ → Bool
is_covered old new w h ks k = changed_tile old new w h k ⇒ is_listed k ks ∣ true

module _ (old new : List ℕ) (w h : ℕ) (ks : List ℕ) where
  pub record Covering (f k : ℕ) : Type 0 where
    pub finger : Finger ks f k
    pub all : true ≡ all_below (is_covered old new w h ks) k

  pub cover_none : Covering 0 0
  cover_none = record { finger = finger_first ks; all = all_none (is_covered old new w h ks) }

  pub listed_covered : (k : ℕ) → is_listed k ks ≡ true → is_covered old new w h ks k ≡ true
  unfolding ◌⇒◌∣◌
  listed_covered k e = by (changed_tile old new w h k)
    where
      by : (t : Bool) → (t ⇒ is_listed k ks ∣ true) ≡ true
      by true = e
      by false = refl

  pub same_covered : (k : ℕ) → changed_tile old new w h k ≡ false → is_covered old new w h ks k ≡ true
  same_covered k e = sym (case_no _ _ _ _ e refl)

  pub missing_covered : (k : ℕ) → changed_tile old new w h k ≡ true → is_listed k ks ≡ false → is_covered old new w h ks k ≡ false
  missing_covered k e l = sym (case_yes _ _ _ _ e (sym l))

  module _ (r : StrictlyRising ks) (f k : ℕ) (c : Covering f k) where
    -- the finger is at the tile: it is listed
    pub cover_on : listed_at ks f k ≡ true → Covering (f + 1) (k + 1)
    cover_on e = record {
      finger = finger_on ks r f k c.finger e;
      all = all_more (is_covered old new w h ks) k c.all (listed_covered k (finger_listed ks r f k c.finger e));
    }

    -- it is not, and the tile does not differ
    pub cover_past : listed_at ks f k ≡ false → changed_tile old new w h k ≡ false → Covering f (k + 1)
    cover_past e d = record {
      finger = finger_stays ks r f k c.finger e;
      all = all_more (is_covered old new w h ks) k c.all (same_covered k d);
    }

    -- it is not, and the tile differs
    pub cover_fails : k < tiles_no w h → listed_at ks f k ≡ false → changed_tile old new w h k ≡ true → false ≡ covers old new w h ks
    unfolding covers
    cover_fails l e d = all_fails (is_covered old new w h ks) (tiles_no w h) k l (missing_covered k d (finger_not ks r f k c.finger e))

  pub cover_done : (f k : ℕ) → Covering f k → tiles_no w h ≤ k → true ≡ covers old new w h ks
  unfolding covers
  cover_done f k c l = all_fewer (is_covered old new w h ks) (tiles_no w h) k l c.all
