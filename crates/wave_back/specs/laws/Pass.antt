-- A pass over rows of w numbers that makes two rows of the output at a turn, from the source alone: turn r makes row p r, which is to hold F r, and row
-- q r, which is to hold G r. The way back makes rows 2 r and 2 r + 1 of the columns, the way forth rows r and n + r.
-- Assumes nothing.
use Rattle.std.specs.Prelude.{◌≡◌, refl, List, ◌≢◌, ℕ, ◌+◌, ◌*◌, ◌-◌, ◌≤◌, ◌<◌, ℤ, pos, length, set, take, drop}
use Rattle.std.proofs.Common.{sym, ◌∙◌, subst, not-suc-le-zero, arith, length-set, get_or-set_other, length-take-le, below_more}
use Rattle.std.proofs.Math.Decide.{dec_lt}
use Rattle.whole.specs.laws.Put.{put_new, put_old}
use Rattle.whole.specs.Tab.{at}
use Rattle.whole.specs.laws.Tab.{row_in, AllNear}
use Rattle.whole.specs.laws.Part.{part_near}
use Rattle.whole.specs.laws.More.{tail_length}

-- places of two rows are two places
apart : (y z w x c : ℕ) → y ≢ z → x < w → c < w → y * w + x ≢ z * w + c
apart y z w x c a h k e = by (dec_lt y z) (dec_lt z y)
  where
    by : Dec (y < z) → Dec (z < y) → ⊥
    by (yes i) d = omega (arith, row_in y z w i)
    by (no i) (yes j) = omega (arith, row_in z y w j)
    by (no i) (no j) = a (omega arith)

-- ---- one turn

-- the first c places of rows p and q hold F and G, and every other row is as it was
pub record Two (w p q : ℕ) (F G : ℕ → ℤ) (c : ℕ) (l₀ l : List ℤ) : Type 0 where
  pub same : length l ≡ length l₀
  pub first : (x : ℕ) → x < c → at l (p * w + x) ≡ F x
  pub second : (x : ℕ) → x < c → at l (q * w + x) ≡ G x
  pub kept : (y : ℕ) → y ≢ p → y ≢ q → (x : ℕ) → x < w → at l (y * w + x) ≡ at l₀ (y * w + x)

module _ (w p q : ℕ) (F G : ℕ → ℤ) where
  pub two_start : (l : List ℤ) → Two w p q F G 0 l l
  two_start l = record { same = refl; first = λ x h. absurd (not-suc-le-zero h); second = λ x h. absurd (not-suc-le-zero h); kept = λ y u v x h. refl }

  pub two_put :
      (c : ℕ) (l₀ l : List ℤ) (s t : ℤ) → p ≢ q → c < w → p * w + c < length l → q * w + c < length l → s ≡ F c → t ≡ G c →
      Two w p q F G c l₀ l → Two w p q F G (c + 1) l₀ (set (set l (p * w + c) s) (q * w + c) t)
  two_put c l₀ l s t d h a b e f r = record {
    same = simp length-set r.same;
    first = put_old (λ x. p * w + x) F (set l (p * w + c) s) (q * w + c) t (c + 1) (λ x k. apart p q w x c d (omega arith) h)
        (put_new (λ x. p * w + x) F l c s a (λ x k. omega arith) e r.first);
    second = put_new (λ x. q * w + x) G (set l (p * w + c) s) c t (simp length-set b) (λ x k. omega arith) f
        (put_old (λ x. q * w + x) G l (p * w + c) s c (λ x k. apart q p w x c (λ z. d (sym z)) (omega arith) h) r.second);
    kept = λ y u v x k. get_or-set_other (set l (p * w + c) s) (q * w + c) (y * w + x) t (pos 0) (apart y q w x c v k h)
        ∙ get_or-set_other l (p * w + c) (y * w + x) s (pos 0) (apart y p w x c u k h) ∙ r.kept y u v x k;
  }

pub two_whole : {w p q c : ℕ} {F G : ℕ → ℤ} {l₀ l : List ℤ} → c ≡ w → Two w p q F G c l₀ l → Two w p q F G w l₀ l
two_whole {w} {p} {q} {c} {F} {G} {l₀} {l} e r = subst (λ (k : ℕ). Two w p q F G k l₀ l) e r

-- ---- all turns

-- the turns below n have rows of their own
pub record Own (n : ℕ) (p q : ℕ → ℕ) : Type 0 where
  pub first : (y r : ℕ) → y < r → r < n → (p y ≢ p r) × (p y ≢ q r)
  pub second : (y r : ℕ) → y < r → r < n → (q y ≢ p r) × (q y ≢ q r)

-- the rows of the turns below r are done
pub record Done (w : ℕ) (p q : ℕ → ℕ) (F G : ℕ → ℕ → ℤ) (r : ℕ) (dst : List ℤ) : Type 0 where
  pub first : (y : ℕ) → y < r → (x : ℕ) → x < w → at dst (p y * w + x) ≡ F y x
  pub second : (y : ℕ) → y < r → (x : ℕ) → x < w → at dst (q y * w + x) ≡ G y x

-- the loop's invariant: the first turn is behind it and the last before it
pub record Turned (n w : ℕ) (p q : ℕ → ℕ) (F G : ℕ → ℕ → ℤ) (r : ℕ) (dst : List ℤ) : Type 0 where
  pub some : 1 ≤ r
  pub most : r ≤ n - 1
  pub long : length dst ≡ 2 * n * (2 * n)
  pub done : Done w p q F G r dst

module _ (n w : ℕ) (p q : ℕ → ℕ) (F G : ℕ → ℕ → ℤ) (own : Own n p q) where
  done_turn : (r : ℕ) (dst new : List ℤ) → r < n → Two w (p r) (q r) (F r) (G r) w dst new → Done w p q F G r dst → Done w p q F G (r + 1) new
  done_turn r dst new i v h = record {
    first = below_more (λ y. (x : ℕ) → x < w → at new (p y * w + x) ≡ F y x) r
        (λ y k x j. let o = own.first y r k i in v.kept (p y) o.0 o.1 x j ∙ h.first y k x j) (λ x j. v.first x j);
    second = below_more (λ y. (x : ℕ) → x < w → at new (q y * w + x) ≡ G y x) r
        (λ y k x j. let o = own.second y r k i in v.kept (q y) o.0 o.1 x j ∙ h.second y k x j) (λ x j. v.second x j);
  }

  pub first_turn : (dst new : List ℤ) → 2 ≤ n → length dst ≡ 2 * n * (2 * n) → Two w (p 0) (q 0) (F 0) (G 0) w dst new → Turned n w p q F G 1 new
  first_turn dst new h e v = record {
    some = omega arith;
    most = omega arith;
    long = v.same ∙ e;
    done = done_turn 0 dst new (omega arith) v (record { first = λ y k. absurd (not-suc-le-zero k); second = λ y k. absurd (not-suc-le-zero k) });
  }

  module _ (r : ℕ) (dst new : List ℤ) (t : Turned n w p q F G r dst) (v : Two w (p r) (q r) (F r) (G r) w dst new) where
    pub next_turn : r + 1 < n → Turned n w p q F G (r + 1) new
    next_turn h = record { some = omega arith; most = omega arith; long = v.same ∙ t.long; done = done_turn r dst new (omega arith) v t.done }

    pub last_turn : 2 ≤ n → n ≤ r + 1 → (length new ≡ 2 * n * (2 * n)) × Done w p q F G n new
    last_turn g h =
        let m = t.most in
        let e : r + 1 ≡ n = omega arith in
        (v.same ∙ t.long, subst (λ (k : ℕ). Done w p q F G k new) e (done_turn r dst new (omega arith) v t.done))

-- ---- what is asked of both ways

-- one level on the end of a list of 4,096, from place a on: what is asked of it gives what its parts are asked
pub level_asks :
    {B : ℕ} (a n w : ℕ) (work tmp : List ℤ) →
    (2 ≤ n) × (n ≤ 32) × (length work ≡ a + 4 * (n * n)) × (length work ≡ 4096) × (length tmp ≡ 4096) × AllNear B work × (w ≡ 2 * n) →
    (2 ≤ n) × (n ≤ 32) × (length (take (length work - a) (drop a work)) ≡ 4 * (n * n)) × (length (take (4 * (n * n) - 0) tmp) ≡ 4 * (n * n)) ×
    AllNear B (take (length work - a) (drop a work)) × (w ≡ 2 * n)
level_asks {B} a n w work tmp (two, most, e, f, g, near, wide) = (
  two,
  most,
  tail_length a (4 * (n * n)) work e,
  length-take-le (4 * (n * n) - 0) tmp (omega arith) ∙ omega arith,
  part_near work a (length work - a) near,
  wide,
)

-- a length in the code's own width
pub in_width : {k w : ℕ} (n : ℕ) → w ≡ 2 * n → k ≡ 2 * n * (2 * n) → k ≡ 2 * n * w
in_width {k} n e f = subst (λ (v : ℕ). k ≡ 2 * n * v) (sym e) f
