-- What the two loops over a list keep: the bits written, or how many there are.
-- Assumes nothing.
use Rattle.std.specs.Prelude.{ℕ, suc, ◌+◌, ◌*◌, ◌-◌, ◌/◌, ◌^◌, ◌≤◌, ◌<◌, min, ◌≡◌, refl, Bool, true, false, List, [], ◌++◌, map, ℤ, length, drop, get_or}
use Rattle.std.proofs.Common.{sym, ap, ◌∙◌, arith, length-append, length-drop}
use Rattle.std.proofs.lemmas.List.{length-map}
use Rattle.bits.specs.Bits.{num_bits, gr_bits}
use Rattle.bits.specs.Pen.{Ready, Put, ReadyWide, PutWide, empty_at}
use Rattle.bits.specs.laws.Pen.{put_none, put_more, ready_after, put_close}
use Rattle.bits.specs.declared.Pen.{Pen}
use Rattle.code.specs.Code.{InRange, zeros_of, raised, kr_after, kp_one, kp_two, run_bits, pair_bits, code_of, item_of, item_bits, item_used, item_kp, item_krp}
use Rattle.code.specs.Fold.{fold_z}
use Rattle.code.specs.declared.element.Item.{Item}
use Rattle.code.specs.declared.element.Item.TheVariants.{Full, Run, Single, Twin}
use Rattle.code_write.specs.declared.put.Stand.{Stand}
use Rattle.code.specs.laws.Code.{item_full, item_run, item_twin, item_single}
use Rattle.code.specs.laws.There.{zeros_next}
use Rattle.code_write.specs.laws.Item.{SmallItem, FewZeros, at_drop, zeros_most, item_ready}
use Rattle.code_write.specs.laws.Going.{Going, going_start, going_good, going_fits, going_used, going_next, going_end, code_few}

-- the pen has put the bits D, and the code goes on
pub record Writing (rlgr3 : Bool) (l : List ℕ) (before : List ℕ) (p : Pen) (out : List ℕ) (q : Pen) (i kp krp : ℕ) : Type 0 where
  pub D : List Bool
  pub going : Going rlgr3 l D i kp krp
  pub put : PutWide before p out q D

-- n bits are counted, and the code goes on
pub record Sizing (rlgr3 : Bool) (l : List ℕ) (n i kp krp : ℕ) : Type 0 where
  pub D : List Bool
  pub going : Going rlgr3 l D i kp krp
  pub is : n ≡ length D

-- the item that is next where the writing stands
abbrev pub next_of : Bool → List ℕ → Stand → Item
next_of rlgr3 l s = item_of rlgr3 s.kp (drop s.i l)

-- what a turn is given: a list in range and a place in it, and room for the bits of its item
pub record Standing (rlgr3 : Bool) (xs : List ℤ) (size : ℕ) (s : Stand) : Type 0 where
  pub few : length xs ≤ 4096
  pub range : InRange (map fold_z xs)
  pub there : s.i < length xs
  pub kps : s.kp ≤ 80
  pub krs : s.krp ≤ 80
  pub ready : ReadyWide size s.pen (length (item_bits s.kp s.krp (next_of rlgr3 (map fold_z xs) s)))

-- what it leaves: the item's bits are put, and the writing stands past it
pub record Onward (rlgr3 : Bool) (l : List ℕ) (before : List ℕ) (s : Stand) (after : List ℕ) (r : Stand) : Type 0 where
  pub put : PutWide before s.pen after r.pen (item_bits s.kp s.krp (next_of rlgr3 l s))
  pub place : r.i ≡ s.i + item_used s.kp (next_of rlgr3 l s)
  pub kp : r.kp ≡ item_kp s.kp (next_of rlgr3 l s)
  pub krp : r.krp ≡ item_krp s.krp (next_of rlgr3 l s)

-- room for the item's bits, by its kind
pub room_of : (rlgr3 : Bool) (xs : List ℤ) (size : ℕ) (s : Stand) → Standing rlgr3 xs size s → (it : Item) → next_of rlgr3 (map fold_z xs) s ≡ it →
    (bs : List Bool) → item_bits s.kp s.krp it ≡ bs → (m : ℕ) → length bs ≡ m → ReadyWide size s.pen m
room_of rlgr3 xs size s w it e bs q m l = item_ready size s.pen (item_bits s.kp s.krp it) bs m (rw (← e) w.ready) q l

-- which item is next
module _ (l : List ℕ) (s : Stand) where
  pub next_single : (v : ℕ) → s.kp < 8 → v ≡ get_or l s.i 0 → next_of false l s ≡ Single v
  next_single v h e = item_single s.kp (drop s.i l) v h (at_drop l s.i 0 s.i (omega arith) ∙ sym e)

  pub next_twin : (a b : ℕ) → s.kp < 8 → a ≡ get_or l s.i 0 → b ≡ get_or l (s.i + 1) 0 → next_of true l s ≡ Twin a b
  next_twin a b h e f =
      item_twin s.kp (drop s.i l) a b h (at_drop l s.i 0 s.i (omega arith) ∙ sym e) (at_drop l s.i 1 (s.i + 1) refl ∙ sym f)

  -- in run mode, by the zeros z counted up to a full run's, and the end of that or of the list
  module _ (rlgr3 : Bool) (h : 8 ≤ s.kp) (full z end : ℕ) (ef : full ≡ 2 ^ (s.kp / 8)) (ez : z ≡ min full (zeros_of (drop s.i l)))
      (ee : end ≡ min (length l) (s.i + full)) where
    pub next_full : end ≤ s.i + z → next_of rlgr3 l s ≡ Full
    next_full g =
        item_full rlgr3 s.kp (drop s.i l) h (omega (arith, ef, ez, ee, length-drop s.i l, zeros_most l s.i))

    module _ (g : s.i + z < end) where
      all : zeros_of (drop s.i l) ≡ z
      all = omega (arith, ez, ee)

      pub next_run : (v : ℕ) → v ≡ get_or l (s.i + z) 0 → next_of rlgr3 l s ≡ Run z v
      next_run v e =
          item_run rlgr3 s.kp (drop s.i l) h z v (sym all) (at_drop l s.i z (s.i + z) refl ∙ sym e) (omega (arith, ef, ez, ee))
          (omega (arith, ee, length-drop s.i l))

      pub next_some : (v : ℕ) → v ≡ get_or l (s.i + z) 0 → 0 < v
      next_some v e =
          rw (e, ← at_drop l s.i z (s.i + z) refl, ← all) (zeros_next (drop s.i l) (omega (arith, all, ee, length-drop s.i l)))

-- one law for each kind of item
module _ (rlgr3 : Bool) (l before : List ℕ) (s : Stand) (after : List ℕ) (r : Stand) where
  onward : (it : Item) → next_of rlgr3 l s ≡ it → PutWide before s.pen after r.pen (item_bits s.kp s.krp it) → r.i ≡ s.i + item_used s.kp it →
      r.kp ≡ item_kp s.kp it → r.krp ≡ item_krp s.krp it → Onward rlgr3 l before s after r
  onward it e p i k m = record { put = rw e p; place = rw e i; kp = rw e k; krp = rw e m }

  pub onward_full : next_of rlgr3 l s ≡ Full → PutWide before s.pen after r.pen (num_bits 1 0) → r.i ≡ s.i + 2 ^ (s.kp / 8) → r.kp ≡ raised 4 s.kp →
      r.krp ≡ s.krp → Onward rlgr3 l before s after r
  unfolding item_bits item_used item_kp item_krp num_bits
  onward_full e p i k m = onward Full e p i k m

  pub onward_run : (z v : ℕ) → next_of rlgr3 l s ≡ Run z v → PutWide before s.pen after r.pen (run_bits s.kp s.krp z v) → r.i ≡ s.i + suc z →
      r.kp ≡ s.kp - 6 → r.krp ≡ kr_after s.krp ((v - 1) / 2) → Onward rlgr3 l before s after r
  unfolding item_bits item_used item_kp item_krp
  onward_run z v e p i k m = onward (Run z v) e p i k m

  pub onward_twin : (a b : ℕ) → next_of rlgr3 l s ≡ Twin a b → PutWide before s.pen after r.pen (pair_bits s.krp a b) → r.i ≡ s.i + 2 →
      r.kp ≡ kp_two s.kp a b → r.krp ≡ kr_after s.krp (a + b) → Onward rlgr3 l before s after r
  unfolding item_bits item_used item_kp item_krp
  onward_twin a b e p i k m = onward (Twin a b) e p i k m

  pub onward_single : (v : ℕ) → next_of rlgr3 l s ≡ Single v → PutWide before s.pen after r.pen (gr_bits (s.krp / 8) v) → r.i ≡ s.i + 1 →
      r.kp ≡ kp_one s.kp v → r.krp ≡ kr_after s.krp v → Onward rlgr3 l before s after r
  unfolding item_bits item_used item_kp item_krp
  onward_single v e p i k m = onward (Single v) e p i k m

-- what a turn needs to know of its item, and how far it goes
pub record Turn (kp : ℕ) (it : Item) : Type 0 where
  pub small : SmallItem it
  pub few : FewZeros it
  pub used : (u : ℕ) → u ≡ item_used kp it → (0 < u) × (u ≤ 4097)

module _ (rlgr3 : Bool) (xs : List ℤ) (few : length xs ≤ 4096) (range : InRange (map fold_z xs)) where
  few_l : length (map fold_z xs) ≤ 4096
  few_l = omega (arith, length-map xs fold_z)

  pub list_few : length (code_of rlgr3 (map fold_z xs)) ≤ 4096 * 131200
  list_few = omega (arith, code_few rlgr3 (map fold_z xs) few_l range, few_l)

  module _ (D : List Bool) (i kp krp : ℕ) (w : Going rlgr3 (map fold_z xs) D i kp krp) (h : i < length xs) (it : Item)
      (e : it ≡ item_of rlgr3 kp (drop i (map fold_z xs))) where
    turn_of : Turn kp it
    turn_of =
        let g = going_good rlgr3 (map fold_z xs) D i kp krp few_l range w (omega (arith, length-map xs fold_z)) it e in
        record
        { small = g.0; few = g.1; used = λ u eu. going_used rlgr3 (map fold_z xs) D i kp krp few_l range w (omega (arith, length-map xs fold_z)) it e u eu }

  module _ (before : List ℕ) (p : Pen) (ready : Ready (length before) p (length (code_of rlgr3 (map fold_z xs)))) where
    pub writing_start : Writing rlgr3 (map fold_z xs) before p before p 0 8 8
    writing_start =
        record { D = []; going = going_start rlgr3 (map fold_z xs); put = put_none before p (omega (arith, ready.few)) ready.small }

    module _ (out : List ℕ) (q : Pen) (i kp krp : ℕ) (w : Writing rlgr3 (map fold_z xs) before p out q i kp krp) (h : i < length xs) (it : Item)
        (e : it ≡ item_of rlgr3 kp (drop i (map fold_z xs))) where
      writing_turn : Turn kp it
      writing_turn = turn_of w.D i kp krp w.going h it e

      writing_ready : ReadyWide (length out) q (length (item_bits kp krp it))
      writing_ready =
          ready_after before out p q (length (code_of rlgr3 (map fold_z xs))) (length (item_bits kp krp it)) w.D ready.room w.put
          (going_fits rlgr3 (map fold_z xs) w.D i kp krp few_l range w.going (omega (arith, length-map xs fold_z)) it e)

      next :
          (new : List ℕ) (s : Pen) (u kq kr : ℕ) → PutWide out q new s (item_bits kp krp it) → u ≡ item_used kp it → kq ≡ item_kp kp it → kr ≡ item_krp krp it →
          Writing rlgr3 (map fold_z xs) before p new s (i + u) kq kr
      next new s u kq kr t eu ep er = record {
        D = w.D ++ item_bits kp krp it;
        going = going_next rlgr3 (map fold_z xs) w.D i kp krp few_l range w.going (omega (arith, length-map xs fold_z)) it e u kq kr eu ep er;
        put = put_more before out new p q s w.D (item_bits kp krp it) w.put t;
      }

    -- the same where the writing stands, and after a turn
    module _ (out : List ℕ) (s : Stand) (w : Writing rlgr3 (map fold_z xs) before p out s.pen s.i s.kp s.krp) (h : s.i < length xs) where
      pub writing_stands : Standing rlgr3 xs (length out) s
      writing_stands = record {
        few = few;
        range = range;
        there = h;
        kps = w.going.kps;
        krs = w.going.krs;
        ready = writing_ready out s.pen s.i s.kp s.krp w h _ refl;
      }

      module _ (new : List ℕ) (r : Stand) (o : Onward rlgr3 (map fold_z xs) out s new r) where
        pub writing_onward : Writing rlgr3 (map fold_z xs) before p new r.pen r.i r.kp r.krp
        writing_onward =
            rw o.place (next out s.pen s.i s.kp s.krp w h _ refl new r.pen _ r.kp r.krp o.put refl o.kp o.krp)

        pub writing_further : s.i < r.i
        writing_further = omega (arith, o.place, ((writing_turn out s.pen s.i s.kp s.krp w h _ refl).used _ refl).0)

    pub writing_end :
        (out : List ℕ) (q : Pen) (i kp krp : ℕ) → length xs ≤ i → Writing rlgr3 (map fold_z xs) before p out q i kp krp →
        (new : List ℕ) (r : Pen) → Put out (empty_at q.at) new r (num_bits q.n q.acc) → Put before p new r (code_of rlgr3 (map fold_z xs))
    writing_end out q i kp krp h w new r c =
        rw (← going_end rlgr3 (map fold_z xs) w.D i kp krp (omega (arith, length-map xs fold_z)) w.going)
        (put_close before out new p q r w.D w.put c)

    -- what waits has room
    pub writing_room :
        (out : List ℕ) (q : Pen) (i kp krp : ℕ) → length xs ≤ i → Writing rlgr3 (map fold_z xs) before p out q i kp krp → ReadyWide (length out) q 0
    writing_room out q i kp krp h w =
        let e = ap length (going_end rlgr3 (map fold_z xs) w.D i kp krp (omega (arith, length-map xs fold_z)) w.going) in
        ready_after before out p q (length (code_of rlgr3 (map fold_z xs))) 0 w.D ready.room w.put (omega (arith, e))

  pub sizing_start : Sizing rlgr3 (map fold_z xs) 0 0 8 8
  sizing_start = record { D = []; going = going_start rlgr3 (map fold_z xs); is = refl }

  module _ (n i kp krp : ℕ) (w : Sizing rlgr3 (map fold_z xs) n i kp krp) (h : i < length xs) (it : Item)
      (e : it ≡ item_of rlgr3 kp (drop i (map fold_z xs))) where
    pub sizing_turn : Turn kp it
    sizing_turn = turn_of w.D i kp krp w.going h it e

    pub sizing_few : (m : ℕ) → m ≡ length (item_bits kp krp it) → n + m ≤ 4096 * 131200
    sizing_few m em =
        omega (arith, w.is, list_few, going_fits rlgr3 (map fold_z xs) w.D i kp krp few_l range w.going (omega (arith, length-map xs fold_z)) it e)

    pub sizing_next :
        (m u kq kr : ℕ) → m ≡ length (item_bits kp krp it) → u ≡ item_used kp it → kq ≡ item_kp kp it → kr ≡ item_krp krp it →
        Sizing rlgr3 (map fold_z xs) (n + m) (i + u) kq kr
    sizing_next m u kq kr em eu ep er = record {
      D = w.D ++ item_bits kp krp it;
      going = going_next rlgr3 (map fold_z xs) w.D i kp krp few_l range w.going (omega (arith, length-map xs fold_z)) it e u kq kr eu ep er;
      is = omega (arith, w.is, length-append w.D (item_bits kp krp it));
    }

  pub sizing_end : (n i kp krp : ℕ) → length xs ≤ i → Sizing rlgr3 (map fold_z xs) n i kp krp → (n ≡ length (code_of rlgr3 (map fold_z xs))) ×
      (n ≤ 4096 * 131200)
  sizing_end n i kp krp h w =
      let e : n ≡ length (code_of rlgr3 (map fold_z xs)) =
      w.is ∙ ap length (going_end rlgr3 (map fold_z xs) w.D i kp krp (omega (arith, length-map xs fold_z)) w.going) in
      (e, omega (arith, list_few))
