-- The page of promises, proved.
use Rattle.std.specs.Prelude.{ℕ, zero, suc, ◌+◌, ◌≤◌, ◌≡◌, refl, Bool, true, false, eqb, ℤ, length, Result}
use Rattle.std.proofs.Math.Path.{ap, sym, subst}
use Rattle.std.proofs.Common.{◌∙◌, true≢false, arith}
use mathlib.Core.List.{List, [], ◌∷◌, ◌++◌, append-nil, flatten}
use borrow.Author.Tests.{eqb-true, eq-eqb}
use Rattle.whole.specs.Row.{◌!◌⨾◌, ◌⇒◌∣◌}
use Rattle.whole.specs.laws.Row.{passes, fails, both}
use Rattle.bits.specs.laws.Bytes.{Bytes}
use Rattle.frame_layout.specs.Reader.{codes_fault, tile_fault, tiles_fault, tile_at, size_at, frame_fault, data_of, tile_count, set_place}
use Rattle.frame_layout.specs.laws.Tiles.{none as no_fault}
use Rattle.frame_blocks.specs.Judged.{judged}
use Rattle.frame_blocks.specs.Tiles.{tile_front}
use Rattle.frame_blocks.specs.laws.Tiles.{tile_goes_on}
use Rattle.session.specs.Header.{ready}
use Rattle.session.specs.declared.Session.{Session}
use Rattle.tidy.specs.Tidy.{fault_for, layout_for, is_tidied, tidy_frame, frame_tidied, told_of, FrameTidied}
use Rattle.tidy.specs.Put.{Laid}
use Rattle.tidy.specs.Headers.{kind_of, is_sync, all_on, none, is_three, is_group, of_kind, blocks_on, GaveOn}
use Rattle.wire.specs.Refusal.{number_of, count_of}
use Rattle.wire.specs.declared.Refusal.{Refusal}
use Rattle.tidy.specs.Held.{HeldGave}
use Rattle.tidy.specs.declared.frames.Tidied.{Tidied}
use Rattle.tidy.specs.declared.headers.Gave.{Gave}
use Rattle.tidy.specs.declared.headers.Waiting.{Waiting}
use Rattle.tidy.specs.laws.Layout.{tiles_by, parts_by, parts_good, laid, any_code, front_alone}
use Rattle.tidy.specs.laws.Mended.{Again, again}
use Rattle.tidy.specs.laws.Sync.{sync_good}
use Rattle.tidy.specs.laws.Blocks.{same_blocks, twice_once}
use Rattle.tidy.specs.laws.Order.{bytes_on}
use Rattle.tidy.specs.laws.Put.{frame_shorter}
use Rattle.tidy.specs.Request.{judged_as, TidyFrames, orders_of, EachOf, TidyHeaders}

-- ---- by whether a frame is tidied

good_as_is : (a b c d : Bool) → b ≡ true → (a ! false ⨾ b ⇒ false ∣ c ! false ⨾ d) ≡ false
unfolding ◌!◌⨾◌ ◌⇒◌∣◌
good_as_is false b c d e = refl
good_as_is true true c d e = refl
good_as_is true false c d e = absurd (true≢false (sym e))

all_hold : (a b c d : Bool) → (a ! false ⨾ b ⇒ false ∣ c ! false ⨾ d) ≡ true → (a ≡ true) × ((c ≡ true) × (d ≡ true))
unfolding ◌!◌⨾◌ ◌⇒◌∣◌
all_hold false b c d e = absurd (true≢false (sym e))
all_hold true true c d e = absurd (true≢false (sym e))
all_hold true false false d e = absurd (true≢false (sym e))
all_hold true false true d e = (refl, (refl, e))

module _ (sd : ℕ) (s : Session) (m : List ℕ) where
  pub kept : is_tidied sd s m ≡ false → tidy_frame sd s m ≡ m
  unfolding tidy_frame
  kept e = sym (fails _ _ _ _ e refl)

  pub tidied : is_tidied sd s m ≡ true → tidy_frame sd s m ≡ frame_tidied sd s.mode m
  unfolding tidy_frame
  tidied e = sym (passes _ _ _ _ e refl)

  -- what a frame has that is tidied
  pub hold_all : is_tidied sd s m ≡ true → (ready s ≡ true) × ((0 ≡ layout_for s m) × (fault_for s (frame_tidied sd s.mode m) ≡ 0))
  unfolding is_tidied
  hold_all e =
      let k = all_hold (ready s) (eqb (fault_for s m) 0) (eqb (layout_for s m) 0) (eqb (fault_for s (frame_tidied sd s.mode m)) 0) e in
      (k.0, (sym (eqb-true (layout_for s m) 0 k.1.0), eqb-true (fault_for s (frame_tidied sd s.mode m)) 0 k.1.1))

  pub laid_by : 0 ≡ layout_for s m → Laid m
  unfolding layout_for
  laid_by e =
      laid (λ (et : ℕ) (five code : List ℕ). 0) s.width s.height s.mode m
      (parts_good (λ (et : ℕ) (five code : List ℕ). 0) s.width s.height s.mode m e)

  accepted_kept : fault_for s m ≡ 0 → tidy_frame sd s m ≡ m
  unfolding is_tidied
  accepted_kept e = kept (good_as_is (ready s) (eqb (fault_for s m) 0) (eqb (layout_for s m) 0) _ (eq-eqb (fault_for s m) 0 e))

  -- the two ways
  by_cases : (P : List ℕ → Type 0) → (is_tidied sd s m ≡ true → P (frame_tidied sd s.mode m)) → (is_tidied sd s m ≡ false → P m) → P (tidy_frame sd s m)
  by_cases P one two = go (is_tidied sd s m) refl
    where
      go : (t : Bool) → is_tidied sd s m ≡ t → P (tidy_frame sd s m)
      go true e = subst P (sym (tidied e)) (one e)
      go false e = subst P (sym (kept e)) (two e)

  others_kept : (fault_for s (tidy_frame sd s m) ≡ 0 → ⊥) → tidy_frame sd s m ≡ m
  others_kept = by_cases (λ z. (fault_for s z ≡ 0 → ⊥) → z ≡ m) (λ e h. absurd (h (hold_all e).1.1)) (λ e h. refl)

  never_longer : length (tidy_frame sd s m) ≤ length m
  never_longer = by_cases (λ z. length z ≤ length m) (λ e. frame_shorter sd s.mode m (laid_by (hold_all e).1.0)) (λ e. omega arith)

once : (sd : ℕ) (s : Session) (m : List ℕ) → tidy_frame sd s (tidy_frame sd s m) ≡ tidy_frame sd s m
once sd s m = go (is_tidied sd s m) refl
  where
    go : (t : Bool) → is_tidied sd s m ≡ t → tidy_frame sd s (tidy_frame sd s m) ≡ tidy_frame sd s m
    go true e = accepted_kept sd s (tidy_frame sd s m) (ap (fault_for s) (tidied sd s m e) ∙ (hold_all sd s m e).1.1)
    go false e = ap (tidy_frame sd s) (kept sd s m e)

-- ---- a tidied frame is what came, tidied

-- a walk without a fault by any judge has none where every code is taken for good
any_tiles : (judge : ℕ → List ℕ → ℕ) (w h q : ℕ) (d : List ℕ) (n at : ℕ) → 0 ≡ tiles_fault judge w h q d n at → 0 ≡ tiles_fault any_code w h q d n at
unfolding tiles_fault
any_tiles judge w h q d zero at e = e
any_tiles judge w h q d (suc n) at e =
    let p = both (tile_fault judge w h q d at) (tiles_fault judge w h q d n (at + size_at d at)) e in
    let f = both (tile_front w h q d at) (codes_fault judge (tile_at d at)) (p.0 ∙ tile_goes_on judge w h q d at) in
    no_fault _ _ (f.0 ∙ front_alone w h q d at) (any_tiles judge w h q d n (at + size_at d at) p.1)

layout_none : (comp : ℕ → List ℕ → List ℕ → ℕ) (w h et : ℕ) (m : List ℕ) → 0 ≡ frame_fault comp w h et m →
    0 ≡ frame_fault (λ (i : ℕ) (five code : List ℕ). 0) w h et m
unfolding tiles_by
layout_none comp w h et m e =
    let p = parts_good comp w h et m e in
    no_fault _ _ p.front (no_fault _ _ (any_tiles _ w h _ (data_of m (set_place m)) (tile_count m (set_place m)) 0 p.tiles) p.last)
    ∙ sym (parts_by (λ (i : ℕ) (five code : List ℕ). 0) w h et m)

as_is : (a b c d : Bool) → a ≡ true → c ≡ true → d ≡ true → (a ! false ⨾ b ⇒ false ∣ c ! false ⨾ d) ≡ false → b ≡ true
unfolding ◌!◌⨾◌ ◌⇒◌∣◌
as_is true true true true p q r e = refl
as_is true false true true p q r e = sym e
as_is false b c d p q r e = absurd (true≢false (sym p))
as_is true b false d p q r e = absurd (true≢false (sym q))
as_is true b true false p q r e = absurd (true≢false (sym r))

module _ (sd : ℕ) (s : Session) (m : List ℕ) (hb : Bytes m) where
  by_layout : is_tidied sd s m ≡ true → Again sd (λ (i : ℕ) (five code : List ℕ). 0) s.width s.height s.mode m (tidy_frame sd s m)
  unfolding layout_for
  by_layout e =
      subst (Again sd (λ (i : ℕ) (five code : List ℕ). 0) s.width s.height s.mode m) (sym (tidied sd s m e))
      (again sd (λ (i : ℕ) (five code : List ℕ). 0) s.width s.height s.mode m hb (hold_all sd s m e).1.0)

  module _ (r : ready s ≡ true) (f : frame_fault (judged_as sd) s.width s.height s.mode m ≡ 0) where
    accepted : fault_for s (frame_tidied sd s.mode m) ≡ 0
    unfolding fault_for judged_as
    accepted = sym (again sd judged s.width s.height s.mode m hb (sym f)).fault

    sound : layout_for s m ≡ 0
    unfolding layout_for
    sound = sym (layout_none (judged_as sd) s.width s.height s.mode m (sym f))

    as_came : is_tidied sd s m ≡ false → fault_for s m ≡ 0
    unfolding is_tidied
    as_came e =
        eqb-true (fault_for s m) 0 (as_is (ready s) (eqb (fault_for s m) 0) (eqb (layout_for s m) 0) (eqb (fault_for s (frame_tidied sd s.mode m)) 0) r
        (eq-eqb (layout_for s m) 0 sound) (eq-eqb (fault_for s (frame_tidied sd s.mode m)) 0 accepted) e)

    mended : fault_for s (tidy_frame sd s m) ≡ 0
    mended = go (is_tidied sd s m) refl
      where
        go : (t : Bool) → is_tidied sd s m ≡ t → fault_for s (tidy_frame sd s m) ≡ 0
        go true e = ap (fault_for s) (tidied sd s m e) ∙ (hold_all sd s m e).1.1
        go false e = ap (fault_for s) (kept sd s m e) ∙ as_came e

-- ---- one answer

one_tidied :
    (sd : ℕ) (s : Session) (m : List ℕ) (list a b : List ℤ) (out x y : List ℕ) (r q : Result Tidied Refusal) → FrameTidied sd s m list a out x r →
    FrameTidied sd s m list b out y q →
    (number_of r ≡ number_of q) × ((told_of r).size ≡ (told_of q).size) × ((told_of r).cut ≡ (told_of q).cut) × (a ≡ b) × (x ≡ y)
one_tidied sd s m list a b out x y r q f g =
    (f.number ∙ sym g.number, f.size ∙ sym g.size, f.cut ∙ sym g.cut, f.work ∙ sym g.work, f.left ∙ sym g.left)

one_given :
    (fault : ℕ) (bytes : List ℕ) (next w : Waiting) (after store a b out x y : List ℕ) (r q : Gave) → GaveOn fault bytes next w after store a out x r →
    GaveOn fault bytes next w after store b out y q →
    (number_of r.answer ≡ number_of q.answer) × (count_of r.answer ≡ count_of q.answer) × (r.waiting ≡ q.waiting) × (a ≡ b) × (x ≡ y)
one_given fault bytes next w after store a b out x y r q f g =
    (f.number ∙ sym g.number, f.size ∙ sym g.size, f.waiting ∙ sym g.waiting, f.kept ∙ sym g.kept, f.left ∙ sym g.left)

one_held :
    (fault : ℕ) (bytes after held a b out x y : List ℕ) (r q : Result ℕ Refusal) → HeldGave fault bytes after held a out x r →
    HeldGave fault bytes after held b out y q → (number_of r ≡ number_of q) × (count_of r ≡ count_of q) × (a ≡ b) × (x ≡ y)
one_held fault bytes after held a b out x y r q f g =
    (f.number ∙ sym g.number, f.size ∙ sym g.size, f.kept ∙ sym g.kept, f.left ∙ sym g.left)

pub tidy_frames : TidyFrames
tidy_frames = record {
  accepted_kept = accepted_kept;
  mended = mended;
  same_tiles = λ sd s m hb e. (by_layout sd s m hb e).tiles;
  same_region = λ sd s m hb e. (by_layout sd s m hb e).region;
  same_sets = λ sd s m j hb e l. (by_layout sd s m hb e).sets j l;
  others_kept = others_kept;
  once = once;
  never_longer = never_longer;
  one_answer = one_tidied;
}

-- ---- headers

module _ (s v c x store : List ℕ) (ls : length store ≡ 35) (es : is_sync s ≡ true) (ev : kind_of v ≡ 1) (ec : kind_of c ≡ 2) (ex : kind_of x ≡ 3) where
  sent : (bs : List (List ℕ)) → blocks_on (s ∷ bs) ≡ s ∷ v ∷ c ∷ x ∷ [] → all_on none store (s ∷ bs) ≡ s ++ (v ++ (c ++ x))
  unfolding flatten
  sent bs e = bytes_on store (s ∷ bs) ls ∙ (ap flatten e ∙ ap (λ z. s ++ (v ++ (c ++ z))) (append-nil x))

  ordered : EachOf (λ (bs : List (List ℕ)). all_on none store (s ∷ bs) ≡ s ++ (v ++ (c ++ x))) (orders_of v c x)
  unfolding EachOf orders_of blocks_on is_group is_three of_kind ◌!◌⨾◌ ◌⇒◌∣◌
  ordered = (
    sent _ (rw (es, ev, ec, ex) refl),
    (
      sent _ (rw (es, ev, ec, ex) refl),
      (
        sent _ (rw (es, ev, ec, ex) refl),
        (sent _ (rw (es, ev, ec, ex) refl), (sent _ (rw (es, ev, ec, ex) refl), (sent _ (rw (es, ev, ec, ex) refl), tt))),
      ),
    ),
  )

  unchanged : all_on none store (s ∷ v ∷ c ∷ x ∷ []) ≡ s ++ (v ++ (c ++ x))
  unfolding EachOf orders_of
  unchanged = ordered.0

pub tidy_headers : TidyHeaders
tidy_headers = record {
  sync_good = sync_good;
  ordered = ordered;
  unchanged = unchanged;
  nothing_lost = λ store bs l. (bytes_on store bs l, same_blocks bs);
  once = twice_once;
  one_answer = one_given;
  one_held = one_held;
}
