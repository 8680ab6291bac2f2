-- The bytes that go on are those of the blocks that go on (`bytes_on`): a block that waits stands at its place in the store until the third is there or another
-- block comes, and no other place is changed by it.
use Rattle.std.specs.Prelude.{ℕ, ◌+◌, ◌-◌, ◌≤◌, ◌≡◌, Bool, ◌⊎◌, eqb, drop}
use Rattle.std.proofs.Math.Path.{refl, ap, ap₂, sym}
use Rattle.std.proofs.Common.{◌∙◌, inl, inr, arith, take-append-drop, length-drop, take_at, drop_at, take-add, drop-drop}
use Rattle.std.proofs.Math.Bool.{true, false}
use mathlib.Core.List.{List, [], ◌∷◌, ◌++◌, append_assoc, append-nil, flatten}
use Rattle.std.proofs.Math.ListN.{length, take, length-append}
use Rattle.std.proofs.lemmas.List.{take-append-le, drop-append-le}
use Rattle.std.proofs.Math.Seq.{drop-append-add, length-take-le}
use borrow.Author.Tests.{ne_eqb}
use Rattle.whole.specs.Row.{◌!◌⨾◌, ◌⇒◌∣◌}
use Rattle.whole.specs.laws.Row.{passes, fails}
use Rattle.wire.specs.Le.{patch}
use Rattle.wire.specs.laws.Le.{patch_length}
use Rattle.tidy.specs.Headers.{kind_of, is_sync, place_of, length_of, block_at, waiting_bytes, waits, held_on, flag_of, waiting_by}
use Rattle.tidy.specs.Headers.{waiting_after, all_on, none, of_kind, blocks_on}
use Rattle.tidy.specs.laws.Headers.{Which, versions, channels, context, kind_which, long_as, place_fits, waits_some, waits_fits, goes_held, goes_other}
use Rattle.tidy.specs.laws.Sync.{kind_no_sync}
use Rattle.tidy.specs.laws.Blocks.{waiting_for, waits1, waits2, waits3, waits_other, waited_six, is-group, all_so, grouped, single}
use Rattle.tidy.specs.laws.Blocks.{first_none, second_none, third_none}
use Rattle.tidy.specs.declared.headers.Waiting.{Waiting}

-- ---- places in the store

-- bytes that stand before a place are those of the front
front_same : (p x y : List ℕ) (at n : ℕ) → at + n ≤ length p → take n (drop at (p ++ x)) ≡ take n (drop at (p ++ y))
front_same p x y at n l =
    let f : (z : List ℕ) → take n (drop at (p ++ z)) ≡ take n (drop at p) = λ z.
    ap (take n) (drop-append-le at p z (omega arith)) ∙ take-append-le n (drop at p) z (omega (arith, length-drop at p)) in
    f x ∙ sym (f y)

-- and those behind it are those of the rest
rest_same : (p q x : List ℕ) (at k : ℕ) → length p ≡ at → length q ≡ at → at ≤ k → drop k (p ++ x) ≡ drop k (q ++ x)
rest_same p q x at k lp lq l =
    let f : (z : List ℕ) → length z ≡ at → drop k (z ++ x) ≡ drop (k - at) x = λ z e.
    let s : k ≡ length z + (k - at) = omega (arith, e) in
    ap (λ i. drop i (z ++ x)) s ∙ drop-append-add z x (k - at) in
    f p lp ∙ sym (f q lq)

module _ (store b : List ℕ) (ls : length store ≡ 35) where
  patch_before : (at k n : ℕ) → at + length b ≤ 35 → k + n ≤ at → take n (drop k (patch store at b)) ≡ take n (drop k store)
  unfolding patch
  patch_before at k n h l =
      front_same (take at store) _ (drop at store) k n (omega (arith, length-take-le at store (omega arith))) ∙
      ap (λ z. take n (drop k z)) (take-append-drop at store)

  patch_behind : (at k n : ℕ) → at + length b ≤ 35 → at + length b ≤ k → take n (drop k (patch store at b)) ≡ take n (drop k store)
  unfolding patch
  patch_behind at k n h l =
      let m = at + length b in
      let front = take at store ++ b in
      let lf : length front ≡ m = length-append (take at store) b ∙ omega (arith, length-take-le at store (omega arith)) in
      let e = rest_same front (take m store) (drop m store) m k lf (length-take-le m store (omega arith)) l in
      ap (λ z. take n (drop k z)) (sym (append_assoc (take at store) b (drop m store))) ∙
      (ap (take n) e ∙ ap (λ z. take n (drop k z)) (take-append-drop m store))

-- a block put in at its place stands there
stands : (store b : List ℕ) (k : ℕ) → length store ≡ 35 → length b ≡ length_of k → block_at (patch store (place_of k) b) k ≡ b
unfolding block_at patch
stands store b k ls lb =
    ap (take (length_of k)) (drop_at (take (place_of k) store) _ (place_of k) (length-take-le (place_of k) store (omega (arith, place_fits k)))) ∙
    take_at b _ (length_of k) lb

-- the places of two kinds do not overlap
apart : (i j : ℕ) {m n : ℕ} → Which i m → Which j n → (i ≡ j → ⊥) → (place_of j + length_of j ≤ place_of i) ⊎ (place_of i + length_of i ≤ place_of j)
unfolding place_of length_of ◌⇒◌∣◌
apart i j (versions p q) (versions r t) h = absurd (h (p ∙ sym r))
apart i j (channels p q) (channels r t) h = absurd (h (p ∙ sym r))
apart i j (context p q) (context r t) h = absurd (h (p ∙ sym r))
apart i j (versions p q) (channels r t) h = inr (rw (p, r) (omega arith))
apart i j (versions p q) (context r t) h = inr (rw (p, r) (omega arith))
apart i j (channels p q) (versions r t) h = inl (rw (p, r) (omega arith))
apart i j (channels p q) (context r t) h = inr (rw (p, r) (omega arith))
apart i j (context p q) (versions r t) h = inl (rw (p, r) (omega arith))
apart i j (context p q) (channels r t) h = inl (rw (p, r) (omega arith))

-- a block put in at its place leaves those of the other kinds
leaves : (store b : List ℕ) (i j : ℕ) → length store ≡ 35 → length b ≡ length_of i →
    (place_of j + length_of j ≤ place_of i) ⊎ (place_of i + length_of i ≤ place_of j) → block_at (patch store (place_of i) b) j ≡ block_at store j
unfolding block_at
leaves store b i j ls lb (inl l) = patch_before store b ls (place_of i) (place_of j) (length_of j) (omega (arith, lb, place_fits i)) l
leaves store b i j ls lb (inr l) = patch_behind store b ls (place_of i) (place_of j) (length_of j) (omega (arith, lb, place_fits i)) (omega (arith, lb))

-- the whole store
three_blocks : (store : List ℕ) → take 35 store ≡ block_at store 1 ++ (block_at store 2 ++ block_at store 3)
unfolding block_at place_of length_of ◌⇒◌∣◌
three_blocks store =
    take-add 10 25 store ∙
    ap (λ z. take 10 store ++ z) (take-add 12 13 (drop 10 store) ∙ ap (λ z. take 12 (drop 10 store) ++ take 13 z) (drop-drop 12 10 store))

-- ---- one block

-- any other block: what waits goes on, and then it is as if nothing had waited
on_from : (w : Waiting) (store b : List ℕ) (bs : List (List ℕ)) → waits w (kind_of b) ≡ false →
    all_on w store (b ∷ bs) ≡ waiting_bytes w store ++ (b ++ all_on (record { on = flag_of (is_sync b); first = 0; second = 0 }) store bs)
unfolding all_on waiting_after waiting_by
on_from w store b bs e =
    let g = goes_other w store b (kind_of b) refl e in
    let n = fails _ _ _ _ e refl in
    ap₂ (λ x y. x ++ y) (sym g.0) (ap₂ (λ u v. all_on u v bs) (sym n) (sym g.1)) ∙ append_assoc (waiting_bytes w store) b _

on_none : (store b : List ℕ) (bs : List (List ℕ)) → all_on none store (b ∷ bs) ≡ b ++ all_on (record { on = flag_of (is_sync b); first = 0; second = 0 })
    store bs
unfolding waits waiting_bytes block_at length_of ◌!◌⨾◌ ◌⇒◌∣◌
on_none store b bs = on_from none store b bs refl

flushed : (w : Waiting) (store b : List ℕ) (bs : List (List ℕ)) → waits w (kind_of b) ≡ false →
    all_on w store (b ∷ bs) ≡ waiting_bytes w store ++ all_on none store (b ∷ bs)
flushed w store b bs e = on_from w store b bs e ∙ ap (λ z. waiting_bytes w store ++ z) (sym (on_none store b bs))

-- a block that waits
on_held : (w w' : Waiting) (store b p : List ℕ) (bs : List (List ℕ)) → waits w (kind_of b) ≡ true → held_on w (patch store (place_of (kind_of b)) b) ≡ p →
    (eqb w.first 0 ⇒ waiting_for (kind_of b) 0 ∣ eqb w.second 0 ⇒ waiting_for w.first (kind_of b) ∣ none) ≡ w' →
    all_on w store (b ∷ bs) ≡ p ++ all_on w' (patch store (place_of (kind_of b)) b) bs
unfolding all_on waiting_after waiting_by
on_held w w' store b p bs h q n =
    let g = goes_held w store b (kind_of b) refl h in
    ap₂ (λ x y. x ++ y) (sym g.0 ∙ q) (ap₂ (λ u v. all_on u v bs) (sym (passes _ _ _ _ h refl) ∙ n) (sym g.1))

-- the first, the second and the third of them
module _ (store b : List ℕ) (bs : List (List ℕ)) where
  held_1 : waits1 b ≡ true → all_on (waiting_for 0 0) store (b ∷ bs) ≡ all_on (waiting_for (kind_of b) 0) (patch store (place_of (kind_of b)) b) bs
  unfolding held_on ◌⇒◌∣◌
  held_1 h = on_held (waiting_for 0 0) _ store b [] bs h refl refl

  held_2 : (i : ℕ) → (i ≡ 0 → ⊥) → waits (waiting_for i 0) (kind_of b) ≡ true →
      all_on (waiting_for i 0) store (b ∷ bs) ≡ all_on (waiting_for i (kind_of b)) (patch store (place_of (kind_of b)) b) bs
  unfolding held_on ◌⇒◌∣◌
  held_2 i n h = on_held (waiting_for i 0) _ store b [] bs h refl (rw (ne_eqb i 0 n) refl)

  held_3 : (i j : ℕ) → (i ≡ 0 → ⊥) → (j ≡ 0 → ⊥) → waits (waiting_for i j) (kind_of b) ≡ true →
      all_on (waiting_for i j) store (b ∷ bs) ≡ take 35 (patch store (place_of (kind_of b)) b) ++ all_on none (patch store (place_of (kind_of b)) b) bs
  unfolding held_on ◌⇒◌∣◌
  held_3 i j n m h =
      on_held (waiting_for i j) none store b (take 35 (patch store (place_of (kind_of b)) b)) bs h (rw (ne_eqb j 0 m) refl)
      (rw (ne_eqb i 0 n, ne_eqb j 0 m) refl)

-- ---- all blocks

-- what is to be shown, and that it holds of some blocks and of those behind each of them
abbrev Shown : List (List ℕ) → Type 0
Shown bs = (store : List ℕ) → length store ≡ 35 → all_on none store bs ≡ flatten (blocks_on bs)

abbrev Tails : List (List ℕ) → Type 0
Tails [] = Shown []
Tails (b ∷ bs) = Shown (b ∷ bs) × Tails bs

here : (bs : List (List ℕ)) → Tails bs → Shown bs
here [] t = t
here (b ∷ bs) t = t.0

-- a block waits in the store
record Holds (w : Waiting) (store b : List ℕ) : Type 0 where
  long : length store ≡ 35
  waited : waits w (kind_of b) ≡ true
  stands : block_at store (kind_of b) ≡ b

-- one more is put in
module _ (w : Waiting) (store b : List ℕ) (ls : length store ≡ 35) (h : waits w (kind_of b) ≡ true) where
  put_long : length (patch store (place_of (kind_of b)) b) ≡ 35
  put_long = patch_length store b (place_of (kind_of b)) (omega (arith, waits_fits w b (kind_of b) refl h, ls)) ∙ ls

  kind_long : length b ≡ length_of (kind_of b)
  kind_long = long_as (kind_of b) (length b) (kind_which b (kind_of b) refl (waits_some w (kind_of b) h))

  put_holds : Holds w (patch store (place_of (kind_of b)) b) b
  put_holds = record { long = put_long; waited = h; stands = stands store b (kind_of b) ls kind_long }

  still_holds : (v : Waiting) (a : List ℕ) → Holds v store a → (kind_of b ≡ kind_of a → ⊥) → Holds v (patch store (place_of (kind_of b)) b) a
  still_holds v a k n =
      let x = apart (kind_of b) (kind_of a) (kind_which b _ refl (waits_some w _ h)) (kind_which a _ refl (waits_some v _ k.waited)) n in
      record { long = put_long; waited = k.waited; stands = leaves store b (kind_of b) (kind_of a) ls kind_long x ∙ k.stands }

-- behind a good sync: with two that wait, with one, and with none
module _ (s : List ℕ) (es : is_sync s ≡ true) where
  module _ (a b store : List ℕ) (ha : Holds (waiting_for 0 0) store a) (hb : Holds (waiting_for (kind_of a) 0) store b) where
    some_a : kind_of a ≡ 0 → ⊥
    some_a = waits_some _ (kind_of a) ha.waited

    some_b : kind_of b ≡ 0 → ⊥
    some_b = waits_some _ (kind_of b) hb.waited

    both_wait : waiting_bytes (waiting_for (kind_of a) (kind_of b)) store ≡ a ++ b
    unfolding waiting_bytes
    both_wait = ap₂ (λ x y. x ++ y) ha.stands hb.stands

    third : (c : List ℕ) (bs : List (List ℕ)) (q : Bool) → waits3 a b c ≡ q → Tails (c ∷ bs) →
        s ++ all_on (waiting_for (kind_of a) (kind_of b)) store (c ∷ bs) ≡ flatten (blocks_on (s ∷ a ∷ b ∷ c ∷ bs))
    unfolding flatten
    third c bs false e t =
        let w = waiting_for (kind_of a) (kind_of b) in
        let o : blocks_on (s ∷ a ∷ b ∷ c ∷ bs) ≡ s ∷ a ∷ b ∷ blocks_on (c ∷ bs) =
        third_none s a b c bs e ∙ ap (λ z. s ∷ z) (single a _ (kind_no_sync a some_a) ∙ ap (λ z. a ∷ z) (single b _ (kind_no_sync b some_b))) in
        ap (λ z. s ++ z) (flushed w store c bs e ∙ (ap₂ (λ x y. x ++ y) both_wait (t.0 store ha.long) ∙ append_assoc a b _)) ∙ sym (ap flatten o)
    third c bs true e t =
        let p = patch store (place_of (kind_of c)) c in
        let w = waiting_for (kind_of a) (kind_of b) in
        let n = waits_other w (kind_of c) e in
        let x = (still_holds w store c ha.long e _ a ha n.0).stands in
        let y = (still_holds w store c ha.long e _ b hb n.1).stands in
        let z = put_holds w store c ha.long e in
        let f = all_so (λ k v. block_at p k ≡ v) (waited_six a b c ha.waited hb.waited e) x y z.stands in
        let v = of_kind 1 a b c in
        let u = of_kind 2 a b c in
        let m = three_blocks p ∙ ap₂ (λ i j. i ++ j) f.0 (ap₂ (λ i j. i ++ j) f.1.0 f.1.1) in
        ap (λ i. s ++ i) (held_3 store c bs _ _ some_a some_b e ∙ (ap₂ (λ i j. i ++ j) m (here bs t.1 p z.long) ∙
        (append_assoc v _ _ ∙ ap (λ i. v ++ i) (append_assoc u _ _)))) ∙
        sym (ap flatten (grouped s a b c bs (is-group a b c s es ha.waited hb.waited e)))

    on_two : (bs : List (List ℕ)) → Tails bs → s ++ all_on (waiting_for (kind_of a) (kind_of b)) store bs ≡ flatten (blocks_on (s ∷ a ∷ b ∷ bs))
    unfolding all_on blocks_on flatten
    on_two [] t = ap (λ z. s ++ z) (both_wait ∙ ap (λ z. a ++ z) (sym (append-nil b)))
    on_two (c ∷ bs) t = third c bs _ refl t

  module _ (a store : List ℕ) (ha : Holds (waiting_for 0 0) store a) where
    second : (b : List ℕ) (bs : List (List ℕ)) (q : Bool) → waits2 a b ≡ q → Tails (b ∷ bs) →
        s ++ all_on (waiting_for (kind_of a) 0) store (b ∷ bs) ≡ flatten (blocks_on (s ∷ a ∷ b ∷ bs))
    unfolding flatten waiting_bytes block_at length_of ◌⇒◌∣◌
    second b bs false e t =
        let w = waiting_for (kind_of a) 0 in
        let o : blocks_on (s ∷ a ∷ b ∷ bs) ≡ s ∷ a ∷ blocks_on (b ∷ bs) =
        second_none s a b bs e ∙ ap (λ z. s ∷ z) (single a _ (kind_no_sync a (waits_some _ (kind_of a) ha.waited))) in
        ap (λ z. s ++ z) (flushed w store b bs e ∙ ap₂ (λ x y. x ++ y) (append-nil _ ∙ ha.stands) (t.0 store ha.long)) ∙ sym (ap flatten o)
    second b bs true e t =
        let w = waiting_for (kind_of a) 0 in
        let x = still_holds w store b ha.long e _ a ha (waits_other w (kind_of b) e).0 in
        ap (λ z. s ++ z) (held_2 store b bs (kind_of a) (waits_some _ (kind_of a) ha.waited) e) ∙
        on_two a b (patch store (place_of (kind_of b)) b) x (put_holds w store b ha.long e) bs t.1

    on_one : (bs : List (List ℕ)) → Tails bs → s ++ all_on (waiting_for (kind_of a) 0) store bs ≡ flatten (blocks_on (s ∷ a ∷ bs))
    unfolding all_on blocks_on flatten waiting_bytes block_at length_of ◌⇒◌∣◌
    on_one [] t = ap (λ z. s ++ (z ++ [])) ha.stands
    on_one (b ∷ bs) t = second b bs _ refl t

  module _ (store : List ℕ) (ls : length store ≡ 35) where
    first : (a : List ℕ) (bs : List (List ℕ)) (q : Bool) → waits1 a ≡ q → Tails (a ∷ bs) →
        s ++ all_on (waiting_for 0 0) store (a ∷ bs) ≡ flatten (blocks_on (s ∷ a ∷ bs))
    unfolding flatten waiting_bytes block_at length_of ◌⇒◌∣◌
    first a bs false e t = ap (λ z. s ++ z) (flushed (waiting_for 0 0) store a bs e ∙ t.0 store ls) ∙ sym (ap flatten (first_none s a bs e))
    first a bs true e t =
        ap (λ z. s ++ z) (held_1 store a bs e) ∙ on_one a (patch store (place_of (kind_of a)) a) (put_holds (waiting_for 0 0) store a ls e) bs t.1

    on_open : (bs : List (List ℕ)) → Tails bs → s ++ all_on (waiting_for 0 0) store bs ≡ flatten (blocks_on (s ∷ bs))
    unfolding all_on blocks_on flatten waiting_bytes block_at length_of ◌⇒◌∣◌
    on_open [] t = refl
    on_open (a ∷ bs) t = first a bs _ refl t

next : (s : List ℕ) (bs : List (List ℕ)) (q : Bool) → is_sync s ≡ q → Tails bs → Shown (s ∷ bs)
unfolding flatten flag_of ◌⇒◌∣◌
next s bs true e t store l = on_none store s bs ∙ (rw e refl ∙ on_open s e store l bs t)
next s bs false e t store l = on_none store s bs ∙ (rw e (ap (λ z. s ++ z) (here bs t store l)) ∙ sym (ap flatten (single s bs e)))

tails : (bs : List (List ℕ)) → Tails bs
unfolding all_on blocks_on flatten waiting_bytes block_at length_of ◌⇒◌∣◌
tails [] = λ store l. refl
tails (b ∷ bs) = let t = tails bs in (next b bs _ refl t, t)

pub bytes_on : (store : List ℕ) (bs : List (List ℕ)) → length store ≡ 35 → all_on none store bs ≡ flatten (blocks_on bs)
bytes_on store bs l = here bs (tails bs) store l
