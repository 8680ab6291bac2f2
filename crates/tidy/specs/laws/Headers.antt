-- Laws of the headers' calls: what a block that waits is, where it stands, what goes on, and the ways out.
use Prim.Native.Nat.{ℕ, zero, suc, ◌+◌, ◌≤◌}
use Rattle.std.specs.Prelude.{◌≡◌, Bool, List, [], ◌++◌, eqb, length, take, drop, Result, Ok, Err, is_ok}
use Rattle.std.proofs.Math.Path.{refl, ap, ap₂}
use Rattle.std.proofs.Common.{sym, ◌∙◌, true≢false, arith, length-append, length-drop, length-take-le, eqb-true, leb-true, eq-eqb, ne_eqb}
use Rattle.std.proofs.Math.Bool.{true, false}
use Rattle.std.proofs.Math.Seq.{take-length}
use Rattle.whole.specs.Row.{◌!◌⨾◌, ◌⇒◌∣◌}
use Rattle.whole.specs.laws.Row.{passes, fails, held, case_yes, case_no}
use Rattle.wire.specs.Le.{le16, patch}
use Rattle.wire.specs.Wrote.{length_said, out_left}
use Rattle.wire.specs.laws.Le.{patch_next, patch_none, patch_front}
use Rattle.wire.specs.Refusal.{refusal_number, number_of}
use Rattle.wire.specs.laws.Refusal.{number_pos}
use Rattle.wire.specs.declared.Refusal.{Refusal}
use Rattle.session.specs.Header.{record_of, header_reading, header_fault as panelFault}
use Rattle.session.specs.laws.Header.{reading-number}
use Rattle.session.specs.declared.Session.{Session}
use Rattle.tidy.specs.Headers.{kind_by, kind_of, is_sync, place_of, length_of, block_at, waiting_bytes, waits, held_on, passed_on, store_after, flag_of}
use Rattle.tidy.specs.Headers.{waiting_by}
use Rattle.tidy.specs.Headers.{waiting_after, header_fault, waiting_said, store_left, GaveOn}
use Rattle.tidy.specs.declared.headers.Waiting.{Waiting}

-- ---- the three, by number

-- each has its place in the store
in_store : (a b c : Bool) → (a ⇒ 0 ∣ b ⇒ 10 ∣ 22) + (a ⇒ 10 ∣ b ⇒ 12 ∣ c ⇒ 13 ∣ 0) ≤ 35
unfolding ◌⇒◌∣◌
in_store true b c = omega arith
in_store false true c = omega arith
in_store false false true = omega arith
in_store false false false = omega arith

pub place_fits : (k : ℕ) → place_of k + length_of k ≤ 35
unfolding place_of length_of
place_fits k = in_store (eqb k 1) (eqb k 2) (eqb k 3)

few_bytes : (a b c : Bool) → (a ⇒ 10 ∣ b ⇒ 12 ∣ c ⇒ 13 ∣ 0) ≤ 13
unfolding ◌⇒◌∣◌
few_bytes true b c = omega arith
few_bytes false true c = omega arith
few_bytes false false true = omega arith
few_bytes false false false = omega arith

pub length_few : (k : ℕ) → length_of k ≤ 13
unfolding length_of
length_few k = few_bytes (eqb k 1) (eqb k 2) (eqb k 3)

-- which a block is, and how long
pub data Which (k n : ℕ) : Type 0 where
  versions : k ≡ 1 → n ≡ 10 → Which k n
  channels : k ≡ 2 → n ≡ 12 → Which k n
  context : k ≡ 3 → n ≡ 13 → Which k n

which : (k n : ℕ) (a b c x y z : Bool) → (x ≡ true → n ≡ 10) → (y ≡ true → n ≡ 12) → (z ≡ true → n ≡ 13) →
    k ≡ (a ⇒ (x ⇒ 1 ∣ 0) ∣ b ⇒ (y ⇒ 2 ∣ 0) ∣ c ⇒ (z ⇒ 3 ∣ 0) ∣ 0) → (k ≡ 0 → ⊥) → Which k n
unfolding ◌⇒◌∣◌
which k n true b c true y z p q r e h = versions e (p refl)
which k n true b c false y z p q r e h = absurd (h e)
which k n false true c x true z p q r e h = channels e (q refl)
which k n false true c x false z p q r e h = absurd (h e)
which k n false false true x y true p q r e h = context e (r refl)
which k n false false true x y false p q r e h = absurd (h e)
which k n false false false x y z p q r e h = absurd (h e)

pub kind_which : (b : List ℕ) (k : ℕ) → k ≡ kind_of b → (k ≡ 0 → ⊥) → Which k (length b)
unfolding kind_of kind_by
kind_which b k e h =
    which k (length b) (eqb (le16 b 0) 0xCCC1) (eqb (le16 b 0) 0xCCC2) (eqb (le16 b 0) 0xCCC3) (eqb (length b) 10) (eqb (length b) 12) (eqb (length b) 13)
    (eqb-true (length b) 10) (eqb-true (length b) 12) (eqb-true (length b) 13) e h

pub long_as : (k n : ℕ) → Which k n → n ≡ length_of k
unfolding length_of ◌⇒◌∣◌
long_as k n (versions e l) = rw e l
long_as k n (channels e l) = rw e l
long_as k n (context e l) = rw e l

-- a short block is none of them
none_of : (a b c : Bool) → ◌≡◌ {A = ℕ} 0 (a ⇒ (false ⇒ 1 ∣ 0) ∣ b ⇒ (false ⇒ 2 ∣ 0) ∣ c ⇒ (false ⇒ 3 ∣ 0) ∣ 0)
unfolding ◌⇒◌∣◌
none_of true b c = refl
none_of false true c = refl
none_of false false true = refl
none_of false false false = refl

pub kind_short : (b : List ℕ) → suc (length b) ≤ 2 → 0 ≡ kind_of b
unfolding kind_of kind_by
kind_short b l =
    rw (ne_eqb (length b) 10 (λ e. omega arith), ne_eqb (length b) 12 (λ e. omega arith), ne_eqb (length b) 13 (λ e. omega arith))
    (none_of (eqb (le16 b 0) 0xCCC1) (eqb (le16 b 0) 0xCCC2) (eqb (le16 b 0) 0xCCC3))

-- no refusal is 0
pub judged_ok : {A : Type 0} (r : Result A Refusal) → is_ok r ≡ eqb (number_of r) 0
judged_ok (Ok x) = refl
judged_ok (Err e) = sym (ne_eqb _ 0 (number_pos e))

-- the number that a session just opened answers says whether a block is a good sync
pub sync_is : (s : Session) (b : List ℕ) (r : Result Session Refusal) (t : Bool) → s ≡ record_of 0 0 0 0 0 → r ≡ header_reading s b → t ≡ is_ok r →
    t ≡ is_sync b
unfolding is_sync
sync_is s b r t e f g =
    g ∙ judged_ok r ∙ ap (λ (k : ℕ). eqb k 0) (ap number_of f ∙ (reading-number s b ∙ ap (λ (z : Session). panelFault z b) e))

-- ---- what waits

one_of : (a b c d : Bool) → (a ! false ⨾ b ⇒ false ∣ c ⇒ false ∣ d ⇒ false ∣ true) ≡ true → b ≡ false
unfolding ◌!◌⨾◌ ◌⇒◌∣◌
one_of true true c d e = sym e
one_of true false c d e = refl
one_of false b c d e = absurd (true≢false (sym e))

pub waits_some : (w : Waiting) (k : ℕ) → waits w k ≡ true → k ≡ 0 → ⊥
unfolding waits
waits_some w k e z = true≢false (sym (eq-eqb k 0 z) ∙ one_of (eqb w.on 1) (eqb k 0) (eqb k w.first) (eqb k w.second) e)

-- a block that waits has its place in the store
pub waits_fits : (w : Waiting) (b : List ℕ) (k : ℕ) → k ≡ kind_of b → waits w k ≡ true → place_of k + length b ≤ 35
waits_fits w b k e h = let l = long_as k (length b) (kind_which b k e (waits_some w k h)) in omega (arith, place_fits k, l)

pub block_long : (store : List ℕ) (k : ℕ) → length store ≡ 35 → length (block_at store k) ≡ length_of k
unfolding block_at
block_long store k l = length-take-le (length_of k) (drop (place_of k) store) (omega (arith, place_fits k, length-drop (place_of k) store, l))

pub waiting_put :
    (w : Waiting) (store o o1 o2 : List ℕ) (a b pa pb : ℕ) → length store ≡ 35 →
    a ≡ length_of w.first → b ≡ length_of w.second → pa ≡ place_of w.first → pb ≡ place_of w.second →
    o1 ≡ patch o 0 (take a (drop pa store)) → o2 ≡ patch o1 a (take b (drop pb store)) →
    (o2 ≡ patch o 0 (waiting_bytes w store)) × (a + b ≡ length (waiting_bytes w store)) × (a + b ≤ 26)
unfolding waiting_bytes block_at
waiting_put w store o o1 o2 a b pa pb l ea eb ep eq p q =
    let x = block_long store w.first l in
    let y = block_long store w.second l in
    let X = take (length_of w.first) (drop (place_of w.first) store) in
    let Y = take (length_of w.second) (drop (place_of w.second) store) in
    let p' : o1 ≡ patch o 0 X = p ∙ ap₂ (λ (i j : ℕ). patch o 0 (take i (drop j store))) ea ep in
    let q' : o2 ≡ patch o1 a Y = q ∙ ap₂ (λ (i j : ℕ). patch o1 a (take i (drop j store))) eb eq in (
      patch_next o1 o2 o X Y 0 a p' q' (omega (arith, x, ea)) (omega arith),
      omega (arith, x, y, ea, eb, length-append X Y),
      omega (arith, ea, eb, length_few w.first, length_few w.second),
    )

-- ---- what goes on

pub held_none : (w : Waiting) (store out : List ℕ) → w.second ≡ 0 → (out ≡ patch out 0 (held_on w store)) × (0 ≡ length (held_on w store))
unfolding held_on
held_none w store out e =
    let n : [] ≡ held_on w store = case_yes _ _ _ _ (eq-eqb w.second 0 e) refl in
    (patch_none out 0 ∙ ap (patch out 0) n, ap length n)

pub held_three : (w : Waiting) (store out out' : List ℕ) → (w.second ≡ 0 → ⊥) → length store ≡ 35 → out' ≡ patch out 0 (take 35 store) →
    (out' ≡ patch out 0 (held_on w store)) × (35 ≡ length (held_on w store))
unfolding held_on
held_three w store out out' h l e =
    let n : take 35 store ≡ held_on w store = case_no _ _ _ _ (ne_eqb w.second 0 h) refl in
    (e ∙ ap (patch out 0) n, sym (length-take-le 35 store (omega arith)) ∙ ap length n)

-- a block is held: pk is its place, store' the store with it
module _ (w : Waiting) (b store out store' : List ℕ) (k pk : ℕ) (ep : pk ≡ place_of k) (es : store' ≡ patch store pk (take (length b) b)) where
  stored : store' ≡ patch store (place_of k) b
  stored = es ∙ ap₂ (patch store) ep (take-length b)

  pub hold_none : w.second ≡ 0 →
      (store' ≡ patch store (place_of k) b) × (out ≡ patch out 0 (held_on w (patch store (place_of k) b))) ×
      (0 ≡ length (held_on w (patch store (place_of k) b)))
  hold_none z = let h = held_none w (patch store (place_of k) b) out z in (stored, h.0, h.1)

  pub hold_three : (out' : List ℕ) → (w.second ≡ 0 → ⊥) → length store' ≡ 35 → out' ≡ patch out 0 (take 35 store') →
      (store' ≡ patch store (place_of k) b) × (out' ≡ patch out 0 (held_on w (patch store (place_of k) b))) ×
      (35 ≡ length (held_on w (patch store (place_of k) b)))
  hold_three out' z l p =
      let h = held_three w (patch store (place_of k) b) out out' z (sym (ap length stored) ∙ l) (p ∙ ap (λ (x : List ℕ). patch out 0 (take 35 x)) stored) in
      (stored, h.0, h.1)

pub other_put : (w : Waiting) (b store out o1 o2 : List ℕ) (n : ℕ) → o1 ≡ patch out 0 (waiting_bytes w store) → n ≡ length (waiting_bytes w store) →
    o2 ≡ patch o1 n (take (length b) b) → (o2 ≡ patch out 0 (waiting_bytes w store ++ b)) × (n + length b ≡ length (waiting_bytes w store ++ b))
other_put w b store out o1 o2 n p l q =
    let W = waiting_bytes w store in
    (patch_next o1 o2 out W b 0 n p (q ∙ ap (patch o1 n) (take-length b)) (omega arith) (omega arith), omega (arith, l, length-append W b))

-- a sync opens the wait
pub opened : (f : ℕ) (sync : Bool) → f ≡ flag_of sync → ◌≡◌ {A = Waiting} (record { on = f; first = 0; second = 0 })
    (record { on = flag_of sync; first = 0; second = 0 })
opened f sync e = rw e refl

module _ (w : Waiting) (store b : List ℕ) (k : ℕ) (e : k ≡ kind_of b) where
  pub goes_held : waits w k ≡ true → (held_on w (patch store (place_of k) b) ≡ passed_on w store b) × (patch store (place_of k) b ≡ store_after w store b)
  unfolding passed_on store_after
  goes_held h =
      let t : waits w (kind_of b) ≡ true = ap (waits w) (sym e) ∙ h in
      (passes _ _ _ _ t (ap (λ (z : ℕ). held_on w (patch store (place_of z) b)) e), passes _ _ _ _ t (ap (λ (z : ℕ). patch store (place_of z) b) e))

  pub goes_other : waits w k ≡ false → (waiting_bytes w store ++ b ≡ passed_on w store b) × (store ≡ store_after w store b)
  unfolding passed_on store_after
  goes_other h = let t : waits w (kind_of b) ≡ false = ap (waits w) (sym e) ∙ h in (fails _ _ _ _ t refl, fails _ _ _ _ t refl)

  pub next_is : (sync : Bool) (next : Waiting) → sync ≡ is_sync b → next ≡ waiting_by w k sync → next ≡ waiting_after w b
  unfolding waiting_after
  next_is sync next f n = n ∙ ap₂ (waiting_by w) e f

-- ---- the calls

not_0 : (k : ℕ) → 0 ≡ suc k → ⊥
not_0 k e = omega arith

pub header_good : (store : ℕ) (w : Waiting) (most room : ℕ) → 0 ≡ header_fault store w most room → (store ≡ 35) × (most ≤ room)
unfolding header_fault
header_good store w most room e =
    let a = held _ _ _ _ (not_0 1) e in
    let b = held _ _ _ _ (not_0 1) a.1 in
    let c = held _ _ _ _ (not_0 1) b.1 in
    let d = held _ _ _ _ (not_0 12) c.1 in
    (eqb-true store 35 a.0, leb-true most room d.0)

module _ (bytes : List ℕ) (next w : Waiting) (after store out : List ℕ) where
  pub gave_refused : (f : ℕ) (e : Refusal) → refusal_number e ≡ f → GaveOn f bytes next w after store store out out (record { waiting = w; answer = Err e })
  unfolding length_said waiting_said store_left out_left
  gave_refused zero e h = absurd (number_pos e h)
  gave_refused (suc f) e h = record { number = h; size = refl; waiting = refl; kept = refl; left = refl }

  pub gave_done : (f n : ℕ) (r : Waiting) (store' out' : List ℕ) → 0 ≡ f → n ≡ length bytes → r ≡ next → store' ≡ after → out' ≡ patch out 0 bytes →
      GaveOn f bytes next w after store store' out out' (record { waiting = r; answer = Ok n })
  unfolding length_said waiting_said store_left out_left
  gave_done zero n r store' out' e l v k p = record { number = refl; size = l; waiting = v; kept = k; left = p ∙ patch_front out bytes }
  gave_done (suc f) n r store' out' e l v k p = absurd (omega arith)
