-- Laws of the writers: the entries that are there, the lengths, and what holds where nothing is refused.
-- Assumes nothing.
use Rattle.std.specs.Prelude.{ℕ, zero, suc, ◌+◌, ◌*◌, ◌≤◌, ◌≡◌, true, List, [], ◌++◌, length}
use Rattle.std.proofs.Math.Path.{refl, ap}
use Rattle.std.proofs.Common.{sym, ◌∙◌, arith, eq-eqb, ne_eqb, le-leb, leb-true}
use Rattle.whole.specs.Row.{◌⇒◌∣◌}
use Rattle.whole.specs.laws.Row.{held, passes, case_yes, case_no}
use Rattle.wire.specs.Le.{bytes16, bytes32, patch}
use Rattle.wire.specs.laws.Le.{patch_none, patch_next}
use Rattle.caps.specs.Caps.{entry_of, Entries, entries_over, entries_in, entries_of, capset_of, block_of, caps_of, modes_good, caps_fault, GoodEntries, none}
use Rattle.caps.specs.Caps.{one, two}
use Rattle.caps.specs.Ack.{ack_fault}
use Rattle.caps.specs.declared.Entry.{Entry}
use Rattle.caps.specs.declared.Caps.{Caps}

-- ---- the entries

module _ (s : Entries) where
  pub none_of : s.n ≡ 0 → [] ≡ entries_of s
  unfolding entries_of
  none_of h = case_yes _ _ _ _ (eq-eqb s.n 0 h) refl

  pub one_of : (s.n ≡ 0 → ⊥) → s.n ≡ 1 → entry_of s.first ≡ entries_of s
  unfolding entries_of
  one_of z h = case_no _ _ _ _ (ne_eqb s.n 0 z) (case_yes _ _ _ _ (eq-eqb s.n 1 h) refl)

  pub two_of : (s.n ≡ 0 → ⊥) → (s.n ≡ 1 → ⊥) → entry_of s.first ++ entry_of s.second ≡ entries_of s
  unfolding entries_of
  two_of z h = case_no _ _ _ _ (ne_eqb s.n 0 z) (case_no _ _ _ _ (ne_eqb s.n 1 h) refl)

module _ (n : ℕ) (e f : Entry) (xs : List ℕ) where
  pub none_put : n ≡ 0 → xs ≡ patch xs 33 (entries_of (entries_over n e f))
  none_put h = patch_none xs 33 ∙ ap (patch xs 33) (none_of (entries_over n e f) h)

  module _ (z : n ≡ 0 → ⊥) (x : List ℕ) (p : x ≡ patch xs 33 (entry_of e)) where
    pub one_put : n ≡ 1 → x ≡ patch xs 33 (entries_of (entries_over n e f))
    one_put h = p ∙ ap (patch xs 33) (one_of (entries_over n e f) z h)

    pub two_put : (n ≡ 1 → ⊥) → (y : List ℕ) → y ≡ patch x 41 (entry_of f) → 33 ≤ length xs → y ≡ patch xs 33 (entries_of (entries_over n e f))
    unfolding entry_of bytes16
    two_put h y q l = patch_next x y xs (entry_of e) (entry_of f) 33 41 p q refl l ∙ ap (patch xs 33) (two_of (entries_over n e f) z h)

-- ---- the lengths

entries_long : (s : Entries) → s.n ≤ 2 → length (entries_of s) ≡ 8 * s.n
unfolding entry_of bytes16
entries_long s h = go s.n refl
  where
    go : (k : ℕ) → s.n ≡ k → length (entries_of s) ≡ 8 * s.n
    go zero e = ap length (sym (none_of s e)) ∙ omega arith
    go (suc zero) e = ap length (sym (one_of s (λ z. omega arith) e)) ∙ omega arith
    go (suc (suc k)) e = ap length (sym (two_of s (λ z. omega arith) (λ z. omega arith))) ∙ omega arith

pub caps_long : (c : Caps) → c.n ≤ 2 → 33 + 8 * c.n ≡ length (caps_of c)
unfolding caps_of block_of capset_of bytes16 bytes32
caps_long c h = omega (arith, entries_long (entries_in c) h)

-- ---- nothing is refused

pub record Writable (c : Caps) (room : ℕ) : Type 0 where
  pub few : c.n ≤ 2
  pub modes : modes_good (entries_in c) ≡ true
  pub fits : 33 + 8 * c.n ≤ room

pub writable : (c : Caps) (room : ℕ) → 0 ≡ caps_fault c room → Writable c room
unfolding caps_fault
writable c room e =
    let a = held _ _ _ _ (λ q. omega arith) e in
    let b = held _ _ _ _ (λ q. omega arith) a.1 in
    let d = held _ _ _ _ (λ q. omega arith) b.1 in
    record { few = leb-true c.n 2 a.0; modes = b.0; fits = leb-true (33 + 8 * c.n) room d.0 }

-- what is good is refused for room alone
modes-good : (s : Entries) → GoodEntries s → modes_good s ≡ true
unfolding modes_good ◌⇒◌∣◌
modes-good _ none = refl
modes-good _ (one e g) = sym (passes _ _ _ _ g.mode refl)
modes-good _ (two e f g h) = sym (passes _ _ _ _ g.mode (sym h.mode))

pub caps_fine : (c : Caps) (room : ℕ) → GoodEntries (entries_in c) → c.n ≤ 2 → 33 + 8 * c.n ≤ room → 0 ≡ caps_fault c room
unfolding caps_fault
caps_fine c room g k h =
    passes _ _ _ _ (le-leb c.n 2 k) (passes _ _ _ _ (modes-good (entries_in c) g) (passes _ _ _ _ (le-leb (33 + 8 * c.n) room h) refl))

pub ack_writable : (version room : ℕ) → 0 ≡ ack_fault version room → (version ≤ 4095) × (22 ≤ room)
unfolding ack_fault
ack_writable version room e =
    let a = held _ _ _ _ (λ q. omega arith) e in
    let b = held _ _ _ _ (λ q. omega arith) a.1 in
    (leb-true version 4095 a.0, leb-true 22 room b.0)
