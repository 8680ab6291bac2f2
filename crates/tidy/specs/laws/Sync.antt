-- A good sync is one by its type that the panel takes, whatever its record (`sync_good`): a sync is due to every record, and nothing else to one just opened.
use Rattle.std.specs.Prelude.{ℕ, ◌≡◌, refl, Bool, true, false, List, eqb}
use Rattle.std.proofs.Common.{ap, sym, true≢false, eqb-true}
use Rattle.std.proofs.lemmas.Bool.{eqb-false}
use Rattle.whole.specs.Row.{◌!◌⨾◌, ◌⇒◌∣◌}
use Rattle.whole.specs.laws.Row.{passes, fails, held, case_not}
use Rattle.wire.specs.Le.{le16}
use Rattle.session.specs.Header.{record_of, due, head_judge, header_fault}
use Rattle.session.specs.laws.Header.{good}
use Rattle.session.specs.declared.Session.{Session}
use Rattle.tidy.specs.Headers.{kind_by, kind_of, is_sync}

due_sync : (s : Session) (t : ℕ) → t ≡ 0xCCC0 → due s t ≡ true
unfolding due ◌⇒◌∣◌
due_sync s t e = rw e refl

-- every record judges a sync alike
same_fault : (s r : Session) (b : List ℕ) → le16 b 0 ≡ 0xCCC0 → header_fault s b ≡ header_fault r b
unfolding header_fault head_judge
same_fault s r b e = rw (due_sync s (le16 b 0) e, due_sync r (le16 b 0) e) refl

-- a session just opened takes nothing else
only_due : (t : ℕ) (q : Bool) → eqb t 0xCCC0 ≡ q → due (record_of 0 0 0 0 0) t ≡ true → t ≡ 0xCCC0
unfolding due
only_due t true p e = eqb-true t 0xCCC0 p
only_due t false p e = eqb-true t 0xCCC0 (sym (held _ _ _ _ true≢false (case_not _ _ _ _ p (sym e))).1)

only_sync : (b : List ℕ) → is_sync b ≡ true → le16 b 0 ≡ 0xCCC0
unfolding is_sync
only_sync b e = only_due (le16 b 0) _ refl (good _ b (sym (eqb-true _ 0 e))).head.is-due

is-good : (s : Session) (b : List ℕ) (q i : Bool) → eqb (le16 b 0) 0xCCC0 ≡ q → is_sync b ≡ i →
    is_sync b ≡ (eqb (le16 b 0) 0xCCC0 ! false ⨾ eqb (header_fault s b) 0)
unfolding is_sync
is-good s b true i p e = passes _ _ _ _ p (ap (λ (k : ℕ). eqb k 0) (same_fault _ s b (eqb-true (le16 b 0) 0xCCC0 p)))
is-good s b false true p e = absurd (eqb-false (le16 b 0) 0xCCC0 p (only_sync b e))
is-good s b false false p e = fails _ _ _ _ p e

pub sync_good : (s : Session) (b : List ℕ) → is_sync b ≡ (eqb (le16 b 0) 0xCCC0 ! false ⨾ eqb (header_fault s b) 0)
sync_good s b = is-good s b _ _ refl refl

-- none of the three
pub sync_kind : (b : List ℕ) → is_sync b ≡ true → kind_of b ≡ 0
unfolding kind_of kind_by ◌⇒◌∣◌
sync_kind b e = rw (only_sync b e) refl

no_sync : (b : List ℕ) (q : Bool) → is_sync b ≡ q → (kind_of b ≡ 0 → ⊥) → is_sync b ≡ false
no_sync b true e h = absurd (h (sync_kind b e))
no_sync b false e h = e

pub kind_no_sync : (b : List ℕ) → (kind_of b ≡ 0 → ⊥) → is_sync b ≡ false
kind_no_sync b h = no_sync b _ refl h
