-- 02's request Six, of the header call: columns, rows and words "must be right after every call, refused ones included"; a record in which one of them is
-- wrong is one that no calls could have made: 12 wherever one is judged, "but takes a good sync" (01). And of the glass, by request Thirteen.
-- (01 is this project's scope document, 02 its change requests, 001 is MS-RDPRFX: README, "What 01 is".)
use Rattle.std.specs.Prelude.{ℕ, ◌≤◌, ◌<◌, ◌≡◌, refl, Bool, true, false, List, eqb, length}
use Rattle.std.proofs.Common.{sym, arith, le-leb, ne_eqb}
use Rattle.wire.specs.Le.{le16, le32}
use Rattle.whole.specs.Row.{◌!◌⨾◌, ◌⇒◌∣◌}
use Rattle.whole.specs.laws.Row.{passes, fails, case_no, stops}
use Rattle.session.specs.declared.Session.{Session}
use Rattle.session.specs.Header.{Right, made, ready, due, head_judge, header_fault, kept_glass, record_after, header_record, header_reading}
use Rattle.session.specs.laws.Header.{right_at, kept-glass, made_good}

-- ---- after every call

either : (b : Bool) (x y : Session) → Right x → Right y → Right (b ⇒ x ∣ y)
unfolding ◌⇒◌∣◌
either true x y p q = p
either false x y p q = q

-- whatever the record was before, a taken header leaves one that is right
pub right_record : (s : Session) (m : List ℕ) → Right (record_after s m)
unfolding record_after
right_record s m = either _ _ _ (right_at _ 1 0 0 0) (either _ _ _ (right_at _ 2 _ _ _) (either _ _ _ (right_at _ 3 _ _ _) (right_at _ 4 _ _ _)))

by_fault : (s : Session) (m : List ℕ) (b : Bool) → eqb (header_fault s m) 0 ≡ b → Right s → Right (header_record (header_reading s m) s)
unfolding header_reading ◌⇒◌∣◌
by_fault s m true e r = rw e (right_record s m)
by_fault s m false e r = rw e r

-- taken or refused
pub right_reading : (s : Session) (m : List ℕ) → Right s → Right (header_record (header_reading s m) s)
right_reading s m r = by_fault s m _ refl r

-- ---- 02's request Thirteen: the glass, "chosen when the session is opened and kept through a sync"

glass_by : (b : Bool) (x y : Session) (g : ℕ) → x.glass ≡ g → y.glass ≡ g → (b ⇒ x ∣ y).glass ≡ g
unfolding ◌⇒◌∣◌
glass_by true x y g p q = p
glass_by false x y g p q = q

-- a taken header keeps it, a sync too
glass_record : (s : Session) (m : List ℕ) → s.glass ≤ 1 → (record_after s m).glass ≡ s.glass
unfolding record_after
glass_record s m l = glass_by _ _ _ _ (kept-glass s.glass l) (glass_by _ _ _ _ refl (glass_by _ _ _ _ refl refl))

glass_fault : (s : Session) (m : List ℕ) (b : Bool) → eqb (header_fault s m) 0 ≡ b → s.glass ≤ 1 → (header_record (header_reading s m) s).glass ≡ s.glass
unfolding header_reading ◌⇒◌∣◌
glass_fault s m true e l = rw e (glass_record s m l)
glass_fault s m false e l = rw e refl

-- taken or refused
pub glass_reading : (s : Session) (m : List ℕ) → s.glass ≤ 1 → (header_record (header_reading s m) s).glass ≡ s.glass
glass_reading s m l = glass_fault s m _ refl l

-- ---- a record in which one is wrong

is_false : (b : Bool) → (b ≡ true → ⊥) → b ≡ false
is_false true h = absurd (h refl)
is_false false h = refl

by_headers : (b x : Bool) → x ≡ false → (b ! false ⨾ x) ≡ false
unfolding ◌!◌⨾◌
by_headers true x e = e
by_headers false x e = refl

-- such a record, and one of another glass, is none that calls could have made
pub wrong_made : (s : Session) → (Right s → ⊥) → made s ≡ false
wrong_made s w = is_false (made s) (λ e. w (made_good s e).right)

pub glass_made : (s : Session) → 1 < s.glass → made s ≡ false
glass_made s l = is_false (made s) (λ e. omega (arith, l, (made_good s e).glass))

-- no frame is read with it
pub wrong_ready : (s : Session) → made s ≡ false → ready s ≡ false
unfolding ready ◌!◌⨾◌
wrong_ready s w = by_headers (eqb s.headers 4) _ w

-- no header but a sync is due
wrong_due : (s : Session) (t : ℕ) → made s ≡ false → (t ≡ 0xCCC0 → ⊥) → due s t ≡ false
unfolding due
wrong_due s t w n = sym (case_no _ _ _ _ (ne_eqb t 0xCCC0 n) (fails _ _ _ _ w refl))

pub wrong_header : (s : Session) (m : List ℕ) → made s ≡ false → 6 ≤ length m → 0xCCC1 ≤ le16 m 0 → le16 m 0 ≤ 0xCCC3 → header_fault s m ≡ 12
unfolding header_fault head_judge
wrong_header s m w some least most =
    let t = le16 m 0 in
    let judged : 12 ≡ head_judge s t (le32 m 2) (length m) =
    passes _ _ _ _ (le-leb 0xCCC0 t (omega arith)) (passes _ _ _ _ (le-leb t 0xCCC3 most)
    (fails _ _ _ _ (wrong_due s t w (λ e. omega (arith, e, least))) refl)) in
    sym (passes _ _ _ _ (le-leb 6 (length m) some) (stops _ _ _ (λ z. omega (arith, judged, z)) judged))

-- a sync is answered the same, whatever the record, but for the glass, which is kept: of records whose glass is the same after it, the same
pub sync_any : (s t : Session) (m : List ℕ) → kept_glass s.glass ≡ kept_glass t.glass → le16 m 0 ≡ 0xCCC0 → header_reading s m ≡ header_reading t m
unfolding header_reading header_fault head_judge due record_after ◌⇒◌∣◌
sync_any s t m k e = rw (e, k)
