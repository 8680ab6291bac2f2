-- One law for each return of the header call's first fault and of the record after, in plain variables: t and size are what was read, n and f what was judged.
use Prim.Native.Nat.{ℕ, ◌≤◌}
use mathlib.Core.Path.{◌≡◌, refl, ap, sym, ◌∙◌}
use mathlib.Core.List.{List}
use lib.ListN.{length}
use borrow.Author.Tests.{le-leb}
use Rattle.wire.specs.Le.{le16, le32}
use native.Mathlib.Omega.{arith}
use Rattle.whole.specs.laws.Row.{passes, fails, stops, goes_on, case_yes, case_no, ne_is, eq_is}
use Rattle.session.specs.declared.Session.{Session}
use Rattle.session.specs.Header.{record_of, of_glass, stepped, et_of, head_judge, field_fault, header_fault, kept_glass, record_after}
use Rattle.session.specs.laws.Header.{Good, due_made, stepped_at, numbers_at, channels_size, sized}

-- what has been read and judged of a message whose head is there
pub record Judged (s : Session) (m : List ℕ) (t size n : ℕ) : Type 0 where
  pub some : 6 ≤ length m
  pub type : t ≡ le16 m 0
  pub len : size ≡ le32 m 2
  pub is : n ≡ head_judge s t size (length m)

seen : (s : Session) (m : List ℕ) (t size n : ℕ) → Judged s m t size n → n ≡ head_judge s (le16 m 0) (le32 m 2) (length m)
seen s m t size n j = j.is ∙ rw (j.type, j.len)

pub fault_head : (s : Session) (m : List ℕ) (t size n : ℕ) → Judged s m t size n → (n ≡ 0 → ⊥) → n ≡ header_fault s m
unfolding header_fault
fault_head s m t size n j h =
    let e = seen s m t size n j in
    passes _ _ _ _ (le-leb 6 (length m) j.some) (stops _ _ _ (λ z. h (e ∙ z)) e)

pub fault_field : (s : Session) (m : List ℕ) (t size n f : ℕ) → Judged s m t size n → n ≡ 0 → f ≡ field_fault m t → (f ≡ 0 → ⊥) → f ≡ header_fault s m
unfolding header_fault
fault_field s m t size n f j z g h =
    let e = seen s m t size n j in
    let k = g ∙ ap (field_fault m) j.type in
    passes _ _ _ _ (le-leb 6 (length m) j.some) (goes_on _ _ _ (sym e ∙ z) (stops _ _ _ (λ y. h (k ∙ y)) k))

pub fault_more :
    (s : Session) (m : List ℕ) (t size n f : ℕ) → Judged s m t size n → n ≡ 0 → f ≡ field_fault m t → f ≡ 0 → (length m ≡ size → ⊥) → 4 ≡ header_fault s m
unfolding header_fault
fault_more s m t size n f j z g y h =
    let e = seen s m t size n j in
    let k = g ∙ ap (field_fault m) j.type in
    passes _ _ _ _ (le-leb 6 (length m) j.some) (goes_on _ _ _ (sym e ∙ z) (goes_on _ _ _ (sym k ∙ y) (fails _ _ _ _ (ne_is refl j.len h) refl)))

pub fault_none : (s : Session) (m : List ℕ) (t size n f : ℕ) → Judged s m t size n → n ≡ 0 → f ≡ field_fault m t → f ≡ 0 → length m ≡ size → 0 ≡ header_fault
    s m
unfolding header_fault
fault_none s m t size n f j z g y h =
    let e = seen s m t size n j in
    let k = g ∙ ap (field_fault m) j.type in
    passes _ _ _ _ (le-leb 6 (length m) j.some) (goes_on _ _ _ (sym e ∙ z) (goes_on _ _ _ (sym k ∙ y) (passes _ _ _ _ (eq_is refl j.len h) refl)))

-- ---- the record after a block without a fault; r is what the code gives, t the type that was read

pub after_sync : (s : Session) (m : List ℕ) (t : ℕ) → t ≡ le16 m 0 → t ≡ 0xCCC0 → (g : ℕ) → g ≡ kept_glass s.glass → record_of g 1 0 0 0 ≡ record_after s m
unfolding record_after
after_sync s m t e z g k = case_yes _ _ _ _ (eq_is e refl z) (ap (λ (g : ℕ). record_of g 1 0 0 0) k)

pub after_versions : (s : Session) (m : List ℕ) (t : ℕ) (r : Session) → t ≡ le16 m 0 → Good s m → t ≡ 0xCCC1 → r ≡ stepped s 2 s.mode → r ≡ record_after s m
unfolding record_after
after_versions s m t r e g z k =
    let made = due_made s (le16 m 0) (λ x. omega (arith, e, z, x)) g.head.is-due in
    case_no _ _ _ _ (ne_is e refl (λ x. omega (arith, z, x))) (case_yes _ _ _ _ (eq_is e refl z) (k ∙ stepped_at s 2 s.mode made))

pub after_channels :
    (s : Session) (m : List ℕ) (t : ℕ) (r : Session) → t ≡ le16 m 0 → Good s m → t ≡ 0xCCC2 →
    (w h : ℕ) → w ≡ le16 m 8 → h ≡ le16 m 10 → r ≡ of_glass s.glass 3 w h 0 → r ≡ record_after s m
unfolding record_after
after_channels s m t r e g z w h ew eh k =
    let a = sized _ _ (channels_size m (sym e ∙ z) g.fields) in
    case_no _ _ _ _ (ne_is e refl (λ x. omega (arith, z, x))) (case_no _ _ _ _ (ne_is e refl (λ x. omega (arith, z, x))) (case_yes _ _ _ _ (eq_is e refl z)
    (k ∙ rw (ew, eh) (numbers_at s.glass 3 (le16 m 8) (le16 m 10) 0 (omega (arith, a.most_w)) (omega (arith, a.most_h))))))

pub after_context :
    (s : Session) (m : List ℕ) (t : ℕ) (r : Session) → t ≡ le16 m 0 → Good s m → (t ≡ 0xCCC0 → ⊥) → (t ≡ 0xCCC1 → ⊥) → (t ≡ 0xCCC2 → ⊥) →
    (et : ℕ) → et ≡ et_of (le16 m 11) → r ≡ stepped s 4 et → r ≡ record_after s m
unfolding record_after
after_context s m t r e g x y z et ee k =
    let made = due_made s (le16 m 0) (λ q. x (e ∙ q)) g.head.is-due in
    case_no _ _ _ _ (ne_is e refl x) (case_no _ _ _ _ (ne_is e refl y) (case_no _ _ _ _ (ne_is e refl z)
    (k ∙ stepped_at s 4 et made ∙ ap (record_of s.glass 4 s.width s.height) ee)))
