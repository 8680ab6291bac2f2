-- Laws of the walk, for any layout: what one field comes to, both ways; a row; one layout behind another; the end of the message.
-- Assumes nothing.
use Rattle.std.specs.Prelude.{ℕ, suc, ◌+◌, ◌<◌, ◌≤◌, ◌≡◌, Bool, true, false, leb, eqb, length, get_or, drop}
use Rattle.std.proofs.Math.Path.{refl, ap, ap₂}
use Rattle.std.proofs.Common.{sym, subst, ◌∙◌, arith, le-leb, leb-true, eqb-true, get_or-drop, get_or-append-add}
use mathlib.Core.List.{List, [], ◌∷◌, ◌++◌, append-nil}
use Rattle.whole.specs.Row.{◌!◌⨾◌}
use Rattle.whole.specs.laws.Row.{held, passes}
use Rattle.wire.specs.Le.{le16, le32, bytes16, bytes32}
use Rattle.caps.specs.laws.Number.{two_bytes, four_bytes, two_there, four_there}
use Rattle.caps.specs.Walk.{Bytes, size, most, number, spelled, Layout, gives, refuse, field, ◌then◌, Walked, Came, Stopped, walk, ended, Both}
use Rattle.caps.specs.declared.walk.Width.{Width}
use Rattle.caps.specs.declared.walk.Width.TheVariants.{One, Two, Four}

-- ---- bytes

pub bytes_past : (k : ℕ) (m : List ℕ) → Bytes m → Bytes (drop k m)
bytes_past k m b i = rw get_or-drop (b (k + i))

pub bytes_behind : (xs mid m : List ℕ) → Bytes m → m ≡ xs ++ mid → Bytes mid
bytes_behind xs mid m b e i = subst (λ (n : ℕ). n < 256) (ap (λ (l : List ℕ). get_or l (length xs + i) 0) e ∙ get_or-append-add xs mid i 0) (b (length xs + i))

-- ---- one field: written, it is read back

pub field_back :
    {A : Type 0} (w : Width) (next : ℕ → Layout A) (v : ℕ) (rest : List ℕ) → v < most w → walk (field w next) (spelled w v ++ rest) ≡ walk (next v) rest
unfolding walk size most number spelled le16 le32 bytes16 bytes32 ◌!◌⨾◌
field_back One next v rest h = rw (le-leb 1 (suc (length rest)) (omega arith))
field_back Two next v rest h = rw (le-leb 2 (suc (suc (length rest))) (omega arith), two_bytes v h)
field_back Four next v rest h = rw (le-leb 4 (suc (suc (suc (suc (length rest))))) (omega arith), four_bytes v h)

-- ---- one field: read, it is written again

-- the first bytes are those of their number
spelled_there : (w : Width) (m : List ℕ) → Bytes m → size w ≤ length m → (m ≡ spelled w (number w m) ++ drop (size w) m) × (number w m < most w)
unfolding size most number spelled le16 le32 bytes16 bytes32
spelled_there One [] b h = absurd (omega arith)
spelled_there One (x ∷ m) b h = (refl, b 0)
spelled_there Two [] b h = absurd (omega arith)
spelled_there Two (x ∷ []) b h = absurd (omega arith)
spelled_there Two (x ∷ y ∷ m) b h = (ap (λ (f : List ℕ). f ++ m) (two_there x y (b 0) (b 1)), omega (arith, b 0, b 1))
spelled_there Four [] b h = absurd (omega arith)
spelled_there Four (x ∷ []) b h = absurd (omega arith)
spelled_there Four (x ∷ y ∷ []) b h = absurd (omega arith)
spelled_there Four (x ∷ y ∷ z ∷ []) b h = absurd (omega arith)
spelled_there Four (x ∷ y ∷ z ∷ u ∷ m) b h = (ap (λ (f : List ℕ). f ++ m) (four_there x y z u (b 0) (b 1) (b 2) (b 3)), omega (arith, b 0, b 1, b 2, b 3))

pub no_stop : {A : Type 0} (a : A) (rest : List ℕ) (n : ℕ) → Came a rest ≡ Stopped n → ⊥
no_stop a rest n e = let z : ◌≡◌ {A = ℕ} 0 1 = cc in omega arith

-- what follows from the field's number and the bytes behind it
pub field_in : {A P : Type 0} (w : Width) (next : ℕ → Layout A) (m : List ℕ) (a : A) (rest : List ℕ) → Bytes m → walk (field w next) m ≡ Came a rest →
    ((v : ℕ) (mid : List ℕ) → m ≡ spelled w v ++ mid → v < most w → Bytes mid → walk (next v) mid ≡ Came a rest → P) → P
unfolding walk
field_in w next m a rest b e more =
    let h = held _ _ _ _ (no_stop a rest 1) (sym e) in
    let s = spelled_there w m b (leb-true (size w) (length m) h.0) in
    more (number w m) (drop (size w) m) s.0 s.1 (bytes_past (size w) m b) (sym h.1)

-- ---- a row

pub row_back : {A : Type 0} (t : Bool) (n : ℕ) (l : Layout A) (m : List ℕ) → t ≡ true → walk (t ! refuse n ⨾ l) m ≡ walk l m
row_back {A = A} t n l m h = ap (λ (k : Layout A). walk k m) (sym (passes _ _ _ _ h refl))

pub row_same :
    {A : Type 0} (t : Bool) (n : ℕ) (l : Layout A) (m : List ℕ) (a : A) (rest : List ℕ) → walk (t ! refuse n ⨾ l) m ≡ Came a rest →
    (t ≡ true) × (walk l m ≡ Came a rest)
unfolding walk ◌!◌⨾◌
row_same true n l m a rest e = (refl, e)
row_same false n l m a rest e = absurd (no_stop a rest n (sym e))

-- a field with a fixed value
pub fixed_in : {A P : Type 0} (w : Width) (v n : ℕ) (l : Layout A) (m : List ℕ) (a : A) (rest : List ℕ) → Bytes m →
    walk (field w λ x. eqb x v ! refuse n ⨾ l) m ≡ Came a rest → ((mid : List ℕ) → m ≡ spelled w v ++ mid → Bytes mid → walk l mid ≡ Came a rest → P) → P
fixed_in w v n l m a rest b e more =
    field_in w _ m a rest b e λ x mid is fits bytes on.
    let t = row_same (eqb x v) n l mid a rest on in
    more mid (is ∙ ap (λ (y : ℕ). spelled w y ++ mid) (eqb-true x v t.0)) bytes t.1

-- what is known of the rest is known of the whole
pub behind : {m mid ys : List ℕ} (xs : List ℕ) → m ≡ xs ++ mid → mid ≡ ys → m ≡ xs ++ ys
behind xs p q = p ∙ ap (λ (t : List ℕ). xs ++ t) q

-- the end of a layout
pub gives_back : {A : Type 0} (a : A) (rest : List ℕ) → walk (gives a) rest ≡ Came a rest
unfolding walk
gives_back a rest = refl

pub gives_same : {A : Type 0} (x : A) (m : List ℕ) (a : A) (rest : List ℕ) → walk (gives x) m ≡ Came a rest → (x ≡ a) × (m ≡ rest)
unfolding walk
gives_same x m a rest e = (cc, cc)

-- ---- one layout behind another

abbrev pub onward : {A B : Type 0} → (A → Layout B) → Walked A → Walked B
onward next (Came a rest) = walk (next a) rest
onward next (Stopped n) = Stopped n

pub walk_then : {A B : Type 0} (l : Layout A) (next : A → Layout B) (m : List ℕ) → walk (l then next) m ≡ onward next (walk l m)
unfolding walk ◌then◌ ◌!◌⨾◌
walk_then {A = A} {B = B} (gives a) next m = refl
walk_then {A = A} {B = B} (refuse n) next m = refl
walk_then {A = A} {B = B} (field w more) next m = go (leb (size w) (length m)) _ _ (walk_then (more (number w m)) next (drop (size w) m))
  where
    go : (t : Bool) (x : Walked B) (y : Walked A) → x ≡ onward next y → (t ! Stopped 1 ⨾ x) ≡ onward next (t ! Stopped 1 ⨾ y)
    go true x y e = e
    go false x y e = refl

pub then_back :
    {A B : Type 0} (l : Layout A) (next : A → Layout B) (m : List ℕ) (a : A) (mid : List ℕ) → walk l m ≡ Came a mid →
    walk (l then next) m ≡ walk (next a) mid
then_back l next m a mid e = walk_then l next m ∙ ap (onward next) e

pub record Then {A B : Type 0} (l : Layout A) (next : A → Layout B) (m : List ℕ) (b : B) (rest : List ℕ) : Type 0 where
  pub given : A
  pub mid : List ℕ
  pub front : walk l m ≡ Came given mid
  pub on : walk (next given) mid ≡ Came b rest

pub then_same :
    {A B : Type 0} (l : Layout A) (next : A → Layout B) (m : List ℕ) (b : B) (rest : List ℕ) → walk (l then next) m ≡ Came b rest → Then l next m b rest
then_same {A = A} {B = B} l next m b rest e = go (walk l m) refl (sym (walk_then l next m) ∙ e)
  where
    go : (x : Walked A) → walk l m ≡ x → onward next x ≡ Came b rest → Then l next m b rest
    go (Came a mid) f o = record { given = a; mid = mid; front = f; on = o }
    go (Stopped n) f o = absurd (no_stop b rest n (sym o))

-- ---- the whole message

nil : (rest : List ℕ) → length rest ≡ 0 → [] ≡ rest
nil [] h = refl
nil (x ∷ rest) h = absurd (omega arith)

module _ {A R : Type 0} (taken : A → R) (refused : ℕ → R) (l : Layout A) {Good : A → Type 0} {bytes : A → List ℕ} (both : Both l Good bytes) (a : A) where
  pub read_back : Good a → ended taken refused (walk l (bytes a)) ≡ taken a
  unfolding ended ◌!◌⨾◌
  read_back g =
      let e : walk l (bytes a) ≡ Came a [] = ap (walk l) (sym (append-nil (bytes a))) ∙ both.back a [] g in
      ap (ended taken refused) e

  -- of an answer it is known which it is
  module _ (inj : (x : A) → taken x ≡ taken a → x ≡ a) (apart : (n : ℕ) → refused n ≡ taken a → ⊥) where
    pub ends : (m : List ℕ) → ended taken refused (walk l m) ≡ taken a → walk l m ≡ Came a []
    unfolding ended
    ends m e = go (walk l m) refl e
      where
        go : (x : Walked A) → walk l m ≡ x → ended taken refused x ≡ taken a → walk l m ≡ Came a []
        go (Came b rest) f o =
            let h = held _ _ _ _ (λ q. apart 4 (sym q)) (sym o) in
            f ∙ ap₂ Came (inj b (sym h.1)) (sym (nil rest (eqb-true (length rest) 0 h.0)))
        go (Stopped n) f o = absurd (apart n o)

    pub read_same : (m : List ℕ) → Bytes m → ended taken refused (walk l m) ≡ taken a → Good a × (bytes a ≡ m)
    read_same m b e =
        let s = both.same m a [] b (ends m e) in
        (s.0, sym (s.1 ∙ append-nil (bytes a)))
