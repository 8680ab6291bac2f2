-- Laws of what a walk refuses, for any layout: a message that is accepted is cut by every end before its own, and no numbers are said but 1, 4, 5
-- and, of the container, 6.
-- Assumes nothing.
use Rattle.std.specs.Prelude.{ℕ, ◌+◌, ◌-◌, ◌*◌, ◌%◌, ◌<◌, ◌≤◌, ◌≡◌, Bool, length, take, drop, Ok, Err}
use Rattle.std.proofs.Math.Path.{refl, ap, sym, subst}
use Rattle.std.proofs.Common.{ap₂, ◌∙◌, arith, leb-true, eqb-true, ne_eqb, length-drop, get_or-take, length-take-le, take-add, drop_at}
use Rattle.std.proofs.Math.Bool.{true, false}
use mathlib.Core.List.{List, [], ◌∷◌, ◌++◌}
use Rattle.std.proofs.Math.Dec.{leb, eqb}
use Rattle.whole.specs.Row.{◌!◌⨾◌, ◌⇒◌∣◌}
use Rattle.whole.specs.laws.Row.{held, passes, fails}
use Rattle.wire.specs.Le.{le16, le32}
use Rattle.wire.specs.Mode.{is_mode}
use Rattle.wire.specs.Refusal.{refusal_number, refusal_of}
use Rattle.wire.specs.laws.Refusal.{number_back}
use Rattle.wire.specs.declared.Refusal.{Refusal}
use Rattle.wire.specs.declared.Refusal.TheVariants.{Cut, Length}
use Rattle.caps.specs.Walk.{Bytes, size, number, Layout, gives, refuse, field, ◌then◌, Walked, Came, Stopped, walk, ended, refused_by, answered, Both}
use Rattle.caps.specs.Caps.{entry, entries, no_entry, one_entry, two_entries, capset, block, caps_with, container}
use Rattle.caps.specs.AckCap.{ack_cap}
use Rattle.caps.specs.Ack.{ack}
use Rattle.caps.specs.Request.{read_number, ack_says}
use Rattle.caps.specs.laws.Walk.{no_stop, ends, read_same}
use Rattle.caps.specs.declared.walk.Width.{Width}
use Rattle.caps.specs.declared.walk.Width.TheVariants.{One, Two, Four}

-- ---- cut anywhere

drop_take : (s k : ℕ) (l : List ℕ) → s ≤ length l → drop s (take (s + k) l) ≡ take k (drop s l)
drop_take s k l h = ap (drop s) (take-add s k l) ∙ drop_at (take s l) (take k (drop s l)) s (length-take-le s l h)

-- a field that is all there has the same number
number_take : (w : Width) (k : ℕ) (m : List ℕ) → size w ≤ k → number w (take k m) ≡ number w m
unfolding size number le16 le32
number_take One k m h = get_or-take k m 0 0 (omega arith)
number_take Two k m h = rw (get_or-take k m 0 0 (omega arith), get_or-take k m 1 0 (omega arith))
number_take Four k m h =
    rw (get_or-take k m 0 0 (omega arith), get_or-take k m 1 0 (omega arith), get_or-take k m 2 0 (omega arith), get_or-take k m 3 0 (omega arith))

-- one field, where the rest is cut too
field_cut :
    {A : Type 0} (w : Width) (next : ℕ → Layout A) (m : List ℕ) (a : A) (k : ℕ) → walk (field w next) m ≡ Came a [] → k < length m →
    ((n : ℕ) → walk (next (number w m)) (drop (size w) m) ≡ Came a [] → n < length (drop (size w) m) →
    walk (next (number w m)) (take n (drop (size w) m)) ≡ Stopped 1) →
    walk (field w next) (take k m) ≡ Stopped 1
unfolding walk
field_cut w next m a k e h rest = go (leb (size w) k) refl
  where
    q : (leb (size w) (length m) ≡ true) × (Came a [] ≡ walk (next (number w m)) (drop (size w) m))
    q = held _ _ _ _ (no_stop a [] 1) (sym e)

    long : length (take k m) ≡ k
    long = length-take-le k m (omega arith)

    go : (t : Bool) → leb (size w) k ≡ t → walk (field w next) (take k m) ≡ Stopped 1
    go true t =
        let i : size w ≤ k = leb-true (size w) k t in
        let j : size w ≤ length m = leb-true (size w) (length m) q.0 in
        let o : k ≡ size w + (k - size w) = omega arith in
        let d : drop (size w) (take k m) ≡ take (k - size w) (drop (size w) m) =
        ap (λ (n : ℕ). drop (size w) (take n m)) o ∙ drop_take (size w) (k - size w) m j in
        let r = rest (k - size w) (sym q.1) (rw length-drop (omega arith)) in
        sym (passes _ _ _ _ (ap (leb (size w)) long ∙ t) refl)
        ∙ (ap₂ (λ (v : ℕ) (b : List ℕ). walk (next v) b) (number_take w k m i) d ∙ r)
    go false t = sym (fails _ _ _ _ (ap (leb (size w)) long ∙ t) refl)

pub walk_cut : {A : Type 0} (l : Layout A) (m : List ℕ) (a : A) (k : ℕ) → walk l m ≡ Came a [] → k < length m → walk l (take k m) ≡ Stopped 1
unfolding walk
walk_cut (gives x) m a k e h =
    let z : m ≡ [] = cc in
    absurd (omega (arith, ap length z))
walk_cut (refuse n) m a k e h = absurd (no_stop a [] n (sym e))
walk_cut (field w next) m a k e h = field_cut w next m a k e h (λ n. walk_cut (next (number w m)) (drop (size w) m) a n)

-- ---- the numbers

-- of missing bytes and of bytes behind, and of fixed fields; a layout that refuses with such numbers alone
pub record Says (says : ℕ → Bool) : Type 0 where
  pub missing : says 1 ≡ true
  pub length : says 4 ≡ true
  pub fixed : says 5 ≡ true

pub data Refusing (says : ℕ → Bool) {A : Type 0} : Layout A → Type 0 where
  none_said : (a : A) → Refusing says (gives a)
  said : (n : ℕ) → says n ≡ true → Refusing says (refuse n)
  behind : (w : Width) (next : ℕ → Layout A) → ((v : ℕ) → Refusing says (next v)) → Refusing says (field w next)

-- an acknowledgement says no number that the container does not
wider : (a b c d : Bool) → (a ⇒ true ∣ b ⇒ true ∣ c) ≡ true → (a ⇒ true ∣ b ⇒ true ∣ c ⇒ true ∣ d) ≡ true
unfolding ◌⇒◌∣◌
wider true b c d e = refl
wider false true c d e = refl
wider false false true d e = refl
wider false false false d e = absurd (let z : ◌≡◌ {A = ℕ} 0 1 = cc in omega arith)

pub ack_among : (n : ℕ) → ack_says n ≡ true → read_number n ≡ true
unfolding ack_says read_number
ack_among n e = wider (eqb n 1) (eqb n 4) (eqb n 5) (eqb n 6) e

-- and the container says none that is no refusal's
pub read_few : (n : ℕ) → read_number n ≡ true → (0 < n) × (n ≤ 13)
unfolding read_number ◌⇒◌∣◌
read_few n e = go (eqb n 1) (eqb n 4) (eqb n 5) (eqb n 6) refl refl refl refl e
  where
    go : (a b c d : Bool) → eqb n 1 ≡ a → eqb n 4 ≡ b → eqb n 5 ≡ c → eqb n 6 ≡ d → (a ⇒ true ∣ b ⇒ true ∣ c ⇒ true ∣ d) ≡ true → (0 < n) × (n ≤ 13)
    go true b c d p q r s e = let k = eqb-true n 1 p in (omega arith, omega arith)
    go false true c d p q r s e = let k = eqb-true n 4 q in (omega arith, omega arith)
    go false false true d p q r s e = let k = eqb-true n 5 r in (omega arith, omega arith)
    go false false false true p q r s e = let k = eqb-true n 6 s in (omega arith, omega arith)
    go false false false false p q r s e = cc

pub read_numbers : Says read_number
unfolding read_number ◌⇒◌∣◌
read_numbers = record { missing = refl; length = refl; fixed = refl }

pub ack_numbers : Says ack_says
unfolding ack_says ◌⇒◌∣◌
ack_numbers = record { missing = refl; length = refl; fixed = refl }

says_6 : read_number 6 ≡ true
unfolding read_number ◌⇒◌∣◌
says_6 = refl

row : {says : ℕ → Bool} {A : Type 0} (t : Bool) (n : ℕ) (l : Layout A) → says n ≡ true → Refusing says l → Refusing says (t ! refuse n ⨾ l)
unfolding ◌!◌⨾◌
row true n l h r = r
row false n l h r = said n h

then_on : {says : ℕ → Bool} {A B : Type 0} (l : Layout A) (next : A → Layout B) → Refusing says l → ((a : A) → Refusing says (next a)) →
    Refusing says (l then next)
unfolding ◌then◌
then_on {A = A} {B = B} _ next (none_said a) f = f a
then_on {A = A} {B = B} _ next (said n h) f = said n h
then_on {A = A} {B = B} _ next (behind w more r) f = behind w _ (λ v. then_on (more v) next (r v) f)

stopped_is : {A : Type 0} (n k : ℕ) → ◌≡◌ {A = Walked A} (Stopped n) (Stopped k) → n ≡ k
stopped_is n k e = cc

module _ (says : ℕ → Bool) (k : Says says) where
  field_says :
      {A : Type 0} (w : Width) (next : ℕ → Layout A) (m : List ℕ) (n : ℕ) → walk (field w next) m ≡ Stopped n →
      (walk (next (number w m)) (drop (size w) m) ≡ Stopped n → says n ≡ true) → says n ≡ true
  unfolding walk
  field_says w next m n e rest = go (leb (size w) (length m)) refl
    where
      go : (t : Bool) → leb (size w) (length m) ≡ t → says n ≡ true
      go true t = rest (passes _ _ _ _ t refl ∙ e)
      go false t = subst (λ (x : ℕ). says x ≡ true) (stopped_is 1 n (fails _ _ _ _ t refl ∙ e)) k.missing

  pub walk_says : {A : Type 0} (l : Layout A) → Refusing says l → (m : List ℕ) (n : ℕ) → walk l m ≡ Stopped n → says n ≡ true
  unfolding walk
  walk_says _ (none_said a) m n e = absurd (no_stop a m n e)
  walk_says _ (said j h) m n e = subst (λ (x : ℕ). says x ≡ true) (stopped_is j n e) h
  walk_says _ (behind w next r) m n e = field_says w next m n e (walk_says (next (number w m)) (r (number w m)) (drop (size w) m) n)

-- ---- the layouts

entry_refusing : Refusing read_number entry
unfolding entry
entry_refusing =
    behind Two _ λ version. row (eqb version 0x0100) 5 _ read_numbers.fixed (
    behind Two _ λ tileSize. row (eqb tileSize 0x0040) 5 _ read_numbers.fixed (
    behind One _ λ flags.
    behind One _ λ colConvBits. row (eqb colConvBits 1) 5 _ read_numbers.fixed (
    behind One _ λ transformBits. row (eqb transformBits 1) 5 _ read_numbers.fixed (
    behind One _ λ entropyBits. row (is_mode entropyBits) 5 _ read_numbers.fixed (
    none_said _)))))

entries_refusing : (n : ℕ) → Refusing read_number (entries n)
unfolding entries ◌⇒◌∣◌
entries_refusing n = go (eqb n 0) (eqb n 1)
  where
    go : (z o : Bool) →
        Refusing read_number (z ⇒ gives no_entry ∣ o ⇒ (entry then λ e. gives (one_entry e)) ∣ (entry then λ e. entry then λ f. gives (two_entries e f)))
    go true o = none_said no_entry
    go false true = then_on entry _ entry_refusing (λ e. none_said (one_entry e))
    go false false = then_on entry _ entry_refusing (λ e. then_on entry _ entry_refusing (λ f. none_said (two_entries e f)))

pub block_refusing : (capsLength : ℕ) → Refusing read_number (block capsLength)
unfolding block capset
block_refusing capsLength =
    behind Two _ λ blockType. row (eqb blockType 0xCBC0) 5 _ read_numbers.fixed (
    behind Four _ λ block_len. row (eqb block_len 8) 4 _ read_numbers.length (
    behind Two _ λ numCapsets. row (eqb numCapsets 1) 5 _ read_numbers.fixed (
    behind Two _ λ setType. row (eqb setType 0xCBC1) 5 _ read_numbers.fixed (
    behind Four _ λ setLen. row (eqb capsLength (8 + setLen)) 4 _ read_numbers.length (
    behind One _ λ codecId. row (eqb codecId 1) 5 _ read_numbers.fixed (
    behind Two _ λ capsetType. row (eqb capsetType 0xCFC0) 5 _ read_numbers.fixed (
    behind Two _ λ numIcaps. row (leb numIcaps 2) 6 _ says_6 (
    behind Two _ λ icapLen. row (eqb icapLen 8) 4 _ read_numbers.length (
    row (eqb setLen (13 + 8 * numIcaps)) 4 _ read_numbers.length (entries_refusing numIcaps))))))))))

pub container_refusing : Refusing read_number container
unfolding container
container_refusing =
    behind Four _ λ length.
    behind Four _ λ captureFlags.
    behind Four _ λ capsLength. row (eqb length (12 + capsLength)) 4 _ read_numbers.length (
    then_on (block capsLength) _ (block_refusing capsLength) (λ s. none_said (caps_with captureFlags s)))

pub ack_cap_refusing : Refusing ack_says ack_cap
unfolding ack_cap
ack_cap_refusing =
    behind Two _ λ capabilitySetType. row (eqb capabilitySetType 0x001E) 5 _ ack_numbers.fixed (
    behind Two _ λ lengthCapability. row (eqb lengthCapability 8) 4 _ ack_numbers.length (
    behind Four _ λ maxUnacknowledgedFrameCount.
    none_said maxUnacknowledgedFrameCount))

pub ack_refusing : Refusing ack_says ack
unfolding ack
ack_refusing =
    behind Two _ λ totalLength. row (eqb totalLength 22) 4 _ ack_numbers.length (
    behind Two _ λ pduType. row (eqb (pduType % 16) 7) 5 _ ack_numbers.fixed (
    behind Two _ λ pduSource.
    behind Four _ λ shareId.
    behind One _ λ pad1.
    behind One _ λ streamId.
    behind Two _ λ uncompressedLength.
    behind One _ λ pduType2. row (eqb pduType2 0x38) 5 _ ack_numbers.fixed (
    behind One _ λ compressedType.
    behind Two _ λ compressedLength.
    behind Four _ λ frameID.
    none_said _)))

-- ---- the whole message

module _ {A : Type 0} (l : Layout A) {Good : A → Type 0} {bytes : A → List ℕ} (both : Both l Good bytes) where
  came : (m : List ℕ) (a : A) → answered (walk l m) ≡ Ok a → walk l m ≡ Came a []
  came m a e = ends Ok refused_by l both a (λ x q. cc) (λ n q. cc) m e

  pub read_cut : (m : List ℕ) (a : A) (n : ℕ) → answered (walk l m) ≡ Ok a → n < length m → answered (walk l (take n m)) ≡ Err Cut
  unfolding ended refusal_of ◌⇒◌∣◌
  read_cut m a n e h = ap answered (walk_cut l m a n (came m a e) h)

  pub read-longer :
      (m : List ℕ) (a : A) (b : ℕ) (more : List ℕ) → Bytes m → answered (walk l m) ≡ Ok a → answered (walk l (m ++ b ∷ more)) ≡ Err Length
  unfolding ended refusal_of ◌⇒◌∣◌
  read-longer m a b more h e =
      let s = read_same Ok refused_by l both a (λ x q. cc) (λ n q. cc) m h e in
      let w : walk l (m ++ b ∷ more) ≡ Came a (b ∷ more) = ap (λ (x : List ℕ). walk l (x ++ b ∷ more)) (sym s.1) ∙ both.back a (b ∷ more) s.0 in
      ap answered w ∙ sym (fails _ _ _ _ (ne_eqb (length (b ∷ more)) 0 (λ z. omega arith)) refl)

pub read_says : {A : Type 0} (l : Layout A) (says : ℕ → Bool) → Says says → ((n : ℕ) → says n ≡ true → (0 < n) × (n ≤ 13)) → Refusing says l →
    (m : List ℕ) (refusal : Refusal) → answered (walk l m) ≡ Err refusal → says (refusal_number refusal) ≡ true
unfolding ended
read_says {A = A} l says y few r m refusal e = go (walk l m) refl e
  where
    the : (n : ℕ) → says n ≡ true → refusal_of n ≡ refusal → says (refusal_number refusal) ≡ true
    the n h o =
        let p = few n h in
        subst (λ (x : ℕ). says x ≡ true) (sym (number_back n p.0 p.1) ∙ ap refusal_number o) h

    go : (x : Walked A) → walk l m ≡ x → answered x ≡ Err refusal → says (refusal_number refusal) ≡ true
    go (Came a rest) f o = more (eqb (length rest) 0) refl
      where
        more : (t : Bool) → eqb (length rest) 0 ≡ t → says (refusal_number refusal) ≡ true
        more true t = let q : Ok a ≡ Err refusal = passes _ _ _ _ t refl ∙ o in cc
        more false t = let q : refused_by 4 ≡ Err refusal = fails _ _ _ _ t refl ∙ o in the 4 y.length cc
    go (Stopped j) f o = the j (walk_says says y l r m j f) cc

-- the same of any answer, of which it is known which it is

pub record Apart {A R : Type 0} (taken : A → R) (refused : ℕ → R) : Type 0 where
  pub same_fields : (x a : A) → taken x ≡ taken a → x ≡ a
  pub same_number : (n k : ℕ) → refused n ≡ refused k → n ≡ k
  pub apart : (n : ℕ) (a : A) → refused n ≡ taken a → ⊥

module _
    {A R : Type 0} (taken : A → R) (refused : ℕ → R) (l : Layout A) {Good : A → Type 0} {bytes : A → List ℕ} (both : Both l Good bytes)
    (k : Apart taken refused)
  where
    came_by : (m : List ℕ) (a : A) → ended taken refused (walk l m) ≡ taken a → walk l m ≡ Came a []
    came_by m a e = ends taken refused l both a (λ x. k.same_fields x a) (λ n. k.apart n a) m e

    pub read_cut_by :
        (m : List ℕ) (a : A) (n : ℕ)
        → ended taken refused (walk l m) ≡ taken a
        → n < length m
        → ended taken refused (walk l (take n m)) ≡ refused 1
    unfolding ended
    read_cut_by m a n e h = ap (ended taken refused) (walk_cut l m a n (came_by m a e) h)

    pub read-longer_by :
        (m : List ℕ) (a : A) (b : ℕ) (more : List ℕ) → Bytes m → ended taken refused (walk l m) ≡ taken a →
        ended taken refused (walk l (m ++ b ∷ more)) ≡ refused 4
    unfolding ended
    read-longer_by m a b more h e =
        let s = read_same taken refused l both a (λ x. k.same_fields x a) (λ n. k.apart n a) m h e in
        let w : walk l (m ++ b ∷ more) ≡ Came a (b ∷ more) = ap (λ (x : List ℕ). walk l (x ++ b ∷ more)) (sym s.1) ∙ both.back a (b ∷ more) s.0 in
        ap (ended taken refused) w ∙ sym (fails _ _ _ _ (ne_eqb (length (b ∷ more)) 0 (λ z. omega arith)) refl)

    pub read_says_by : (says : ℕ → Bool) → Says says → Refusing says l → (m : List ℕ) (n : ℕ) → ended taken refused (walk l m) ≡ refused n → says n ≡ true
    unfolding ended
    read_says_by says y r m n e = go (walk l m) refl e
      where
        go : (x : Walked A) → walk l m ≡ x → ended taken refused x ≡ refused n → says n ≡ true
        go (Came a rest) f o = more (eqb (length rest) 0) refl
          where
            more : (t : Bool) → eqb (length rest) 0 ≡ t → says n ≡ true
            more true t = absurd (k.apart n a (sym o ∙ sym (passes _ _ _ _ t refl)))
            more false t = subst (λ (x : ℕ). says x ≡ true) (k.same_number 4 n (fails _ _ _ _ t refl ∙ o)) y.length
        go (Stopped j) f o = subst (λ (x : ℕ). says x ≡ true) (k.same_number j n o) (walk_says says y l r m j f)
