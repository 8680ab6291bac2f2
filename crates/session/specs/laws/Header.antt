-- What holds of a record that calls could have made, of one that is ready, and of a header message in which nothing is wrong.
-- (01 is this project's scope document, 02 its change requests, 001 is MS-RDPRFX: README, "What 01 is".)
use Rattle.std.specs.Prelude.{ℕ, ◌*◌, ◌%◌, ◌≤◌, ◌<◌, ◌≡◌, refl, Bool, true, false, ◌⊎◌, List, length, leb, eqb, Ok, Err}
use Rattle.std.proofs.Common.{sym, ◌∙◌, true≢false, arith, mul_comm, mul-le-mul_right, leb-true, le-leb, eqb-true, le-ltb, eq-eqb, ne_eqb}
use Rattle.std.proofs.lemmas.Bool.{lt-leb, eqb-false}
use Rattle.whole.specs.Row.{◌!◌⨾◌, ◌⇒◌∣◌}
use Rattle.wire.specs.Le.{le16, le32}
use Rattle.wire.specs.Mode.{is_mode}
use Rattle.wire.specs.Refusal.{refusal_of, number_of}
use Rattle.wire.specs.laws.Mode.{mode_is}
use Rattle.wire.specs.laws.Refusal.{number_back}
use Rattle.whole.specs.laws.Among.{each, among_most}
use Rattle.whole.specs.laws.Row.{held, both, passes, case_yes, case_no, case_is, case_not}
use Rattle.session.specs.declared.Session.{Session}
use Rattle.session.specs.Header.{tiles_over, record_of, of_glass, stepped, Right, right, size_good, counted, made, ready, due, kept_glass}
use Rattle.session.specs.Header.{size_of, head_judge, header_fault, channels_judge, channels_fault, field_fault, record_after, header_reading}
use Rattle.session.specs.laws.Numbers.{header_among}

-- ---- tiles over pixels

-- a tile starts in the channel exactly if its number is below that of the tiles over it
pub starts_in : (n x : ℕ) → x < tiles_over n → 64 * x < n
unfolding tiles_over
starts_in n x l = omega arith

pub starts_out : (n x : ℕ) → tiles_over n ≤ x → n ≤ 64 * x
unfolding tiles_over
starts_out n x l = omega arith

pub in_starts : (n x : ℕ) → 64 * x < n → x < tiles_over n
unfolding tiles_over
in_starts n x l = omega arith

-- no more than 64 over a width that 01 allows
byte_holds : (n : ℕ) → n ≤ 4096 → tiles_over n % 256 ≡ tiles_over n
unfolding tiles_over
byte_holds n l = omega arith

-- width x height of two bytes each fits four
pub area_fits : (w h : ℕ) → w < 65536 → h < 65536 → w * h < 4294967296
area_fits w h a b = let l : w * h ≤ 65535 * h = mul-le-mul_right h (omega arith) in omega arith

-- ---- the bytes of each type

pub size0 : (t : ℕ) → t ≡ 0xCCC0 → size_of t ≡ 12
unfolding size_of ◌⇒◌∣◌
size0 t e = rw e

pub size1 : (t : ℕ) → t ≡ 0xCCC1 → size_of t ≡ 10
unfolding size_of ◌⇒◌∣◌
size1 t e = rw e

pub size2 : (t : ℕ) → t ≡ 0xCCC2 → size_of t ≡ 12
unfolding size_of ◌⇒◌∣◌
size2 t e = rw e

pub size3 : (t : ℕ) → t ≡ 0xCCC3 → size_of t ≡ 13
unfolding size_of ◌⇒◌∣◌
size3 t e = rw e

-- a head in which nothing is wrong
pub record HeadGood (s : Session) (t size len : ℕ) : Type 0 where
  pub least : 0xCCC0 ≤ t
  pub known : t ≤ 0xCCC3
  pub is-due : due s t ≡ true
  pub sized : size ≡ size_of t
  pub there : size ≤ len

pub head_good : (s : Session) (t size len : ℕ) → 0 ≡ head_judge s t size len → HeadGood s t size len
unfolding head_judge
head_good s t size len e =
    let a = held _ _ _ _ (λ q. omega arith) e in
    let b = held _ _ _ _ (λ q. omega arith) a.1 in
    let c = held _ _ _ _ (λ q. omega arith) b.1 in
    let d = held _ _ _ _ (λ q. omega arith) c.1 in
    let f = held _ _ _ _ (λ q. omega arith) d.1 in
    record { least = leb-true _ _ a.0; known = leb-true _ _ b.0; is-due = c.0; sized = eqb-true _ _ d.0; there = leb-true _ _ f.0 }

-- a header message in which nothing is wrong
pub record Good (s : Session) (m : List ℕ) : Type 0 where
  pub some : 6 ≤ length m
  pub head : HeadGood s (le16 m 0) (le32 m 2) (length m)
  pub fields : 0 ≡ field_fault m (le16 m 0)

pub good : (s : Session) (m : List ℕ) → 0 ≡ header_fault s m → Good s m
unfolding header_fault
good s m e =
    let a = held _ _ _ _ (λ q. omega arith) e in
    let b = both _ _ a.1 in
    let c = both _ _ b.1 in
    record { some = leb-true _ _ a.0; head = head_good _ _ _ _ b.0; fields = c.0 }

-- a size that 01 allows
pub record Sized (w h : ℕ) : Type 0 where
  pub some_w : 1 ≤ w
  pub most_w : w ≤ 4096
  pub some_h : 1 ≤ h
  pub most_h : h ≤ 2048

pub sized : (w h : ℕ) → size_good w h ≡ true → Sized w h
unfolding size_good
sized w h e =
    let a = held _ _ _ _ true≢false (sym e) in
    let b = held _ _ _ _ true≢false a.1 in
    let c = held _ _ _ _ true≢false b.1 in
    record { some_w = leb-true 1 w a.0; most_w = leb-true w 4096 b.0; some_h = leb-true 1 h c.0; most_h = leb-true h 2048 (sym c.1) }

-- a size and a mode that 01 allows
pub record Allowed (w h et : ℕ) : Type 0 where
  pub some_w : 1 ≤ w
  pub most_w : w ≤ 4096
  pub some_h : 1 ≤ h
  pub most_h : h ≤ 2048
  pub mode : (et ≡ 1) ⊎ (et ≡ 4)

pub allowed : (w h mode : ℕ) → size_good w h ≡ true → is_mode mode ≡ true → Allowed w h mode
allowed w h mode e f =
    let s = sized w h e in
    record { some_w = s.some_w; most_w = s.most_w; some_h = s.some_h; most_h = s.most_h; mode = mode_is mode f }

-- ---- records that calls could have made

pub right_is : (s : Session) → right s ≡ true → Right s
unfolding right
right_is s e =
    let a = held _ _ _ _ true≢false (sym e) in
    let b = held _ _ _ _ true≢false a.1 in
    record { columns = eqb-true _ _ a.0; rows = eqb-true _ _ b.0; words = eqb-true _ _ (sym b.1) }

pub right_at : (g n w h et : ℕ) → Right (record_of g n w h et)
right_at g n w h et = record { columns = refl; rows = refl; words = refl }

at_right : (g n w h et : ℕ) → right (record_of g n w h et) ≡ true
unfolding right
at_right g n w h et = sym (passes _ _ _ _ (eq-eqb (tiles_over w) _ refl) (passes _ _ _ _ (eq-eqb (tiles_over h) _ refl) (sym (eq-eqb (w * h) _ refl))))

-- what such a record has
pub record Made (s : Session) : Type 0 where
  pub glass : s.glass ≤ 1
  pub right : Right s
  pub counted : counted s.headers s.width s.height s.mode ≡ true

pub made_good : (s : Session) → made s ≡ true → Made s
unfolding made
made_good s e =
    let a = held _ _ _ _ true≢false (sym e) in
    let b = held _ _ _ _ true≢false a.1 in
    record { glass = leb-true _ _ a.0; right = right_is s b.0; counted = sym b.1 }

-- the glass after a sync: one that a session was opened with is kept, and every other is one of these two then
pub kept-glass : (g : ℕ) → g ≤ 1 → kept_glass g ≡ g
unfolding kept_glass ◌⇒◌∣◌
kept-glass g l = rw (le-leb g 1 l)

pub other_glass : (g : ℕ) → 1 < g → kept_glass g ≡ 0
unfolding kept_glass ◌⇒◌∣◌
other_glass g l = rw (lt-leb g 1 l)

kept_by : (g : ℕ) (b : Bool) → leb g 1 ≡ b → kept_glass g ≤ 1
unfolding kept_glass ◌⇒◌∣◌
kept_by g true e = rw e (leb-true g 1 e)
kept_by g false e = rw e (omega arith)

pub glass_kept : (g : ℕ) → kept_glass g ≤ 1
glass_kept g = kept_by g _ refl

-- a record of 01's four numbers, on either glass, is judged by these alone
pub made_at : (g n w h et : ℕ) → g ≤ 1 → counted n w h et ≡ true → made (record_of g n w h et) ≡ true
unfolding made
made_at g n w h et l e = sym (passes _ _ _ _ (le-leb g 1 l) (passes _ _ _ _ (at_right g n w h et) (sym e)))

-- such records, by the headers that are in
pub made_1 : (g : ℕ) → g ≤ 1 → made (record_of g 1 0 0 0) ≡ true
unfolding counted ◌!◌⨾◌ ◌⇒◌∣◌
made_1 g l = made_at g 1 0 0 0 l refl

pub made_2 : (g : ℕ) → g ≤ 1 → made (record_of g 2 0 0 0) ≡ true
unfolding counted ◌!◌⨾◌ ◌⇒◌∣◌
made_2 g l = made_at g 2 0 0 0 l refl

pub made_3 : (g w h : ℕ) → g ≤ 1 → size_good w h ≡ true → made (record_of g 3 w h 0) ≡ true
unfolding counted ◌!◌⨾◌ ◌⇒◌∣◌
made_3 g w h l k = made_at g 3 w h 0 l (rw k)

pub ready_at : (g w h et : ℕ) → g ≤ 1 → size_good w h ≡ true → is_mode et ≡ true → ready (record_of g 4 w h et) ≡ true
unfolding ready counted ◌!◌⨾◌ ◌⇒◌∣◌
ready_at g w h et l k m = made_at g 4 w h et l (rw (k, m))

-- a record of given numbers whose size 01 allows
pub numbers_at : (g n w h et : ℕ) → w ≤ 4096 → h ≤ 4096 → of_glass g n w h et ≡ record_of g n w h et
unfolding of_glass
numbers_at g n w h et a b = rw (byte_holds w a, byte_holds h b)

-- a made record, with other headers and another mode
pub stepped_at : (s : Session) (n et : ℕ) → Made s → stepped s n et ≡ record_of s.glass n s.width s.height et
unfolding stepped
stepped_at s n et m = rw (m.right.columns, m.right.rows, m.right.words)

-- a header that is due, but a sync, is so only to a record that calls could have made
pub due_made : (s : Session) (t : ℕ) → (t ≡ 0xCCC0 → ⊥) → due s t ≡ true → Made s
unfolding due
due_made s t n e =
    let a = case_not _ _ _ _ (ne_eqb t 0xCCC0 n) (sym e) in
    made_good s (held _ _ _ _ true≢false a).0

-- a record with all four headers in
pub record Ready (s : Session) : Type 0 where
  pub headers : s.headers ≡ 4
  pub glass : s.glass ≤ 1
  pub allowed : Allowed s.width s.height s.mode
  pub right : Right s

counted_four : (headers w h mode : ℕ) → headers ≡ 4 → counted headers w h mode ≡ true → (size_good w h ≡ true) × (is_mode mode ≡ true)
unfolding counted
counted_four headers w h mode q e =
    let a = case_not _ _ _ _ (le-ltb headers 3 (omega arith)) (sym e) in
    let b = held _ _ _ _ true≢false a in
    let c = case_not _ _ _ _ (ne_eqb headers 3 (λ z. omega arith)) b.1 in
    (b.0, sym (held _ _ _ _ true≢false c).1)

pub ready_good : (s : Session) → ready s ≡ true → Ready s
unfolding ready
ready_good s e =
    let a = held _ _ _ _ true≢false (sym e) in
    let q = eqb-true s.headers 4 a.0 in
    let m = made_good s (sym a.1) in
    let b = counted_four _ _ _ _ q m.counted in
    record { headers = q; glass = m.glass; allowed = allowed _ _ _ b.0 b.1; right = m.right }

-- the picture's words, in 01's order of the product
pub right_words : (s : Session) → Right s → s.words ≡ s.height * s.width
right_words s r = r.words ∙ mul_comm s.width s.height

-- the size that good channels give
pub channels_size : (m : List ℕ) → le16 m 0 ≡ 0xCCC2 → 0 ≡ field_fault m (le16 m 0) → size_good (le16 m 8) (le16 m 10) ≡ true
unfolding field_fault channels_fault channels_judge
channels_size m t e =
    let n = case_not _ _ _ _ (ne_eqb (le16 m 0) 0xCCC0 (λ x. omega (arith, t, x))) e in
    let f = case_is _ _ _ _ (eq-eqb (le16 m 0) 0xCCC2 t) (case_not _ _ _ _ (ne_eqb (le16 m 0) 0xCCC1 (λ x. omega (arith, t, x))) n) in
    let a = held _ _ _ _ (λ q. omega arith) f in
    let b = held _ _ _ _ (λ q. omega arith) a.1 in
    (held _ _ _ _ (λ q. omega arith) b.1).0

-- ---- the answer, by the first fault

pub header_taken : (s : Session) (m : List ℕ) → header_fault s m ≡ 0 → header_reading s m ≡ Ok (record_after s m)
unfolding header_reading
header_taken s m e = sym (case_yes _ _ _ _ (eq-eqb (header_fault s m) 0 e) refl)

pub header_refused : (s : Session) (m : List ℕ) → (header_fault s m ≡ 0 → ⊥) → header_reading s m ≡ Err (refusal_of (header_fault s m))
unfolding header_reading
header_refused s m h = sym (case_no _ _ _ _ (ne_eqb (header_fault s m) 0 h) refl)

-- the number is the first fault's
number_by : (s : Session) (m : List ℕ) (b : Bool) → eqb (header_fault s m) 0 ≡ b → number_of (header_reading s m) ≡ header_fault s m
unfolding each
number_by s m true e = let z = eqb-true (header_fault s m) 0 e in rw (header_taken s m z) (sym z)
number_by s m false e =
    let z = eqb-false (header_fault s m) 0 e in
    rw (header_refused s m z) (number_back (header_fault s m) (omega (arith, z)) (among_most 13 (header_among s m) refl))

pub reading-number : (s : Session) (m : List ℕ) → number_of (header_reading s m) ≡ header_fault s m
reading-number s m = number_by s m _ refl
