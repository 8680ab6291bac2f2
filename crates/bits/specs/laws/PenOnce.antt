-- "For any input whatever, a public function's promise leaves one possible answer and one possible content of lent memory": for the pen's functions, whose
-- promises are `Put`, `PutWide` and `Closed`.
use Rattle.std.specs.Prelude.{ℕ, zero, suc, ◌+◌, ◌*◌, ◌^◌, ◌≤◌, ◌<◌, ◌≡◌, Bool, List, [], ◌∷◌, ◌++◌, length, take}
use Rattle.std.proofs.Math.Path.{sym, ap, ap₂, subst}
use Rattle.std.proofs.Common.{◌∙◌, arith, length-take, take-append-drop, take_at, drop_at}
use Rattle.std.proofs.Math.ListN.{drop}
use Rattle.bits.specs.Bits.{bits_of, num_bits}
use Rattle.bits.specs.Pen.{pen_bits, Ready, Put, ReadyWide, PutWide, Closed}
use Rattle.bits.specs.laws.Bit.{length_bits_of}
use Rattle.bits.specs.laws.Bytes.{Bytes, num_bits_inj, bits_of_inj, written_once}
use Rattle.bits.specs.declared.Pen.{Pen}

bytes_take : (n : ℕ) (s : List ℕ) → Bytes s → Bytes (take n s)
bytes_take zero s b i = omega arith
bytes_take (suc n) [] b i = omega arith
bytes_take (suc n) (x ∷ s) b zero = b 0
bytes_take (suc n) (x ∷ s) b (suc i) = bytes_take n s (λ k. b (suc k)) i

-- a list is its first n numbers and the rest
two_parts : (n : ℕ) (a b : List ℕ) → take n a ≡ take n b → drop n a ≡ drop n b → a ≡ b
two_parts n a b t d = sym (take-append-drop n a) ∙ ap₂ (λ (x y : List ℕ). x ++ y) t d ∙ take-append-drop n b

pub closed_once : (before : List ℕ) (p : Pen) (a b : List ℕ) (m n : ℕ) → Bytes a → Bytes b → Closed before p a m → Closed before p b n → (m ≡ n) × (a ≡ b)
closed_once before p a b m n ha hb x y =
    let e : m ≡ n = x.end ∙ sym y.end in
    let z : Closed before p a n = subst (λ (k : ℕ). Closed before p a k) e x in
    let t = written_once (take n a) (take n b) (pen_bits before p) (bytes_take n a ha) (bytes_take n b hb) z.written y.written in
    (e, two_parts n a b t (z.rest ∙ sym y.rest))

-- a pen's place and waiting bits in one way: the bits in all are 8 at + n, n below 8
one_place : (a m b n : ℕ) → m < 8 → n < 8 → a * 8 + m ≡ b * 8 + n → (a ≡ b) × (m ≡ n)
one_place a m b n h k e = (omega arith, omega arith)

abbrev pen : ℕ → ℕ → ℕ → Pen
pen x y k = record { at = x; acc = y; n = k }

same_pen : (r q : Pen) → r.at ≡ q.at → r.acc ≡ q.acc → r.n ≡ q.n → r ≡ q
same_pen r q e f g = ap₂ (λ (x y : ℕ). pen x y r.n) e f ∙ ap (pen q.at q.acc) g

-- the bits of whole bytes and then those that wait: each in one way
same_bits : (n k x y : ℕ) (a b : List ℕ) → n ≤ length a → n ≤ length b → Bytes a → Bytes b → x < 2 ^ k → y < 2 ^ k →
    bits_of (take n a) ++ num_bits k x ≡ bits_of (take n b) ++ num_bits k y → (take n a ≡ take n b) × (x ≡ y)
same_bits n k x y a b la lb ha hb hx hy e =
    let long : (s : List ℕ) → n ≤ length s → length (bits_of (take n s)) ≡ 8 * n = λ s l. omega (arith, length_bits_of (take n s), length-take n s, l) in
    let t =
    sym (take_at (bits_of (take n a)) (num_bits k x) (8 * n) (long a la)) ∙ ap (take (8 * n)) e
    ∙ take_at (bits_of (take n b)) (num_bits k y) (8 * n) (long b lb) in
    let d =
    sym (drop_at (bits_of (take n a)) (num_bits k x) (8 * n) (long a la)) ∙ ap (drop (8 * n)) e
    ∙ drop_at (bits_of (take n b)) (num_bits k y) (8 * n) (long b lb) in
    (bits_of_inj (take n a) (take n b) (bytes_take n a ha) (bytes_take n b hb) t, num_bits_inj k x y hx hy d)

-- two pens at one place with as many bits waiting, and the bytes that they left
module _ (before : List ℕ) (p : Pen) (bs : List Bool) (a b : List ℕ) (r q : Pen) (ha : Bytes a) (hb : Bytes b) (at : r.at ≡ q.at) (n : r.n ≡ q.n) where
  same_once : r.at ≤ length a → r.at ≤ length b → r.acc < 2 ^ r.n → q.acc < 2 ^ q.n → drop r.at a ≡ drop r.at before →
      drop q.at b ≡ drop q.at before → pen_bits a r ≡ pen_bits before p ++ bs → pen_bits b q ≡ pen_bits before p ++ bs → (r ≡ q) × (a ≡ b)
  unfolding pen_bits
  same_once la lb sr sq da db ea eb =
      let c : q.acc < 2 ^ r.n = subst (λ (k : ℕ). q.acc < 2 ^ k) (sym n) sq in
      let e : bits_of (take r.at a) ++ num_bits r.n r.acc ≡ bits_of (take r.at b) ++ num_bits r.n q.acc =
      ea ∙ sym eb ∙ ap₂ (λ (m k : ℕ). bits_of (take m b) ++ num_bits k q.acc) (sym at) (sym n) in
      let s = same_bits r.at r.n r.acc q.acc a b la lb ha hb sr c e in
      let d : drop r.at a ≡ drop r.at b = da ∙ ap (λ (m : ℕ). drop m before) at ∙ sym db ∙ ap (λ (m : ℕ). drop m b) (sym at) in
      (same_pen r q at s.1 n, two_parts r.at a b s.0 d)

module _ (before : List ℕ) (p : Pen) (bs : List Bool) (a b : List ℕ) (r q : Pen) (ha : Bytes a) (hb : Bytes b) where
  pub put_once : Ready (length before) p (length bs) → Put before p a r bs → Put before p b q bs → (r ≡ q) × (a ≡ b)
  put_once h x y =
      let o = one_place r.at r.n q.at q.n x.few y.few (x.place ∙ sym y.place) in
      let l : r.at ≤ length before = omega (arith, h.room, x.place) in
      same_once before p bs a b r q ha hb o.0 o.1 (omega (arith, l, x.long)) (omega (arith, l, y.long)) x.small y.small x.rest y.rest
      x.bits y.bits

  pub put_wide_once : ReadyWide (length before) p (length bs) → PutWide before p a r bs → PutWide before p b q bs → (r ≡ q) × (a ≡ b)
  put_wide_once h x y =
      let l : r.at ≤ length before = omega (arith, h.room, x.place) in
      same_once before p bs a b r q ha hb (x.place ∙ sym y.place) (x.waits ∙ sym y.waits) (omega (arith, l, x.long)) (omega (arith, l, y.long))
      x.small y.small x.rest y.rest x.bits y.bits
