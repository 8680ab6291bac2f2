-- Laws of a pen.
use Rattle.std.specs.Prelude.{ℕ, zero, suc, ◌+◌, ◌*◌, ◌-◌, ◌/◌, ◌%◌, ◌^◌, ◌≤◌, ◌<◌, ◌≡◌, refl, Bool, false, List, [], ◌∷◌, ◌++◌, eqb, replicate, length, take}
use Rattle.std.specs.Prelude.{drop, set}
use Rattle.std.proofs.Common.{sym, ap, ap₂, ◌∙◌, append_assoc, append-nil, arith, add-one, mul_assoc, pow-suc, mod-eq_of_lt, shl_lt, length-append, length-set}
use Rattle.std.proofs.Common.{drop-drop, take-suc-set, drop-set-lt}
use Rattle.std.proofs.Math.Nat.{pow-succ', div-div-eq-div-mul}
use Rattle.bits.specs.laws.Bit.{length_num_bits}
use Rattle.std.proofs.lemmas.List.{replicate-append-replicate}
use Rattle.bits.specs.Bits.{odd, bits_of, num_bits}
use Rattle.bits.specs.Pen.{pen_bits, Put, ReadyWide, PutWide, empty_at, Closed}
use Rattle.bits.specs.declared.Pen.{Pen}

-- a bit more at the low end
pub num_bits_snoc : (k n b : ℕ) → b < 2 → num_bits (suc k) (n * 2 + b) ≡ num_bits k n ++ (odd b ∷ [])
unfolding num_bits
num_bits_snoc zero n b h = let e : (n * 2 + b) / 1 % 2 ≡ b % 2 = omega arith in ap (λ (r : ℕ). eqb r 1 ∷ []) e
num_bits_snoc (suc k) n b h =
    let half : (n * 2 + b) / 2 ≡ n = omega arith in
    let e : (n * 2 + b) / 2 ^ suc k ≡ n / 2 ^ k = rw (pow-succ' 2 k, ← div-div-eq-div-mul (n * 2 + b) 2 (2 ^ k), half) in
    ap₂ (λ (x : ℕ) (l : List Bool). odd x ∷ l) e (num_bits_snoc k n b h)

pub bits_of_append : (a b : List ℕ) → bits_of (a ++ b) ≡ bits_of a ++ bits_of b
unfolding bits_of
bits_of_append [] b = refl
bits_of_append (x ∷ a) b = ap (λ (l : List Bool). num_bits 8 x ++ l) (bits_of_append a b) ∙ sym (append_assoc (num_bits 8 x) (bits_of a) (bits_of b))

pub later : (i j : ℕ) (a b : List ℕ) → i ≤ j → drop i a ≡ drop i b → drop j a ≡ drop j b
later i j a b h e =
    let d : i + (j - i) ≡ j = omega arith in
    rw (← d, ← drop-drop (j - i) i a, ← drop-drop (j - i) i b, e)

-- bits after bits
pub put_more : (a b c : List ℕ) (p q r : Pen) (xs ys : List Bool) → PutWide a p b q xs → PutWide b q c r ys → PutWide a p c r (xs ++ ys)
put_more a b c p q r xs ys f g =
    let l = length-append xs ys in
    record {
      place = omega (arith, f.place, g.place, f.waits, l);
      waits = omega (arith, f.waits, g.waits, l);
      small = g.small;
      long = g.long ∙ f.long;
      rest = g.rest ∙ later q.at r.at b a (omega (arith, g.place)) f.rest;
      bits = g.bits ∙ ap (λ (l : List Bool). l ++ ys) f.bits ∙ append_assoc (pen_bits a p) xs ys;
    }

pub put_none : (a : List ℕ) (p : Pen) → p.n < 32 → p.acc < 2 ^ p.n → PutWide a p a p []
put_none a p h s = record { place = omega arith; waits = omega arith; small = s; long = refl; rest = refl; bits = sym (append-nil (pen_bits a p)) }

-- room for what is still to come
pub ready_after :
    (before after : List ℕ) (p q : Pen) (k m : ℕ) (bs : List Bool) → p.at * 8 + p.n + k ≤ length before * 8 → PutWide before p after q bs →
    length bs + m ≤ k → ReadyWide (length after) q m
ready_after before after p q k m bs h w l =
    record { few = omega (arith, w.waits); small = w.small; room = omega (arith, h, w.place, w.waits, w.long) }

-- what waits is put out: less than a byte waits
pub put_close : (a b c : List ℕ) (p q r : Pen) (bs : List Bool) → PutWide a p b q bs → Put b (empty_at q.at) c r (num_bits q.n q.acc) → Put a p c r bs
unfolding pen_bits num_bits
put_close a b c p q r bs f g =
    let n = length_num_bits q.n q.acc in
    record {
      few = g.few;
      small = g.small;
      place = omega (arith, f.place, f.waits, g.place, n);
      long = g.long ∙ f.long;
      rest = g.rest ∙ later q.at r.at b a (omega (arith, g.place, g.few, n)) f.rest;
      bits = g.bits ∙ ap (λ (l : List Bool). l ++ num_bits q.n q.acc) (append-nil (bits_of (take q.at b))) ∙ f.bits;
    }

-- ---- the last byte

pub num_bits_shift : (j k a : ℕ) → num_bits (k + j) (a * 2 ^ j) ≡ num_bits k a ++ replicate j false
num_bits_shift zero k a =
    let e : k + 0 ≡ k = omega arith in
    let f : a * 1 ≡ a = omega arith in
    rw (e, f) (sym (append-nil (num_bits k a)))
num_bits_shift (suc j) k a =
    let e : k + suc j ≡ suc (k + j) = omega arith in
    let f : a * 2 ^ suc j ≡ a * 2 ^ j * 2 + 0 = rw (pow-suc 2 j, ← mul_assoc a (2 ^ j) 2) (omega arith) in
    let o : j + 1 ≡ suc j = omega arith in
    let g : replicate j false ++ (false ∷ []) ≡ replicate (suc j) false = replicate-append-replicate j 1 false ∙ ap (λ (m : ℕ). replicate m false) o in
    ap₂ (λ (x y : ℕ). num_bits x y) e f ∙ num_bits_snoc (k + j) (a * 2 ^ j) 0 (omega arith) ∙ ap (λ (l : List Bool). l ++ (false ∷ [])) (num_bits_shift j k a)
    ∙ append_assoc (num_bits k a) (replicate j false) (false ∷ []) ∙ ap (λ (l : List Bool). num_bits k a ++ l) g

none : (a : ℕ) → num_bits 0 a ≡ []
unfolding num_bits
none a = refl

pub close_even : (out : List ℕ) (p : Pen) → p.n ≡ 0 → Closed out p out p.at
unfolding pen_bits
close_even out p z =
    record {
      end = omega (arith, z);
      written = record {
        pad = 0;
        few = omega arith;
        bits = sym (append-nil _ ∙ ap (λ (l : List Bool). bits_of (take p.at out) ++ l)
            (ap (λ (k : ℕ). num_bits k p.acc) z ∙ none p.acc) ∙ append-nil (bits_of (take p.at out)));
      };
      long = refl;
      rest = refl;
    }

pub close_byte :
    (out : List ℕ) (p : Pen) (x : ℕ) → x ≡ p.acc * 2 ^ (8 - p.n) → p.n < 8 → (p.n ≡ 0 → ⊥) → p.at < length out →
    Closed out p (set out p.at x) (p.at + 1)
unfolding pen_bits bits_of
close_byte out p x ex h z l =
    let t : take (p.at + 1) (set out p.at x) ≡ take p.at out ++ (x ∷ []) = rw (add-one p.at) (take-suc-set out p.at x l) in
    let e : p.n + (8 - p.n) ≡ 8 = omega arith in
    let w : num_bits 8 x ≡ num_bits p.n p.acc ++ replicate (8 - p.n) false =
    rw ex (ap (λ (m : ℕ). num_bits m (p.acc * 2 ^ (8 - p.n))) (sym e) ∙ num_bits_shift (8 - p.n) p.n p.acc) in
    record {
      end = omega arith;
      written =
          record {
            pad = 8 - p.n;
            few = omega arith;
            bits = ap bits_of t ∙ bits_of_append (take p.at out) (x ∷ []) ∙ ap
                (λ (y : List Bool). bits_of (take p.at out) ++ y) (append-nil (num_bits 8 x) ∙ w) ∙ sym
                (append_assoc (bits_of (take p.at out)) (num_bits p.n p.acc) (replicate (8 - p.n) false));
          };
      long = length-set out p.at x;
      rest = drop-set-lt (p.at + 1) out p.at x (omega arith);
    }

-- the shift loses nothing
pub close_fits : (acc n : ℕ) → n < 8 → acc < 2 ^ n → (n ≡ 0 → ⊥) → acc * 2 ^ (8 - n) % 2 ^ 64 % 256 ≡ acc * 2 ^ (8 - n)
close_fits acc n h a z =
    let e : n + (8 - n) ≡ 8 = omega arith in
    let l : acc * 2 ^ (8 - n) < 2 ^ (n + (8 - n)) = shl_lt n (8 - n) a in
    let m : acc * 2 ^ (8 - n) < 256 = rw e at l in
    let s : acc * 2 ^ (8 - n) % 2 ^ 64 ≡ acc * 2 ^ (8 - n) = mod-eq_of_lt (omega arith) in
    rw s (mod-eq_of_lt m)
