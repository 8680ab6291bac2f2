-- The code of a list and one value more, beside the code of the list: item by item the same, up to the last one. So whatever holds of the last items and is
-- kept by bits in front of both holds of the two codes (`behind`): a zero behind a list puts only zero bits behind its code (`zero_behind`), and a value
-- behind it makes no code shorter (`one_behind`).
use Rattle.std.specs.Prelude.{ℕ, zero, suc, ◌+◌, ◌-◌, ◌/◌, ◌^◌, ◌≤◌, ◌<◌, min, ◌≡◌, refl, Bool, true, false, List, [], ◌∷◌, ◌++◌, ltb, leb, length, drop}
use Rattle.std.specs.Prelude.{get_or, replicate}
use Rattle.std.proofs.Common.{sym, ap, ap₂, ◌∙◌, append-nil, append_assoc, arith, div-lt_iff_lt-mul, lt-suc_self, lt_of_le_of_lt, le_of_suc-le-suc, ltb-true}
use Rattle.std.proofs.Common.{ltb-false, leb-true, leb-false, pow_pos, length-append, length-drop, drop_of_length-le}
use Rattle.std.proofs.Math.Nat.{zero-div}
use Rattle.std.proofs.lemmas.List.{drop-append-le}
use Rattle.std.proofs.Math.Seq.{get_or-append_seam}
use Rattle.bits.specs.Bits.{gr_bits, num_bits, odd}
use Rattle.code.specs.Code.{raised, kr_after, kp_one, kp_two, size, size_f, zeros_of, run_bits, pair_bits, code_f, code_of}
use Rattle.code.specs.laws.Code.{code_f_full, code_f_rest, code_f_single, code_f_twin}
use Rattle.code_write.specs.laws.Item.{pair_length}

-- ---- the front of a list with a value behind it

zeros_most : (l : List ℕ) → zeros_of l ≤ length l
unfolding zeros_of
zeros_most [] = omega arith
zeros_most (zero ∷ xs) = omega (arith, zeros_most xs)
zeros_most (suc x ∷ xs) = omega arith

zeros_more : (l r : List ℕ) → zeros_of l ≤ zeros_of (l ++ r)
unfolding zeros_of
zeros_more [] r = omega arith
zeros_more (zero ∷ xs) r = omega (arith, zeros_more xs r)
zeros_more (suc x ∷ xs) r = omega arith

zeros_stop : (l r : List ℕ) → zeros_of l < length l → zeros_of (l ++ r) ≡ zeros_of l
unfolding zeros_of
zeros_stop [] r h = absurd (omega arith)
zeros_stop (zero ∷ xs) r h = ap suc (zeros_stop xs r (omega arith))
zeros_stop (suc x ∷ xs) r h = refl

zeros_on : (l r : List ℕ) → zeros_of l ≡ length l → zeros_of (l ++ r) ≡ length l + zeros_of r
unfolding zeros_of
zeros_on [] r h = omega arith
zeros_on (zero ∷ xs) r h = omega (arith, zeros_on xs r (omega arith))
zeros_on (suc x ∷ xs) r h = absurd (omega arith)

front_same : (l r : List ℕ) (i : ℕ) → i < length l → get_or (l ++ r) i 0 ≡ get_or l i 0
front_same [] r i h = absurd (omega arith)
front_same (x ∷ xs) r zero h = refl
front_same (x ∷ xs) r (suc i) h = front_same xs r i (omega arith)

code_none : (f : ℕ) (rlgr3 : Bool) (kp krp : ℕ) → code_f f rlgr3 kp krp [] ≡ []
unfolding code_f
code_none zero rlgr3 kp krp = refl
code_none (suc f) rlgr3 kp krp = refl

-- ---- what holds of the last items holds of the codes

-- of the code of a list and of that of the list with v behind it: bits in front of both keep it; it holds where nothing is left, where one value of a pair
-- is, and where a full run passes the zeros that are left
pub record Kept (v : ℕ) (rlgr3 : Bool) (P : List Bool → List Bool → Type 0) : Type 0 where
  pub front : (H A B : List Bool) → P A B → P (H ++ A) (H ++ B)
  pub none : (g kp krp : ℕ) → P [] (code_f (suc g) rlgr3 kp krp (v ∷ []))
  pub half : (krp x : ℕ) → P (pair_bits krp x 0) (pair_bits krp x v)
  pub zeros :
      (g kp krp : ℕ) (ys : List ℕ) → 8 ≤ kp → 0 < length ys → zeros_of ys ≡ length ys → length ys < 2 ^ (kp / 8) →
      P (false ∷ []) (code_f (suc g) rlgr3 kp krp (ys ++ (v ∷ [])))

abbrev Beside : ℕ → Bool → (List Bool → List Bool → Type 0) → ℕ → ℕ → Type 0
Beside v rlgr3 P f g =
    (kp krp : ℕ) (ys : List ℕ) → length ys ≤ f → length ys < g → P (code_f f rlgr3 kp krp ys) (code_f g rlgr3 kp krp (ys ++ (v ∷ [])))

module _ (v : ℕ) (P : List Bool → List Bool → Type 0) (f g kp krp x : ℕ) (xs : List ℕ) (h : length xs ≤ f) (l : length xs < g) where
  low_one :
      kp < 8 → Kept v false P → Beside v false P f g → P (code_f (suc f) false kp krp (x ∷ xs)) (code_f (suc g) false kp krp (x ∷ xs ++ (v ∷ [])))
  low_one k p ih =
      rw (code_f_single f kp krp x xs k, code_f_single g kp krp x (xs ++ (v ∷ [])) k)
      (p.front (gr_bits (krp / 8) x) _ _ (ih (kp_one kp x) (kr_after krp x) xs h l))

  low_two :
      kp < 8 → Kept v true P → Beside v true P f g → P (code_f (suc f) true kp krp (x ∷ xs)) (code_f (suc g) true kp krp (x ∷ xs ++ (v ∷ [])))
  low_two k p ih =
      rw (code_f_twin f kp krp x xs k, code_f_twin g kp krp x (xs ++ (v ∷ [])) k) (go xs h l)
    where
      go :
          (ys : List ℕ) → length ys ≤ f → length ys < g →
          P (pair_bits krp x (get_or ys 0 0) ++ code_f f true (kp_two kp x (get_or ys 0 0)) (kr_after krp (x + get_or ys 0 0)) (drop 1 ys))
          (pair_bits krp x (get_or (ys ++ (v ∷ [])) 0 0)
          ++ code_f g true (kp_two kp x (get_or (ys ++ (v ∷ [])) 0 0)) (kr_after krp (x + get_or (ys ++ (v ∷ [])) 0 0)) (drop 1 (ys ++ (v ∷ []))))
      go [] a b =
          rw (
            code_none f true (kp_two kp x 0) (kr_after krp (x + 0)),
            code_none g true (kp_two kp x v) (kr_after krp (x + v)),
            append-nil (pair_bits krp x 0),
            append-nil (pair_bits krp x v),
          ) (p.half krp x)
      go (y ∷ ys) a b = p.front (pair_bits krp x y) _ _ (ih (kp_two kp x y) (kr_after krp (x + y)) ys (omega arith) (omega arith))

  module _ (rlgr3 : Bool) (k : 8 ≤ kp) (p : Kept v rlgr3 P) (ih : Beside v rlgr3 P f g) where
    abbrev n : ℕ
    n = 2 ^ (kp / 8)

    abbrev z : ℕ
    z = zeros_of (x ∷ xs)

    -- a full run: it ends in the list, or passes its end
    high_full : min n (length (x ∷ xs)) ≤ z → P (code_f (suc f) rlgr3 kp krp (x ∷ xs)) (code_f (suc g) rlgr3 kp krp (x ∷ xs ++ (v ∷ [])))
    high_full m = elim (native.Mathlib.Decide.dec_le n (length (x ∷ xs))) [
      | yes a ↦ inside a
      | no a ↦ past (omega arith)
    ]
      where
        inside : n ≤ length (x ∷ xs) → P (code_f (suc f) rlgr3 kp krp (x ∷ xs)) (code_f (suc g) rlgr3 kp krp (x ∷ xs ++ (v ∷ [])))
        inside a =
            let b : min n (length (x ∷ xs ++ (v ∷ []))) ≤ zeros_of (x ∷ xs ++ (v ∷ [])) =
            omega (arith, zeros_more (x ∷ xs) (v ∷ []), length-append (x ∷ xs) (v ∷ [])) in
            rw (
              code_f_full f rlgr3 kp krp k (x ∷ xs) (omega arith) m,
              code_f_full g rlgr3 kp krp k (x ∷ xs ++ (v ∷ [])) (omega arith) b,
              drop-append-le n (x ∷ xs) (v ∷ []) a,
            )
            (p.front (false ∷ []) _ _ (ih (raised 4 kp) krp (drop n (x ∷ xs)) (omega (arith, length-drop n (x ∷ xs), pow_pos (kp / 8)))
            (omega (arith, length-drop n (x ∷ xs), pow_pos (kp / 8)))))

        past : length (x ∷ xs) < n → P (code_f (suc f) rlgr3 kp krp (x ∷ xs)) (code_f (suc g) rlgr3 kp krp (x ∷ xs ++ (v ∷ [])))
        past a =
            rw (code_f_full f rlgr3 kp krp k (x ∷ xs) (omega arith) m, drop_of_length-le (x ∷ xs) {i = n} (omega arith), code_none f rlgr3 (raised 4 kp) krp)
            (p.zeros g kp krp (x ∷ xs) k (omega arith) (omega (arith, zeros_most (x ∷ xs))) a)

    high_run : z < min n (length (x ∷ xs)) → P (code_f (suc f) rlgr3 kp krp (x ∷ xs)) (code_f (suc g) rlgr3 kp krp (x ∷ xs ++ (v ∷ [])))
    high_run m =
        let w = get_or (x ∷ xs) z 0 in
        let s : zeros_of (x ∷ xs ++ (v ∷ [])) ≡ z = zeros_stop (x ∷ xs) (v ∷ []) (omega arith) in
        let t : get_or (x ∷ xs ++ (v ∷ [])) z 0 ≡ w = front_same (x ∷ xs) (v ∷ []) z (omega arith) in
        rw (
          code_f_rest f rlgr3 kp krp k (x ∷ xs) z w refl refl (omega arith) (omega arith),
          code_f_rest g rlgr3 kp krp k (x ∷ xs ++ (v ∷ [])) z w s t (omega arith) (omega (arith, length-append (x ∷ xs) (v ∷ []))),
          drop-append-le (suc z) (x ∷ xs) (v ∷ []) (omega arith),
        )
        (p.front (run_bits kp krp z w) _ _ (ih (kp - 6) (kr_after krp ((w - 1) / 2)) (drop (suc z) (x ∷ xs))
        (omega (arith, length-drop (suc z) (x ∷ xs))) (omega (arith, length-drop (suc z) (x ∷ xs)))))

    high : P (code_f (suc f) rlgr3 kp krp (x ∷ xs)) (code_f (suc g) rlgr3 kp krp (x ∷ xs ++ (v ∷ [])))
    high = go (leb (min n (length (x ∷ xs))) z) refl
      where
        go : (b : Bool) → leb (min n (length (x ∷ xs))) z ≡ b → P (code_f (suc f) rlgr3 kp krp (x ∷ xs)) (code_f (suc g) rlgr3 kp krp (x ∷ xs ++ (v ∷ [])))
        go true e = high_full (leb-true (min n (length (x ∷ xs))) z e)
        go false e = high_run (leb-false (min n (length (x ∷ xs))) z e)

  step : (rlgr3 : Bool) → Kept v rlgr3 P → Beside v rlgr3 P f g → P (code_f (suc f) rlgr3 kp krp (x ∷ xs)) (code_f (suc g) rlgr3 kp krp (x ∷ xs ++ (v ∷ [])))
  step rlgr3 p ih = go (ltb kp 8) refl rlgr3 p ih
    where
      go :
          (b : Bool) → ltb kp 8 ≡ b → (r : Bool) → Kept v r P → Beside v r P f g →
          P (code_f (suc f) r kp krp (x ∷ xs)) (code_f (suc g) r kp krp (x ∷ xs ++ (v ∷ [])))
      go true e true q i = low_two (ltb-true kp 8 e) q i
      go true e false q i = low_one (ltb-true kp 8 e) q i
      go false e r q i = high r (ltb-false kp 8 e) q i

pub behind :
    (v : ℕ) (rlgr3 : Bool) (P : List Bool → List Bool → Type 0) → Kept v rlgr3 P → (f g kp krp : ℕ) (ys : List ℕ) → length ys ≤ f → length ys < g →
    P (code_f f rlgr3 kp krp ys) (code_f g rlgr3 kp krp (ys ++ (v ∷ [])))
unfolding code_f
behind v rlgr3 P p f zero kp krp ys h l = absurd (omega arith)
behind v rlgr3 P p zero (suc g) kp krp [] h l = p.none g kp krp
behind v rlgr3 P p (suc f) (suc g) kp krp [] h l = p.none g kp krp
behind v rlgr3 P p zero (suc g) kp krp (x ∷ xs) h l = absurd (omega arith)
behind v rlgr3 P p (suc f) (suc g) kp krp (x ∷ xs) h l =
    step v P f g kp krp x xs (omega arith) (omega arith) rlgr3 p (λ kp' krp' ys a b. behind v rlgr3 P p f g kp' krp' ys a b)

-- ---- a zero behind a list

-- a full run that passes the zeros that are left, and the one behind them
full_past :
    (rlgr3 : Bool) (g kp krp : ℕ) (ys : List ℕ) → 8 ≤ kp → zeros_of ys ≡ length ys → length ys < 2 ^ (kp / 8) →
    code_f (suc g) rlgr3 kp krp (ys ++ (0 ∷ [])) ≡ false ∷ []
unfolding zeros_of
full_past rlgr3 g kp krp ys k z h =
    let n = 2 ^ (kp / 8) in
    let l = length-append ys (0 ∷ []) in
    let a : zeros_of (ys ++ (0 ∷ [])) ≡ length ys + 1 = zeros_on ys (0 ∷ []) z in
    code_f_full g rlgr3 kp krp k (ys ++ (0 ∷ [])) (omega arith) (omega arith)
    ∙ rw (drop_of_length-le (ys ++ (0 ∷ [])) {i = n} (omega arith), code_none g rlgr3 (raised 4 kp) krp)

abbrev Zeroed : List Bool → List Bool → Type 0
Zeroed A B = (m : ℕ) × (B ≡ A ++ replicate m false)

num_zero : (k : ℕ) → num_bits k 0 ≡ replicate k false
unfolding num_bits
num_zero zero = refl
num_zero (suc k) = ap₂ (λ (b : Bool) (t : List Bool). b ∷ t) (ap odd (zero-div (2 ^ k))) (num_zero k)

gr_zero : (k : ℕ) → gr_bits k 0 ≡ replicate (suc k) false
unfolding gr_bits
gr_zero k = ap₂ (λ (m : ℕ) (t : List Bool). replicate m true ++ (false ∷ t)) (zero-div (2 ^ k)) (num_zero k)

pair_zero : (krp : ℕ) → pair_bits krp 0 0 ≡ replicate (suc (krp / 8)) false
unfolding pair_bits size size_f num_bits
pair_zero krp = append-nil (gr_bits (krp / 8) 0) ∙ gr_zero (krp / 8)

none_zero : (rlgr3 : Bool) (g kp krp : ℕ) → Zeroed [] (code_f (suc g) rlgr3 kp krp (0 ∷ []))
unfolding zeros_of
none_zero rlgr3 g kp krp = go (ltb kp 8) refl rlgr3
  where
    go : (b : Bool) → ltb kp 8 ≡ b → (r : Bool) → Zeroed [] (code_f (suc g) r kp krp (0 ∷ []))
    go true e true =
        let k = ltb-true kp 8 e in
        (suc (krp / 8), code_f_twin g kp krp 0 [] k ∙ rw (code_none g true (kp_two kp 0 0) (kr_after krp 0)) (append-nil (pair_bits krp 0 0) ∙ pair_zero krp))
    go true e false =
        let k = ltb-true kp 8 e in (
          suc (krp / 8),
          code_f_single g kp krp 0 [] k ∙ rw (code_none g false (kp_one kp 0) (kr_after krp 0))
              (append-nil (gr_bits (krp / 8) 0) ∙ gr_zero (krp / 8)),
        )
    go false e r = (1, full_past r g kp krp [] (ltb-false kp 8 e) refl (pow_pos (kp / 8)))

zero_kept : (rlgr3 : Bool) → Kept 0 rlgr3 Zeroed
zero_kept rlgr3 = record {
  front = λ H A B p. (p.0, ap (λ (t : List Bool). H ++ t) p.1 ∙ sym (append_assoc H A (replicate p.0 false)));
  none = none_zero rlgr3;
  half = λ krp x. (0, sym (append-nil (pair_bits krp x 0)));
  zeros = λ g kp krp ys k o z h. (0, full_past rlgr3 g kp krp ys k z h);
}

-- the code of a list with a zero behind it is the code of the list, and zero bits
pub zero_behind : (rlgr3 : Bool) (ys : List ℕ) → (m : ℕ) × (code_of rlgr3 (ys ++ (0 ∷ [])) ≡ code_of rlgr3 ys ++ replicate m false)
unfolding code_of
zero_behind rlgr3 ys =
    behind 0 rlgr3 Zeroed (zero_kept rlgr3) (length ys) (length (ys ++ (0 ∷ []))) 8 8 ys (omega arith) (omega (arith, length-append ys (0 ∷ [])))

-- ---- a value behind a list

div_up : (n a c : ℕ) → 0 < n → a ≤ c → a / n ≤ c / n
div_up n a c p h = le_of_suc-le-suc ((div-lt_iff_lt-mul p).1 (lt_of_le_of_lt h ((div-lt_iff_lt-mul p).0 (lt-suc_self (c / n)))))

size_f_up : (f f' g h : ℕ) → g ≤ h → h ≤ f' → size_f f g ≤ size_f f' h
unfolding size_f
size_f_up zero f' g h a b = omega arith
size_f_up (suc f) f' zero h a b = omega arith
size_f_up (suc f) zero (suc g) h a b = absurd (omega arith)
size_f_up (suc f) (suc f') (suc g) zero a b = absurd (omega arith)
size_f_up (suc f) (suc f') (suc g) (suc h) a b =
    let i : size_f f (suc g / 2) ≤ size_f f' (suc h / 2) = size_f_up f f' (suc g / 2) (suc h / 2) (omega arith) (omega arith) in
    omega arith

size_up : (g h : ℕ) → g ≤ h → size g ≤ size h
unfolding size
size_up g h l = size_f_up g h g h l (omega arith)

pair_shorter : (krp a b : ℕ) → length (pair_bits krp a 0) ≤ length (pair_bits krp a b)
pair_shorter krp a b =
    omega (
      arith,
      pair_length krp a 0,
      pair_length krp a b,
      div_up (2 ^ (krp / 8)) (a + 0) (a + b) (pow_pos (krp / 8)) (omega arith),
      size_up (a + 0) (a + b) (omega arith),
    )

abbrev Shorter : List Bool → List Bool → Type 0
Shorter A B = length A ≤ length B

some_bits : (rlgr3 : Bool) (g kp krp : ℕ) (ys : List ℕ) → 8 ≤ kp → zeros_of ys ≡ length ys → length ys < 2 ^ (kp / 8) →
    1 ≤ length (code_f (suc g) rlgr3 kp krp (ys ++ (1 ∷ [])))
unfolding run_bits zeros_of
some_bits rlgr3 g kp krp ys k z h =
    let a : zeros_of (ys ++ (1 ∷ [])) ≡ length ys = zeros_on ys (1 ∷ []) z ∙ omega arith in
    let b : get_or (ys ++ (1 ∷ [])) (length ys) 0 ≡ 1 = get_or-append_seam ys 1 [] 0 in
    rw (code_f_rest g rlgr3 kp krp k (ys ++ (1 ∷ [])) (length ys) 1 a b h (omega (arith, length-append ys (1 ∷ [])))) (omega arith)

one_kept : (rlgr3 : Bool) → Kept 1 rlgr3 Shorter
one_kept rlgr3 = record {
  front = λ H A B p. omega (arith, length-append H A, length-append H B);
  none = λ g kp krp. omega arith;
  half = λ krp x. pair_shorter krp x 1;
  zeros = λ g kp krp ys k o z h. some_bits rlgr3 g kp krp ys k z h;
}

-- the code of a list with the folded -1 behind it is no shorter than the code of the list
pub one_behind : (rlgr3 : Bool) (ys : List ℕ) → length (code_of rlgr3 ys) ≤ length (code_of rlgr3 (ys ++ (1 ∷ [])))
unfolding code_of
one_behind rlgr3 ys =
    behind 1 rlgr3 Shorter (one_kept rlgr3) (length ys) (length (ys ++ (1 ∷ []))) 8 8 ys (omega arith) (omega (arith, length-append ys (1 ∷ [])))
