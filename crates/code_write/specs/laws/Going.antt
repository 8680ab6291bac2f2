-- A list whose items are taken one by one, from the state kp = 8, krp = 8 on: what the writing loop and the measuring loop keep.
-- Assumes nothing.
use Rattle.std.specs.Prelude.{ℕ, zero, suc, ◌+◌, ◌*◌, ◌-◌, ◌/◌, ◌^◌, ◌≤◌, ◌<◌, min, ◌≡◌, refl, Bool, true, false, List, [], ◌∷◌, ◌++◌, length, drop, get_or}
use Rattle.std.specs.Prelude.{ltb, leb}
use Rattle.std.proofs.Common.{sym, ap, ◌∙◌, append_assoc, append-nil, arith, leb-false, length-append, length-drop, drop_of_length-le, drop-drop, pow_pos}
use Rattle.std.proofs.Common.{pow_mono}
use Rattle.whole.specs.Row.{◌⇒◌∣◌}
use Rattle.code.specs.Code.{InRange, zeros_of, code_f, code_of, item_of, item_bits, item_used, item_kp, item_krp}
use Rattle.code.specs.laws.There.{range_drop, zeros_next}
use Rattle.code.specs.laws.Steps.{kr_le, kp_one_le, kp_two_le}
use Rattle.code.specs.laws.Code.{code_item}
use Rattle.code_write.specs.laws.Item.{SmallItem, FewZeros, item_few}
use Rattle.code.specs.declared.element.Item.{Item}
use Rattle.code.specs.declared.element.Item.TheVariants.{Full, Run, Single, Twin}

-- an item of a list in range
pub item_good : (rlgr3 : Bool) (kp : ℕ) (l : List ℕ) → length l ≤ 4096 → InRange l → SmallItem (item_of rlgr3 kp l) × FewZeros (item_of rlgr3 kp l)
unfolding item_of
item_good rlgr3 kp l h r = go (ltb kp 8) rlgr3 (leb (min (2 ^ (kp / 8)) (length l)) (zeros_of l)) refl
  where
    it : Bool → Bool → Bool → Item
    it b rlgr3 c = b ⇒ (rlgr3 ⇒ Twin (get_or l 0 0) (get_or l 1 0) ∣ Single (get_or l 0 0)) ∣ c ⇒ Full ∣ Run (zeros_of l) (get_or l (zeros_of l) 0)

    go : (b rlgr3 c : Bool) → leb (min (2 ^ (kp / 8)) (length l)) (zeros_of l) ≡ c → SmallItem (it b rlgr3 c) × FewZeros (it b rlgr3 c)
    go true true c e = ((r 0, r 1), tt)
    go true false c e = (r 0, tt)
    go false rlgr3 true e = (tt, tt)
    go false rlgr3 false e =
        let m : zeros_of l < min (2 ^ (kp / 8)) (length l) = leb-false (min (2 ^ (kp / 8)) (length l)) (zeros_of l) e in
        ((zeros_next l (omega arith), r (zeros_of l)), omega arith)

used_some : (kp : ℕ) (it : Item) → 0 < item_used kp it
unfolding item_used
used_some kp Full = pow_pos (kp / 8)
used_some kp (Run z v) = omega arith
used_some kp (Single v) = omega arith
used_some kp (Twin a b) = omega arith

used_few : (kp : ℕ) (it : Item) → kp ≤ 80 → FewZeros it → item_used kp it ≤ 4097
unfolding item_used
used_few kp Full h f = let p : 2 ^ (kp / 8) ≤ 1024 = pow_mono {j = 10} (omega arith) in omega arith
used_few kp (Run z v) h f = omega arith
used_few kp (Single v) h f = omega arith
used_few kp (Twin a b) h f = omega arith

kps_next : (kp : ℕ) (it : Item) → kp ≤ 80 → item_kp kp it ≤ 80
unfolding item_kp
kps_next kp Full h = omega arith
kps_next kp (Run z v) h = omega arith
kps_next kp (Single v) h = kp_one_le kp v h
kps_next kp (Twin a b) h = kp_two_le kp a b h

krs_next : (krp : ℕ) (it : Item) → krp ≤ 80 → item_krp krp it ≤ 80
unfolding item_krp
krs_next krp Full h = h
krs_next krp (Run z v) h = kr_le krp ((v - 1) / 2) h
krs_next krp (Single v) h = kr_le krp v h
krs_next krp (Twin a b) h = kr_le krp (a + b) h

code_nil : (f : ℕ) (rlgr3 : Bool) (kp krp : ℕ) → code_f f rlgr3 kp krp [] ≡ []
unfolding code_f
code_nil zero rlgr3 kp krp = refl
code_nil (suc f) rlgr3 kp krp = refl

-- a crude bound on the code's length: each item takes a place or more
code_few_f :
    (f : ℕ) (rlgr3 : Bool) (kp krp : ℕ) (l : List ℕ) → kp ≤ 80 → krp ≤ 80 → length l ≤ 4096 → InRange l →
    length (code_f f rlgr3 kp krp l) ≤ length l * 131200
unfolding code_f
code_few_f zero rlgr3 kp krp l hp hr hl r = omega arith
code_few_f (suc f) rlgr3 kp krp [] hp hr hl r = omega arith
code_few_f (suc f) rlgr3 kp krp (x ∷ xs) hp hr hl r =
    let l = x ∷ xs in
    let it = item_of rlgr3 kp l in
    let rest = drop (item_used kp it) l in
    let d = length-drop (item_used kp it) l in
    let s = used_some kp it in
    let more =
    code_few_f f rlgr3 (item_kp kp it) (item_krp krp it) rest (kps_next kp it hp) (krs_next krp it hr) (omega arith) (range_drop (item_used kp it) l r) in
    let one = item_few kp krp it hp hr (item_good rlgr3 kp l hl r).0 in
    let a = length-append (item_bits kp krp it) (code_f f rlgr3 (item_kp kp it) (item_krp krp it) rest) in
    let e = ap length (code_item f rlgr3 kp krp l (omega arith)) in
    omega (arith, d, s, more, one, a, e)

pub code_few : (rlgr3 : Bool) (l : List ℕ) → length l ≤ 4096 → InRange l → length (code_of rlgr3 l) ≤ length l * 131200
unfolding code_of
code_few rlgr3 l h r = code_few_f (length l) rlgr3 8 8 l (omega arith) (omega arith) h r

-- D is the code of what stands before place i, and the code goes on from there with kp and krp
pub record Going (rlgr3 : Bool) (l : List ℕ) (D : List Bool) (i kp krp : ℕ) : Type 0 where
  pub f : ℕ
  pub fuel : length l ≤ i + f
  pub kps : kp ≤ 80
  pub krs : krp ≤ 80
  pub all : D ++ code_f f rlgr3 kp krp (drop i l) ≡ code_of rlgr3 l

pub going_start : (rlgr3 : Bool) (l : List ℕ) → Going rlgr3 l [] 0 8 8
unfolding code_of
going_start rlgr3 l = record { f = length l; fuel = omega arith; kps = omega arith; krs = omega arith; all = refl }

module _ (rlgr3 : Bool) (l : List ℕ) (D : List Bool) (i kp krp : ℕ) (few : length l ≤ 4096) (range : InRange l) (w : Going rlgr3 l D i kp krp)
    (h : i < length l) (it : Item) (e : it ≡ item_of rlgr3 kp (drop i l)) where
  pub going_good : SmallItem it × FewZeros it
  going_good = rw e (item_good rlgr3 kp (drop i l) (omega (arith, length-drop i l)) (range_drop i l range))

  -- the code from here is the item's bits and the rest
  rest :
      (g : ℕ) × (w.f ≡ suc g)
      × (D ++ (item_bits kp krp it ++ code_f g rlgr3 (item_kp kp it) (item_krp krp it) (drop (item_used kp it) (drop i l))) ≡ code_of rlgr3 l)
  rest = go w.f w.fuel w.all
    where
      go :
          (f : ℕ) → length l ≤ i + f → D ++ code_f f rlgr3 kp krp (drop i l) ≡ code_of rlgr3 l →
          (g : ℕ) × (f ≡ suc g)
          × (D ++ (item_bits kp krp it ++ code_f g rlgr3 (item_kp kp it) (item_krp krp it) (drop (item_used kp it) (drop i l))) ≡ code_of rlgr3 l)
      go zero n a = absurd (omega arith)
      go (suc g) n a = (g, refl, rw e (ap (λ (y : List Bool). D ++ y) (sym (code_item g rlgr3 kp krp (drop i l) (omega (arith, length-drop i l)))) ∙ a))

  pub going_fits : length D + length (item_bits kp krp it) ≤ length (code_of rlgr3 l)
  going_fits =
      let r = rest in
      let T = code_f r.0 rlgr3 (item_kp kp it) (item_krp krp it) (drop (item_used kp it) (drop i l)) in
      omega (arith, ap length r.2, length-append D (item_bits kp krp it ++ T), length-append (item_bits kp krp it) T)

  pub going_used : (u : ℕ) → u ≡ item_used kp it → (0 < u) × (u ≤ 4097)
  going_used u eu = rw eu (used_some kp it, used_few kp it w.kps going_good.1)

  pub going_next : (u kq kr : ℕ) → u ≡ item_used kp it → kq ≡ item_kp kp it → kr ≡ item_krp krp it → Going rlgr3 l (D ++ item_bits kp krp it) (i + u) kq kr
  going_next u kq kr eu ep er =
      let r = rest in
      let T = code_f r.0 rlgr3 kq kr (drop (i + u) l) in
      let c : D ++ (item_bits kp krp it ++ T) ≡ code_of rlgr3 l = rw (ep, er, eu, ← drop-drop (item_used kp it) i l) r.2 in
      record {
        f = r.0;
        fuel = omega (arith, w.fuel, r.1, (going_used u eu).0);
        kps = rw ep (kps_next kp it w.kps);
        krs = rw er (krs_next krp it w.krs);
        all = append_assoc D (item_bits kp krp it) T ∙ c;
      }

pub going_end : (rlgr3 : Bool) (l : List ℕ) (D : List Bool) (i kp krp : ℕ) → length l ≤ i → Going rlgr3 l D i kp krp → D ≡ code_of rlgr3 l
going_end rlgr3 l D i kp krp h w =
    let n : drop i l ≡ [] = drop_of_length-le l h in
    sym (append-nil D) ∙ (rw (n, code_nil w.f rlgr3 kp krp) at w.all)
