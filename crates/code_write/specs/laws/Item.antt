-- Laws of an item: its choice, its bits by case, and the parameters after it.
-- Assumes nothing.
use Rattle.std.specs.Prelude.{ℕ, zero, suc, ◌+◌, ◌-◌, ◌/◌, ◌%◌, ◌^◌, ◌≤◌, ◌<◌, ◌≡◌, refl, Bool, true, false, List, [], ◌∷◌, ◌++◌, length, drop, get_or, eqb}
use Rattle.std.specs.Prelude.{leb}
use Rattle.std.proofs.Common.{sym, ap, ◌∙◌, append_assoc, arith, div-le_self, add-one, length-drop, length-append, drop-cons, drop-drop, get_or-drop, leb-true}
use Rattle.std.proofs.Common.{le-leb}
use Rattle.std.proofs.Math.Nat.{mod-mod}
use Rattle.std.proofs.lemmas.Bool.{lt-leb}
use Rattle.bits.specs.Bits.{gr_bits, num_bits, odd}
use Rattle.bits.specs.laws.Bit.{length_num_bits}
use Rattle.bits.specs.laws.Gr.{gr_len}
use Rattle.bits.specs.laws.Here.{length_gr_bits}
use Rattle.bits.specs.Pen.{ReadyWide}
use Rattle.bits.specs.declared.Pen.{Pen}
use Rattle.code.specs.Code.{raised, kr_after, kp_one, kp_two, zeros_of, run_bits, pair_bits, size, item_bits, item_used, item_kp, item_krp}
use Rattle.code.specs.laws.Steps.{size_fit}
use Rattle.code.specs.declared.element.Item.{Item}
use Rattle.code.specs.declared.element.Item.TheVariants.{Full, Run, Single, Twin}

-- ---- the zeros, one at a time
pub zeros_more : (l : List ℕ) (j : ℕ) → j < length l → get_or l j 0 ≡ 0 → zeros_of (drop j l) ≡ 1 + zeros_of (drop (j + 1) l)
unfolding zeros_of
zeros_more l j h e = rw (drop-cons l j 0 h, e, add-one j) (omega arith)

pub zeros_stop : (l : List ℕ) (j : ℕ) → j < length l → (get_or l j 0 ≡ 0 → ⊥) → zeros_of (drop j l) ≡ 0
unfolding zeros_of
zeros_stop l j h n = rw (drop-cons l j 0 h) (go (get_or l j 0) n)
  where
    go : (x : ℕ) → (x ≡ 0 → ⊥) → zeros_of (x ∷ drop (suc j) l) ≡ 0
    go zero m = absurd (m refl)
    go (suc x) m = refl

-- no more than there are numbers
zeros_le : (m : List ℕ) → zeros_of m ≤ length m
unfolding zeros_of
zeros_le [] = omega arith
zeros_le (zero ∷ m) = omega (arith, zeros_le m)
zeros_le (suc x ∷ m) = omega arith

pub zeros_most : (l : List ℕ) (j : ℕ) → zeros_of (drop j l) ≤ length l - j
zeros_most l j = omega (arith, zeros_le (drop j l), length-drop j l)

-- k of them at once
zeros_all : (k : ℕ) (m : List ℕ) → k ≤ zeros_of m → zeros_of m ≡ k + zeros_of (drop k m)
unfolding zeros_of
zeros_all zero m h = omega arith
zeros_all (suc k) [] h = absurd (omega arith)
zeros_all (suc k) (zero ∷ m) h = omega (arith, zeros_all k m (omega arith))
zeros_all (suc k) (suc x ∷ m) h = absurd (omega arith)

-- from place i up to place j stand only zeros
pub record Zeros (l : List ℕ) (i j : ℕ) : Type 0 where
  pub up : i ≤ j
  pub zeros : j - i + zeros_of (drop j l) ≡ zeros_of (drop i l)

pub zeros_here : (l : List ℕ) (i : ℕ) → Zeros l i i
zeros_here l i = record { up = omega arith; zeros = omega arith }

-- one more, and four more
pub zeros_one : (l : List ℕ) (i j k : ℕ) → k ≡ j + 1 → j < length l → get_or l j 0 ≡ 0 → Zeros l i j → Zeros l i k
zeros_one l i j k q h e w = rw q (record { up = omega (arith, w.up); zeros = omega (arith, w.up, w.zeros, zeros_more l j h e) })

pub zeros_four : (l : List ℕ) (i j : ℕ) → true ≡ leb 4 (zeros_of (drop j l)) → Zeros l i j → Zeros l i (j + 4)
zeros_four l i j h w =
    let m = zeros_all 4 (drop j l) (leb-true 4 (zeros_of (drop j l)) (sym h)) in
    record { up = omega (arith, w.up); zeros = omega (arith, w.up, w.zeros, rw (drop-drop 4 j l) at m) }

-- four are there, or not
pub four_all : (l : List ℕ) (i j : ℕ) → j ≡ i + 4 → Zeros l i j → true ≡ leb 4 (zeros_of (drop i l))
four_all l i j q w = sym (le-leb 4 (zeros_of (drop i l)) (omega (arith, w.zeros)))

pub four_not : (l : List ℕ) (i j : ℕ) → j < i + 4 → j < length l → (get_or l j 0 ≡ 0 → ⊥) → Zeros l i j → false ≡ leb 4 (zeros_of (drop i l))
four_not l i j q h n w = sym (lt-leb 4 (zeros_of (drop i l)) (omega (arith, w.up, w.zeros, zeros_stop l j h n)))

-- values in range, and a run's value not 0
abbrev pub SmallItem : Item → Type 0
SmallItem Full = Unit {0}
SmallItem (Run z v) = (0 < v) × (v ≤ 65534)
SmallItem (Single v) = v ≤ 65534
SmallItem (Twin a b) = (a ≤ 65534) × (b ≤ 65534)

-- what stands k past place i
pub at_drop : (l : List ℕ) (i k j : ℕ) → i + k ≡ j → get_or (drop i l) k 0 ≡ get_or l j 0
at_drop l i k j e = get_or-drop i l k 0 ∙ ap (λ (x : ℕ). get_or l x 0) e

-- ---- a run's bits, part by part
pub run_length : (kp krp z v : ℕ) → length (run_bits kp krp z v) ≡ 1 + kp / 8 + 1 + gr_len (krp / 8) ((v - 1) / 2)
unfolding run_bits
run_length kp krp z v =
    omega
    (arith, length-append (num_bits (kp / 8) z) (odd v ∷ gr_bits (krp / 8) ((v - 1) / 2)), length_num_bits (kp / 8) z, length_gr_bits (krp / 8) ((v - 1) / 2))

pub run_parts : (kp krp z v : ℕ) → (((odd 1 ∷ []) ++ num_bits (kp / 8) z) ++ (odd (v % 2) ∷ [])) ++ gr_bits (krp / 8) ((v - 1) / 2) ≡ run_bits kp krp z v
unfolding run_bits
run_parts kp krp z v =
    let o : odd (v % 2) ≡ odd v = ap (λ (r : ℕ). eqb r 1) (mod-mod v 2) in
    ap (λ (l : List Bool). true ∷ l)
    (append_assoc (num_bits (kp / 8) z) (odd (v % 2) ∷ []) (gr_bits (krp / 8) ((v - 1) / 2))
    ∙ ap (λ (b : Bool). num_bits (kp / 8) z ++ (b ∷ gr_bits (krp / 8) ((v - 1) / 2))) o)

pub pair_length : (krp a b : ℕ) → length (pair_bits krp a b) ≡ gr_len (krp / 8) (a + b) + size (a + b)
unfolding pair_bits
pair_length krp a b =
    omega (arith, length-append (gr_bits (krp / 8) (a + b)) (num_bits (size (a + b)) a), length_num_bits (size (a + b)) a, length_gr_bits (krp / 8) (a + b))

pub pair_parts : (krp a b n : ℕ) → n ≡ size (a + b) → gr_bits (krp / 8) (a + b) ++ num_bits n a ≡ pair_bits krp a b
unfolding pair_bits
pair_parts krp a b n e = rw e

-- ---- an item by its case
module _ (kp krp : ℕ) (it : Item) where
  pub is-full : it ≡ Full → item_bits kp krp it ≡ odd 0 ∷ []
  unfolding item_bits
  is-full e = rw e

  pub is_single : (v : ℕ) → it ≡ Single v → item_bits kp krp it ≡ gr_bits (krp / 8) v
  unfolding item_bits
  is_single v e = rw e

  pub is_twin : (a b : ℕ) → it ≡ Twin a b → item_bits kp krp it ≡ pair_bits krp a b
  unfolding item_bits
  is_twin a b e = rw e

  pub is_run : (z v : ℕ) → it ≡ Run z v → item_bits kp krp it ≡ run_bits kp krp z v
  unfolding item_bits
  is_run z v e = rw e

pub small_twin : (it : Item) (a b : ℕ) → it ≡ Twin a b → SmallItem it → (a ≤ 65534) × (b ≤ 65534)
small_twin it a b e s = rw e at s

pub small_run : (it : Item) (z v : ℕ) → it ≡ Run z v → SmallItem it → (0 < v) × (v ≤ 65534)
small_run it z v e s = rw e at s

pub ready_less : (size : ℕ) (p : Pen) (k m : ℕ) → ReadyWide size p k → m ≤ k → ReadyWide size p m
ready_less size p k m r h = record { few = r.few; small = r.small; room = omega (arith, r.room) }

pub item_ready : (size : ℕ) (p : Pen) (bs cs : List Bool) (m : ℕ) → ReadyWide size p (length bs) → bs ≡ cs → length cs ≡ m → ReadyWide size p m
item_ready size p bs cs m r e l = ready_less size p (length bs) m r (omega (arith, ap length e, l))

-- a run of no more zeros than a list has
abbrev pub FewZeros : Item → Type 0
FewZeros Full = Unit {0}
FewZeros (Run z v) = z ≤ 4096
FewZeros (Single v) = Unit {0}
FewZeros (Twin a b) = Unit {0}

-- ---- the parameters after an item, by its case
module _ (k : ℕ) (it : Item) where
  pub used_full : it ≡ Full → item_used k it ≡ 2 ^ (k / 8)
  unfolding item_used
  used_full e = rw e

  pub used_single : (v : ℕ) → it ≡ Single v → item_used k it ≡ 1
  unfolding item_used
  used_single v e = rw e

  pub used_twin : (a b : ℕ) → it ≡ Twin a b → item_used k it ≡ 2
  unfolding item_used
  used_twin a b e = rw e

  pub used_run : (z v : ℕ) → it ≡ Run z v → item_used k it ≡ suc z
  unfolding item_used
  used_run z v e = rw e

  pub kp_full : it ≡ Full → item_kp k it ≡ raised 4 k
  unfolding item_kp
  kp_full e = rw e

  pub kp_single : (v : ℕ) → it ≡ Single v → item_kp k it ≡ kp_one k v
  unfolding item_kp
  kp_single v e = rw e

  pub kp_twin : (a b : ℕ) → it ≡ Twin a b → item_kp k it ≡ kp_two k a b
  unfolding item_kp
  kp_twin a b e = rw e

  pub kp_run : (z v : ℕ) → it ≡ Run z v → item_kp k it ≡ k - 6
  unfolding item_kp
  kp_run z v e = rw e

  pub kr_full : it ≡ Full → item_krp k it ≡ k
  unfolding item_krp
  kr_full e = rw e

  pub kr_single : (v : ℕ) → it ≡ Single v → item_krp k it ≡ kr_after k v
  unfolding item_krp
  kr_single v e = rw e

  pub kr_twin : (a b : ℕ) → it ≡ Twin a b → item_krp k it ≡ kr_after k (a + b)
  unfolding item_krp
  kr_twin a b e = rw e

  pub kr_run : (z v : ℕ) → it ≡ Run z v → item_krp k it ≡ kr_after k ((v - 1) / 2)
  unfolding item_krp
  kr_run z v e = rw e

pub few_run : (it : Item) (z v : ℕ) → it ≡ Run z v → FewZeros it → z ≤ 4096
few_run it z v e s = rw e at s

-- ---- how many bits an item has, by its case
module _ (kp krp : ℕ) (it : Item) where
  pub size_full : it ≡ Full → length (item_bits kp krp it) ≡ 1
  size_full e = ap length (is-full kp krp it e)

  pub size_single : (v : ℕ) → it ≡ Single v → length (item_bits kp krp it) ≡ gr_len (krp / 8) v
  size_single v e = ap length (is_single kp krp it v e) ∙ length_gr_bits (krp / 8) v

  pub size_twin : (a b : ℕ) → it ≡ Twin a b → length (item_bits kp krp it) ≡ gr_len (krp / 8) (a + b) + size (a + b)
  size_twin a b e = ap length (is_twin kp krp it a b e) ∙ pair_length krp a b

  pub size_run : (z v : ℕ) → it ≡ Run z v → length (item_bits kp krp it) ≡ 1 + kp / 8 + 1 + gr_len (krp / 8) ((v - 1) / 2)
  size_run z v e = ap length (is_run kp krp it z v e) ∙ run_length kp krp z v

pub small_single : (it : Item) (v : ℕ) → it ≡ Single v → SmallItem it → v ≤ 65534
small_single it v e s = rw e at s

-- crude bounds, which fit any machine word
pub gr_few : (krp n : ℕ) → krp ≤ 80 → gr_len (krp / 8) n ≤ n + 11
gr_few krp n h = omega (arith, div-le_self n (2 ^ (krp / 8)))

pub pair_few : (a b : ℕ) → a ≤ 65534 → b ≤ 65534 → size (a + b) ≤ 17
pair_few a b ha hb = size_fit (a + b) 17 (omega arith)

-- no item of numbers in range has more bits than this
pub item_few : (kp krp : ℕ) (it : Item) → kp ≤ 80 → krp ≤ 80 → SmallItem it → length (item_bits kp krp it) ≤ 131200
item_few kp krp Full hp hr s = omega (arith, size_full kp krp Full refl)
item_few kp krp (Run z v) hp hr s = omega (arith, size_run kp krp (Run z v) z v refl, gr_few krp ((v - 1) / 2) hr, s.1)
item_few kp krp (Single v) hp hr s = omega (arith, size_single kp krp (Single v) v refl, gr_few krp v hr)
item_few kp krp (Twin a b) hp hr s = omega (arith, size_twin kp krp (Twin a b) a b refl, gr_few krp (a + b) hr, pair_few a b s.0 s.1, s.0, s.1)
