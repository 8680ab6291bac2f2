-- The code of a list by its first item, and what that item is.
use Rattle.std.specs.Prelude.{ℕ, suc, ◌+◌, ◌-◌, ◌/◌, ◌^◌, ◌≤◌, ◌<◌, min, ◌≡◌, refl, Bool, true, false, List, [], ◌∷◌, ◌++◌, length, drop, get_or}
use Rattle.std.proofs.Common.{sym, ap, ◌∙◌, arith}
use borrow.Author.Tests.{lt-ltb, le-ltb, le-leb, lt-leb}
use Rattle.bits.specs.Bits.{gr_bits}
use Rattle.code.specs.Code.{raised, kr_after, kp_one, kp_two, zeros_of, run_bits, pair_bits, item_of, item_bits, item_used, item_kp, item_krp, code_f}
use Rattle.code.specs.declared.element.Item.{Item}
use Rattle.code.specs.declared.element.Item.TheVariants.{Full, Run, Single, Twin}

-- the code of a list is its first item's bits and the code of the rest
pub code_item :
    (f : ℕ) (rlgr3 : Bool) (kp krp : ℕ) (l : List ℕ) → 0 < length l →
    code_f (suc f) rlgr3 kp krp l ≡ item_bits kp krp (item_of rlgr3 kp l) ++ code_f f rlgr3 (item_kp kp (item_of rlgr3 kp l))
    (item_krp krp (item_of rlgr3 kp l))
    (drop (item_used kp (item_of rlgr3 kp l)) l)
unfolding code_f
code_item f rlgr3 kp krp [] h = absurd (omega arith)
code_item f rlgr3 kp krp (x ∷ xs) h = refl

-- ---- the first item, one law for each case

module _ (rlgr3 : Bool) (kp : ℕ) (l : List ℕ) where
  pub item_full : 8 ≤ kp → min (2 ^ (kp / 8)) (length l) ≤ zeros_of l → item_of rlgr3 kp l ≡ Full
  unfolding item_of
  item_full h z = rw (le-ltb kp 8 h, le-leb (min (2 ^ (kp / 8)) (length l)) (zeros_of l) z)

  pub item_run : 8 ≤ kp → (z v : ℕ) → z ≡ zeros_of l → get_or l z 0 ≡ v → z < 2 ^ (kp / 8) → z < length l → item_of rlgr3 kp l ≡ Run z v
  unfolding item_of
  item_run h z v e g a b = rw (le-ltb kp 8 h, ← e, g, lt-leb (min (2 ^ (kp / 8)) (length l)) z (omega arith))

pub item_twin : (kp : ℕ) (l : List ℕ) (a b : ℕ) → kp < 8 → get_or l 0 0 ≡ a → get_or l 1 0 ≡ b → item_of true kp l ≡ Twin a b
unfolding item_of
item_twin kp l a b h e f = rw (lt-ltb kp 8 h, e, f)

pub item_single : (kp : ℕ) (l : List ℕ) (a : ℕ) → kp < 8 → get_or l 0 0 ≡ a → item_of false kp l ≡ Single a
unfolding item_of
item_single kp l a h e = rw (lt-ltb kp 8 h, e)

-- ---- the code by its first item, one law for each case

code_by :
    (f : ℕ) (rlgr3 : Bool) (kp krp : ℕ) (l : List ℕ) (it : Item) → 0 < length l → item_of rlgr3 kp l ≡ it →
    code_f (suc f) rlgr3 kp krp l ≡ item_bits kp krp it ++ code_f f rlgr3 (item_kp kp it) (item_krp krp it) (drop (item_used kp it) l)
code_by f rlgr3 kp krp l it h e =
    code_item f rlgr3 kp krp l h ∙ ap (λ (i : Item). item_bits kp krp i ++ code_f f rlgr3 (item_kp kp i) (item_krp krp i) (drop (item_used kp i) l)) e

module _ (f : ℕ) (rlgr3 : Bool) (kp krp : ℕ) (h : 8 ≤ kp) where
  pub code_f_full :
      (l : List ℕ) → 0 < length l → min (2 ^ (kp / 8)) (length l) ≤ zeros_of l →
      code_f (suc f) rlgr3 kp krp l ≡ false ∷ code_f f rlgr3 (raised 4 kp) krp (drop (2 ^ (kp / 8)) l)
  unfolding item_bits item_used item_kp item_krp
  code_f_full l p e = code_by f rlgr3 kp krp l Full p (item_full rlgr3 kp l h e)

  pub code_f_rest :
      (l : List ℕ) (z v : ℕ) → zeros_of l ≡ z → get_or l z 0 ≡ v → z < 2 ^ (kp / 8) → z < length l →
      code_f (suc f) rlgr3 kp krp l ≡ run_bits kp krp z v ++ code_f f rlgr3 (kp - 6) (kr_after krp ((v - 1) / 2)) (drop (suc z) l)
  unfolding item_bits item_used item_kp item_krp
  code_f_rest l z v ez ev hz hl = code_by f rlgr3 kp krp l (Run z v) (omega arith) (item_run rlgr3 kp l h z v (sym ez) ev hz hl)

pub code_f_single :
    (f kp krp v : ℕ) (ys : List ℕ) → kp < 8 → code_f (suc f) false kp krp (v ∷ ys) ≡ gr_bits (krp / 8) v ++ code_f f false (kp_one kp v) (kr_after krp v) ys
unfolding item_bits item_used item_kp item_krp
code_f_single f kp krp v ys h = code_by f false kp krp (v ∷ ys) (Single v) (omega arith) (item_single kp (v ∷ ys) v h refl)

pub code_f_twin :
    (f kp krp x : ℕ) (xs : List ℕ) → kp < 8 →
    code_f (suc f) true kp krp (x ∷ xs) ≡ pair_bits krp x (get_or xs 0 0) ++ code_f f true (kp_two kp x (get_or xs 0 0)) (kr_after krp (x + get_or xs 0 0))
    (drop 1 xs)
unfolding item_bits item_used item_kp item_krp
code_f_twin f kp krp x xs h = code_by f true kp krp (x ∷ xs) (Twin x (get_or xs 0 0)) (omega arith) (item_twin kp (x ∷ xs) x (get_or xs 0 0) h refl refl)
