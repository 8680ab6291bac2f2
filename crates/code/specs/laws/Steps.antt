-- The running parameters in the forms the code has.
use Rattle.std.specs.Prelude.{Ok, Err}
use Rattle.std.specs.Prelude.{Option, None}
use Rattle.std.specs.Prelude.{ℕ, zero, suc, ◌+◌, ◌*◌, ◌-◌, ◌/◌, ◌^◌, ◌≤◌, ◌<◌, min, ◌≡◌, refl, Bool, true, false, List, drop}
use Rattle.std.proofs.Common.{arith, pow-suc, lt-ltb, le-ltb, le-leb}
use Rattle.std.specs.Int.Count.{count_leading_zeros}
use Rattle.std.proofs.lemmas.Bool.{lt-leb}
use Rattle.bits.specs.Bits.{got, num_of, gr_of}
use Rattle.whole.specs.Row.{◌⇒◌∣◌}
use Rattle.code.specs.Code.{kr_next, kr_after, kp_one, kp_two, raised, size, size_f}
use Rattle.code.specs.ReadList.{state_at, one_elem, two_elem, judge_two, run_elem, run_first, judge_run, elem_of}
use Rattle.code.specs.laws.There.{lone_not}
use Rattle.wire.specs.declared.Refusal.TheVariants.{Cut, Range, Overrun}
use Rattle.code.specs.declared.element.Element.TheVariants.{Zeros, One, Two}

pub kr_none : (krp v : ℕ) → v ≡ 0 → kr_next krp v ≡ krp - 2
unfolding kr_next
kr_none krp v e = rw e

pub kr_one : (krp v : ℕ) → v ≡ 1 → kr_next krp v ≡ krp
unfolding kr_next
kr_one krp v e = rw e

pub kr_more : (krp v : ℕ) → 2 ≤ v → kr_next krp v ≡ min 80 (krp + v)
unfolding kr_next
kr_more krp zero h = absurd (omega arith)
kr_more krp (suc zero) h = absurd (omega arith)
kr_more krp (suc (suc v)) h = refl

pub kr_le : (krp g : ℕ) → krp ≤ 80 → kr_after krp g ≤ 80
unfolding kr_after kr_next
kr_le krp g h = go (g / 2 ^ (krp / 8))
  where
    go : (v : ℕ) → kr_next krp v ≤ 80
    go zero = omega arith
    go (suc zero) = h
    go (suc (suc v)) = omega arith

pub kp_one_le : (kp v : ℕ) → kp ≤ 80 → kp_one kp v ≤ 80
unfolding kp_one
kp_one_le kp zero h = omega arith
kp_one_le kp (suc v) h = omega arith

pub kp_two_le : (kp a b : ℕ) → kp ≤ 80 → kp_two kp a b ≤ 80
unfolding kp_two
kp_two_le kp zero zero h = omega arith
kp_two_le kp zero (suc b) h = h
kp_two_le kp (suc a) zero h = h
kp_two_le kp (suc a) (suc b) h = omega arith

pub kp_zero : (kp v : ℕ) → v ≡ 0 → kp_one kp v ≡ raised 3 kp
unfolding kp_one
kp_zero kp v e = rw e

pub kp_some : (kp v : ℕ) → (v ≡ 0 → ⊥) → kp_one kp v ≡ kp - 3
unfolding kp_one
kp_some kp zero e = absurd (e refl)
kp_some kp (suc v) e = refl

pub kp_00 : (kp a b : ℕ) → a ≡ 0 → b ≡ 0 → kp_two kp a b ≡ raised 6 kp
unfolding kp_two
kp_00 kp a b e f = rw (e, f)

pub kp_01 : (kp a b : ℕ) → a ≡ 0 → (b ≡ 0 → ⊥) → kp_two kp a b ≡ kp
unfolding kp_two
kp_01 kp a zero e f = absurd (f refl)
kp_01 kp a (suc b) e f = rw e

pub kp_10 : (kp a b : ℕ) → (a ≡ 0 → ⊥) → b ≡ 0 → kp_two kp a b ≡ kp
unfolding kp_two
kp_10 kp zero b e f = absurd (e refl)
kp_10 kp (suc a) b e f = rw f

pub kp_11 : (kp a b : ℕ) → (a ≡ 0 → ⊥) → (b ≡ 0 → ⊥) → kp_two kp a b ≡ kp - 6
unfolding kp_two
kp_11 kp zero b e f = absurd (e refl)
kp_11 kp (suc a) zero e f = absurd (f refl)
kp_11 kp (suc a) (suc b) e f = refl

-- ---- an element by what its parts read, in plain variables: one lemma for each return of the code

pub one_cut : (kp krp : ℕ) (n : Option (ℕ × ℕ)) → n ≡ None → one_elem kp krp n ≡ Err Cut
one_cut kp krp n e = rw e

pub one_wide : (kp krp : ℕ) (n : Option (ℕ × ℕ)) (g next : ℕ) → n ≡ got g next → 65534 < g → one_elem kp krp n ≡ Err Range
unfolding ◌⇒◌∣◌
one_wide kp krp n g next e h = rw (e, lt-ltb 65534 g h)

pub one_ok :
    (kp krp : ℕ) (n : Option (ℕ × ℕ)) (g next q r : ℕ) → n ≡ got g next → g ≤ 65534 → q ≡ kp_one kp g → r ≡ kr_after krp g →
    one_elem kp krp n ≡ Ok (One 0 g (state_at next q r))
unfolding ◌⇒◌∣◌
one_ok kp krp n g next q r e h p s = rw (e, le-ltb 65534 g h, p, s)

pub two_cut : (kp krp left : ℕ) (B : List Bool) (n : Option (ℕ × ℕ)) → n ≡ None → two_elem kp krp left B n ≡ Err Cut
two_cut kp krp left B n e = rw e

pub two_cut_low :
    (kp krp left : ℕ) (B : List Bool) (n : Option (ℕ × ℕ)) (g mid k : ℕ) → n ≡ got g mid → k ≡ size g → num_of k 0 mid (drop mid B) ≡ None →
    two_elem kp krp left B n ≡ Err Cut
two_cut_low kp krp left B n g mid k e ek f = rw (e, ← ek, f)

pub two_got :
    (kp krp left : ℕ) (B : List Bool) (n : Option (ℕ × ℕ)) (g mid k a next : ℕ) → n ≡ got g mid → k ≡ size g →
    num_of k 0 mid (drop mid B) ≡ got a next → two_elem kp krp left B n ≡ judge_two kp krp left g a next
two_got kp krp left B n g mid k a next e ek f = rw (e, ← ek, f)

pub judge_above : (kp krp left g a next : ℕ) → g < a → judge_two kp krp left g a next ≡ Err Range
unfolding ◌⇒◌∣◌
judge_above kp krp left g a next h = rw (lt-ltb g a h)

pub judge_first : (kp krp left g a next : ℕ) → a ≤ g → 65534 < a → judge_two kp krp left g a next ≡ Err Range
unfolding ◌⇒◌∣◌
judge_first kp krp left g a next h w = rw (le-ltb g a h, lt-ltb 65534 a w)

pub judge_second : (kp krp left g a next : ℕ) → a ≤ g → a ≤ 65534 → 65534 < g - a → judge_two kp krp left g a next ≡ Err Range
unfolding ◌⇒◌∣◌
judge_second kp krp left g a next h v w = rw (le-ltb g a h, le-ltb 65534 a v, lt-ltb 65534 (g - a) w)

pub judge_lone : (kp krp left g a next : ℕ) → a ≤ g → a ≤ 65534 → g - a ≤ 65534 → left < 2 → 0 < g - a → judge_two kp krp left g a next ≡ Err Overrun
unfolding ◌⇒◌∣◌
judge_lone kp krp left g a next h v w l p = rw (le-ltb g a h, le-ltb 65534 a v, le-ltb 65534 (g - a) w, lt-ltb left 2 l, lt-ltb 0 (g - a) p)

pub judge-pair :
    (kp krp left g a next q r : ℕ) → a ≤ g → a ≤ 65534 → g - a ≤ 65534 → (left < 2 → g - a ≡ 0) → q ≡ kp_two kp a (g - a) → r ≡ kr_after krp g →
    judge_two kp krp left g a next ≡ Ok (Two a (g - a) (state_at next q r))
unfolding ◌⇒◌∣◌
judge-pair kp krp left g a next q r h v w l p s = rw (le-ltb g a h, le-ltb 65534 a v, le-ltb 65534 (g - a) w, lone_not left (g - a) l, p, s)

-- ---- how many bits a number has

size_small : (f g k : ℕ) → g < 2 ^ k → size_f f g ≤ k
unfolding size_f
size_small zero g k h = omega arith
size_small (suc f) zero k h = omega arith
size_small (suc f) (suc g) zero h = absurd (omega arith)
size_small (suc f) (suc g) (suc k) h = let e : 2 ^ suc k ≡ 2 ^ k * 2 = pow-suc 2 k in omega (arith, size_small f (suc g / 2) k (omega arith))

pub size_le : (f g : ℕ) → size_f f g ≤ g
unfolding size_f
size_le zero g = omega arith
size_le (suc f) zero = omega arith
size_le (suc f) (suc g) = omega (arith, size_le f (suc g / 2))

pub size_half : (f x : ℕ) → x ≤ f → 0 < x → (g : ℕ) × (x / 2 ≤ g) × (size_f f x ≡ suc (size_f g (x / 2)))
unfolding size_f
size_half zero x h p = absurd (omega arith)
size_half (suc f) zero h p = absurd (omega arith)
size_half (suc f) (suc x) h p = (f, omega arith, refl)

pub size_end : (f : ℕ) → size_f f 0 ≡ 0
unfolding size_f
size_end zero = refl
size_end (suc f) = refl

-- ---- a run, part by part

module _ (kp krp left : ℕ) (B : List Bool) where
  pub run_cut : (n : Option (ℕ × ℕ)) → n ≡ None → run_elem kp krp left B n ≡ Err Cut
  run_cut n e = rw e

  pub run_full :
      (n : Option (ℕ × ℕ)) (b next w q : ℕ) → n ≡ got b next → b ≡ 0 → w ≡ 2 ^ (kp / 8) → q ≡ raised 4 kp →
      run_elem kp krp left B n ≡ Ok (Zeros w (state_at next q krp))
  run_full n b next w q e z f g = rw (e, z, f, g)

  pub run_some : (n : Option (ℕ × ℕ)) (b next : ℕ) → n ≡ got b next → (b ≡ 0 → ⊥) → run_elem kp krp left B n ≡ run_first kp krp left B
      (num_of (kp / 8) 0 next (drop next B))
  run_some n zero next e z = absurd (z refl)
  run_some n (suc b) next e z = rw e

  pub run1_cut : (n : Option (ℕ × ℕ)) → n ≡ None → run_first kp krp left B n ≡ Err Cut
  run1_cut n e = rw e

  pub run2_cut : (n : Option (ℕ × ℕ)) (z mid : ℕ) → n ≡ got z mid → num_of 1 0 mid (drop mid B) ≡ None → run_first kp krp left B n ≡ Err Cut
  run2_cut n z mid e f = rw (e, f)

  pub run3_cut :
      (n : Option (ℕ × ℕ)) (z mid s late : ℕ) → n ≡ got z mid → num_of 1 0 mid (drop mid B) ≡ got s late → gr_of (krp / 8) late B ≡ None →
      run_first kp krp left B n ≡ Err Cut
  run3_cut n z mid s late e f g = rw (e, f, g)

  pub run3_got :
      (n : Option (ℕ × ℕ)) (z mid s late g next : ℕ) → n ≡ got z mid → num_of 1 0 mid (drop mid B) ≡ got s late → gr_of (krp / 8) late B ≡ got g next →
      run_first kp krp left B n ≡ judge_run kp krp left z s g next
  run3_got n z mid s late g next e f h = rw (e, f, h)

pub run_wide : (kp krp left z s g next : ℕ) → 32766 < g → judge_run kp krp left z s g next ≡ Err Range
unfolding ◌⇒◌∣◌
run_wide kp krp left z s g next h = rw (lt-ltb 32766 g h)

pub run_over : (kp krp left z s g next : ℕ) → g ≤ 32766 → left ≤ z → judge_run kp krp left z s g next ≡ Err Overrun
unfolding ◌⇒◌∣◌
run_over kp krp left z s g next h l = rw (le-ltb 32766 g h, le-leb left z l)

pub run_one :
    (kp krp left z s g next q r : ℕ) → g ≤ 32766 → z < left → q ≡ kp - 6 → r ≡ kr_after krp g →
    judge_run kp krp left z s g next ≡ Ok (One z (2 * (g + 1) - s) (state_at next q r))
unfolding ◌⇒◌∣◌
run_one kp krp left z s g next q r h l p t = rw (le-ltb 32766 g h, lt-leb left z l, p, t)

-- an element by its mode
pub elem_low_two : (kp krp left at : ℕ) (B : List Bool) → kp < 8 → elem_of true kp krp left at B ≡ two_elem kp krp left B (gr_of (krp / 8) at B)
unfolding elem_of
elem_low_two kp krp left at B h = rw (lt-ltb kp 8 h)

pub elem_low_one : (kp krp left at : ℕ) (B : List Bool) → kp < 8 → elem_of false kp krp left at B ≡ one_elem kp krp (gr_of (krp / 8) at B)
unfolding elem_of
elem_low_one kp krp left at B h = rw (lt-ltb kp 8 h)

pub elem_high : (rlgr3 : Bool) (kp krp left at : ℕ) (B : List Bool) → 8 ≤ kp → elem_of rlgr3 kp krp left at B ≡ run_elem kp krp left B
    (num_of 1 0 at (drop at B))
unfolding elem_of
elem_high rlgr3 kp krp left at B h = rw (le-ltb kp 8 h)

pub size_fit : (g k : ℕ) → g < 2 ^ k → size g ≤ k
unfolding size
size_fit g k h = size_small g g k h

-- how many bits a number has, by the leading zeros of a word
size_zeros : (k f g : ℕ) → g ≤ f → g < 2 ^ k → count_leading_zeros k g + size_f f g ≡ k
unfolding count_leading_zeros size_f
size_zeros zero f zero h l = omega (arith, size_end f)
size_zeros zero f (suc g) h l = absurd (omega arith)
size_zeros (suc k) f zero h l = omega (arith, size_end f)
size_zeros (suc k) zero (suc g) h l = absurd (omega arith)
size_zeros (suc k) (suc f) (suc g) h l =
    let e : 2 ^ suc k ≡ 2 ^ k * 2 = pow-suc 2 k in
    omega (arith, size_zeros k f (suc g / 2) (omega arith) (omega arith))

pub size_lead : (g : ℕ) → g < 2 ^ 64 → (count_leading_zeros 64 g ≤ 64) × (64 - count_leading_zeros 64 g ≡ size g)
unfolding size
size_lead g h = let e = size_zeros 64 g g (omega arith) h in (omega (arith, e), omega (arith, e))
