-- Read with zeros past the end and judged once is read with each cut told: of numbers, of ones, of a GR number, and of the three kinds of element.
use Rattle.std.specs.Prelude.{None}
use Rattle.std.specs.Prelude.{ℕ, zero, suc, ◌+◌, ◌*◌, ◌-◌, ◌/◌, ◌%◌, ◌^◌, ◌≤◌, ◌<◌, ◌≡◌, refl, Bool, true, List, [], ◌∷◌, ltb, leb, length, drop, get_or}
use Rattle.std.proofs.Common.{sym, ap₂, ◌∙◌, add-one, lt-ltb, le-ltb, drop_of_length-le, drop-cons}
use Rattle.std.proofs.Math.Path.{ap}
use Rattle.std.proofs.Math.Bool.{false}
use native.Mathlib.Omega.{arith}
use Rattle.std.proofs.Math.Decide.{dec_lt}
use Rattle.std.proofs.Math.ListN.{length-drop}
use Rattle.std.proofs.Math.Pow.{high}
use Rattle.whole.specs.Row.{◌⇒◌∣◌}
use Rattle.bits.specs.Bits.{got, val, bits_of, ones_of, num_of, gr_of}
use Rattle.bits.specs.laws.Bit.{length_bits_of, num_more, num_end, val_lt, grow, gr_cut, gr_cut_low, gr_got, gr_small}
use Rattle.bits.specs.laws.Word.{num_short}
use Rattle.code.specs.Code.{kr_after, kp_one, kp_two, raised, size}
use Rattle.code.specs.ReadList.{state_at, wide, no_second_place, one_elem, two_elem, run_first, run_elem}
use Rattle.code.specs.laws.Steps.{run_some, run1_cut, run2_cut, run3_cut, run3_got}
use Rattle.code.specs.declared.element.State.{State}
use Rattle.code.specs.declared.element.Element.TheVariants.{Zeros, One, Two}
use Rattle.plain_code.specs.Zeros.{ones_in, num_in, gr_in, judged_of}

-- ---- ones

ones_whole : (bs : List Bool) (v at : ℕ) → ones_in bs < length bs → ones_of v at bs ≡ got (v + ones_in bs) (at + ones_in bs + 1)
unfolding ones_in ones_of
ones_whole [] v at h = absurd (omega arith)
ones_whole (true ∷ bs) v at h =
    let e : v + 1 + ones_in bs ≡ v + suc (ones_in bs) = omega arith in
    let f : at + 1 + ones_in bs + 1 ≡ at + suc (ones_in bs) + 1 = omega arith in
    rw (← e, ← f) (ones_whole bs (v + 1) (at + 1) (omega arith))
ones_whole (false ∷ bs) v at h =
    let e : v + 0 ≡ v = omega arith in
    let f : at + 0 + 1 ≡ at + 1 = omega arith in
    rw (e, f)

ones_short : (bs : List Bool) (v at : ℕ) → length bs ≤ ones_in bs → ones_of v at bs ≡ None
unfolding ones_in ones_of
ones_short [] v at h = refl
ones_short (true ∷ bs) v at h = ones_short bs (v + 1) (at + 1) (omega arith)
ones_short (false ∷ bs) v at h = absurd (omega arith)

ones_le : (bs : List Bool) → ones_in bs ≤ length bs
unfolding ones_in
ones_le [] = omega arith
ones_le (true ∷ bs) = omega (arith, ones_le bs)
ones_le (false ∷ bs) = omega arith

pub ones_few : (s : List ℕ) (at : ℕ) → length s ≤ 65535 → ones_in (drop at (bits_of s)) ≤ 524280
ones_few s at h = omega (arith, ones_le (drop at (bits_of s)), length-drop at (bits_of s), length_bits_of s)

-- past the end a bit is 0
pub past_end : (L : List Bool) (i : ℕ) → length L ≤ i → get_or L i false ≡ false
past_end [] i h = refl
past_end (b ∷ L) zero h = absurd (omega arith)
past_end (b ∷ L) (suc i) h = past_end L i (omega arith)

-- a bit more, and the end, in the code's forms
pub ones_on : (B : List Bool) (at r : ℕ) → r ≡ val (get_or B at false) → r ≡ 1 → ones_in (drop at B) ≡ suc (ones_in (drop (at + 1) B))
unfolding ones_in
ones_on B at r e o = by (dec_lt at (length B))
  where
    is : (b : Bool) → get_or B at false ≡ b → b ≡ true
    is true f = refl
    is false f = absurd (omega (arith, e ∙ ap val f))

    by : Dec (at < length B) → ones_in (drop at B) ≡ suc (ones_in (drop (at + 1) B))
    by (yes h) = rw (drop-cons B at false h, is (get_or B at false) refl) (ap (λ (j : ℕ). suc (ones_in (drop j B))) (sym (add-one at)))
    by (no h) = absurd (omega (arith, e ∙ ap val (past_end B at (omega arith))))

pub ones_end : (B : List Bool) (at r : ℕ) → r ≡ val (get_or B at false) → (r ≡ 1 → ⊥) → ones_in (drop at B) ≡ 0
unfolding ones_in
ones_end B at r e o = by (dec_lt at (length B))
  where
    is : (b : Bool) → get_or B at false ≡ b → b ≡ false
    is true f = absurd (o (e ∙ ap val f))
    is false f = refl

    by : Dec (at < length B) → ones_in (drop at B) ≡ 0
    by (yes h) = rw (drop-cons B at false h, is (get_or B at false) refl)
    by (no h) = rw (drop_of_length-le B {i = at} (omega arith))

-- ---- numbers

pub num_whole : (k acc at : ℕ) (B : List Bool) → at + k ≤ length B → num_of k acc at (drop at B) ≡ got (num_in k acc at B) (at + k)
unfolding num_in
num_whole zero acc at B h = let e : at + 0 ≡ at = omega arith in rw e (num_end B acc at)
num_whole (suc k) acc at B h =
    let e : at + 1 + k ≡ at + suc k = omega arith in
    num_more B k acc at (omega arith) ∙ rw e at (num_whole k (acc * 2 + val (get_or B at false)) (at + 1) B (omega arith))

num_cut : (k at : ℕ) (B : List Bool) → at ≤ length B → length B < at + k → num_of k 0 at (drop at B) ≡ None
num_cut k at B h l = num_short k 0 at (drop at B) (omega (arith, length-drop at B))

pub num_lt : (k acc at j : ℕ) (B : List Bool) → acc < 2 ^ j → num_in k acc at B < 2 ^ (j + k)
unfolding num_in
num_lt zero acc at j B h = let e : j + 0 ≡ j = omega arith in rw e h
num_lt (suc k) acc at j B h =
    let e : suc j + k ≡ j + suc k = omega arith in
    rw e at (num_lt k (acc * 2 + val (get_or B at false)) (at + 1) (suc j) B (grow j acc (val (get_or B at false)) h (val_lt (get_or B at false))))

-- one step, in the code's forms
pub num_on : (B : List Bool) (from k i n r : ℕ) → i < k → r ≡ val (get_or B (from + i) false) →
    num_in (k - i) n (from + i) B ≡ num_in (k - (i + 1)) (n * 2 + r) (from + (i + 1)) B
unfolding num_in
num_on B from k i n r h e =
    let a : k - i ≡ suc (k - (i + 1)) = omega arith in
    let b : from + i + 1 ≡ from + (i + 1) = omega arith in
    ap (λ (j : ℕ). num_in j n (from + i) B) a ∙ ap₂ (λ (x y : ℕ). num_in (k - (i + 1)) (n * 2 + x) y B) (sym e) b

-- ---- a GR number: whole, or cut

gr_part : (k at : ℕ) (B : List Bool) → num_in k 0 (at + ones_in (drop at B) + 1) B < 2 ^ k
gr_part k at B = let e : 0 + k ≡ k = omega arith in rw e at (num_lt k 0 (at + ones_in (drop at B) + 1) 0 B (omega arith))

pub gr_ones : (k at : ℕ) (B : List Bool) → gr_in k at B / 2 ^ k ≡ ones_in (drop at B)
unfolding gr_in
gr_ones k at B = high (ones_in (drop at B)) k (gr_part k at B)

pub gr_fits : (k at : ℕ) (s : List ℕ) → k ≤ 10 → length s ≤ 65535 →
    (ones_in (drop at (bits_of s)) * 2 ^ k % 2 ^ 64 ≡ ones_in (drop at (bits_of s)) * 2 ^ k) × (gr_in k at (bits_of s) < 2 ^ 31)
unfolding gr_in
gr_fits k at s hk hs = gr_small k _ _ hk (omega (arith, ones_few s at hs)) (gr_part k at (bits_of s))

pub gr_near : (k at : ℕ) (s : List ℕ) → length s ≤ 65535 → gr_in k at (bits_of s) / 2 ^ k ≤ 524280
gr_near k at s h = omega (arith, gr_ones k at (bits_of s), ones_few s at h)

module _ (k at : ℕ) (B : List Bool) (next : ℕ) (e : next ≡ at + gr_in k at B / 2 ^ k + 1 + k) where
  v_is : at + ones_in (drop at B) + 1 + k ≡ next
  v_is = omega (arith, gr_ones k at B)

  pub gr_whole : next ≤ length B → gr_of k at B ≡ got (gr_in k at B) next
  unfolding gr_in
  gr_whole h =
      let o = ones_whole (drop at B) 0 at (omega (arith, v_is, length-drop at B)) in
      let z : 0 + ones_in (drop at B) ≡ ones_in (drop at B) = omega arith in
      rw v_is at (gr_got k at B _ _ _ _ (rw z at o) (num_whole k 0 (at + ones_in (drop at B) + 1) B (omega (arith, v_is))))

  pub gr_short : length B < next → gr_of k at B ≡ None
  gr_short h = by (dec_lt (ones_in (drop at B)) (length (drop at B)))
    where
      by : Dec (ones_in (drop at B) < length (drop at B)) → gr_of k at B ≡ None
      by (yes l) = gr_cut_low k at B _ _ (ones_whole (drop at B) 0 at l)
          (num_cut k (at + ones_in (drop at B) + 1) B (omega (arith, length-drop at B)) (omega (arith, v_is)))
      by (no l) = gr_cut k at B (ones_short (drop at B) 0 at (omega arith))

-- ---- the elements: n bits are there

module _ (kp krp n : ℕ) (B : List Bool) (len : n ≡ length B) where
  pub one_is : (at g next q r : ℕ) (t : State) → g ≡ gr_in (krp / 8) at B → next ≡ at + g / 2 ^ (krp / 8) + 1 + krp / 8 →
      q ≡ kp_one kp g → r ≡ kr_after krp g → t ≡ state_at next q r →
      judged_of (ltb n next) (ltb 65534 g) false (One 0 g t) ≡ one_elem kp krp (gr_of (krp / 8) at B)
  unfolding ◌⇒◌∣◌
  one_is at g next q r t eg en eq er et = by (dec_lt n next)
    where
      f : next ≡ at + gr_in (krp / 8) at B / 2 ^ (krp / 8) + 1 + krp / 8
      f = rw (← eg) en

      by : Dec (n < next) → judged_of (ltb n next) (ltb 65534 g) false (One 0 g t) ≡ one_elem kp krp (gr_of (krp / 8) at B)
      by (yes h) = rw (lt-ltb n next h, gr_short (krp / 8) at B next f (omega arith))
      by (no h) = rw (le-ltb n next (omega arith), gr_whole (krp / 8) at B next f (omega arith), ← eg, et, eq, er)

  pub two_is : (left at g mid k a b next q r : ℕ) (t : State) (x y : Bool) → g ≡ gr_in (krp / 8) at B → mid ≡ at + g / 2 ^ (krp / 8) + 1 + krp / 8 →
      k ≡ size g → next ≡ mid + k → a ≡ num_in (next - mid) 0 mid B → b ≡ g - a → q ≡ kp_two kp a b → r ≡ kr_after krp g → t ≡ state_at next q r →
      x ≡ wide g a → y ≡ no_second_place left b → judged_of (ltb n next) x y (Two a b t) ≡ two_elem kp krp left B (gr_of (krp / 8) at B)
  unfolding ◌⇒◌∣◌
  two_is left at g mid k a b next q r t x y eg em ek en ea eb eq er et ex ey = by (dec_lt n mid) (dec_lt n next)
    where
      f : mid ≡ at + gr_in (krp / 8) at B / 2 ^ (krp / 8) + 1 + krp / 8
      f = rw (← eg) em

      first : a ≡ num_in k 0 mid B
      first = let e : next - mid ≡ k = omega arith in rw e at ea

      by : Dec (n < mid) → Dec (n < next) → judged_of (ltb n next) x y (Two a b t) ≡ two_elem kp krp left B (gr_of (krp / 8) at B)
      by (yes h) d = rw (lt-ltb n next (omega arith), gr_short (krp / 8) at B mid f (omega arith))
      by (no h) (yes l) =
          rw (lt-ltb n next l, gr_whole (krp / 8) at B mid f (omega arith), ← eg, ← ek, num_cut k mid B (omega arith) (omega arith))
      by (no h) (no l) =
          rw (
            le-ltb n next (omega arith),
            gr_whole (krp / 8) at B mid f (omega arith),
            ← eg,
            ← ek,
            num_whole k 0 mid B (omega arith),
            ← first,
            ← en,
            ex,
            ey,
            et,
            eq,
            er,
            eb,
          )

  -- one bit
  bit_is : (at b : ℕ) → b ≡ val (get_or B at false) → at < n → num_of 1 0 at (drop at B) ≡ got b (at + 1)
  unfolding num_in
  bit_is at b e h = let z : num_in 1 0 at B ≡ b = omega (arith, e) in num_whole 1 0 at B (omega arith) ∙ ap (λ (m : ℕ). got m (at + 1)) z

  bit_cut : (at : ℕ) → n ≤ at → num_of 1 0 at (drop at B) ≡ None
  bit_cut at h = num_short 1 0 at (drop at B) (omega (arith, length-drop at B))

  -- a run's zeros, sign and magnitude
  value_is : (left from z s g mid next : ℕ) → from ≤ n → mid ≡ from + kp / 8 → z ≡ num_in (kp / 8) 0 from B → s ≡ val (get_or B mid false) →
      g ≡ gr_in (krp / 8) (mid + 1) B → next ≡ mid + 1 + g / 2 ^ (krp / 8) + 1 + krp / 8 →
      judged_of (ltb n next) (ltb 32766 g) (leb left z) (One z (2 * (g + 1) - s) (state_at next (kp - 6) (kr_after krp g)))
      ≡ run_first kp krp left B (num_of (kp / 8) 0 from (drop from B))
  unfolding ◌⇒◌∣◌
  value_is left from z s g mid next h em ez es eg en = by (dec_lt n mid) (dec_lt n (mid + 1)) (dec_lt n next)
    where
      f : next ≡ mid + 1 + gr_in (krp / 8) (mid + 1) B / 2 ^ (krp / 8) + 1 + krp / 8
      f = rw (← eg) en

      whole : mid ≤ n → num_of (kp / 8) 0 from (drop from B) ≡ got z mid
      whole l = rw (ez, em) (num_whole (kp / 8) 0 from B (omega arith))

      by : Dec (n < mid) → Dec (n < mid + 1) → Dec (n < next) →
          judged_of (ltb n next) (ltb 32766 g) (leb left z) (One z (2 * (g + 1) - s) (state_at next (kp - 6) (kr_after krp g)))
          ≡ run_first kp krp left B (num_of (kp / 8) 0 from (drop from B))
      by (yes l) d e = rw (lt-ltb n next (omega arith)) (sym (run1_cut kp krp left B _ (num_cut (kp / 8) from B (omega arith) (omega arith))))
      by (no l) (yes k) e = rw (lt-ltb n next (omega arith)) (sym (run2_cut kp krp left B _ z mid (whole (omega arith)) (bit_cut mid (omega arith))))
      by (no l) (no k) (yes j) =
          rw (lt-ltb n next j) (sym (run3_cut kp krp left B _ z mid s (mid + 1) (whole (omega arith)) (bit_is mid s es (omega arith))
          (gr_short (krp / 8) (mid + 1) B next f (omega arith))))
      by (no l) (no k) (no j) =
          rw (le-ltb n next (omega arith)) (sym (run3_got kp krp left B _ z mid s (mid + 1) g next (whole (omega arith)) (bit_is mid s es (omega arith))
          (gr_whole (krp / 8) (mid + 1) B next f (omega arith) ∙ ap (λ (x : ℕ). got x next) (sym eg))))

  module _ (left at b : ℕ) (eb : b ≡ val (get_or B at false)) where
    pub zeros_is : (w q : ℕ) (t : State) → b ≡ 0 → w ≡ 2 ^ (kp / 8) → q ≡ raised 4 kp → t ≡ state_at (at + 1) q krp →
        judged_of (ltb n (at + 1)) false false (Zeros w t) ≡ run_elem kp krp left B (num_of 1 0 at (drop at B))
    unfolding ◌⇒◌∣◌
    zeros_is w q t z ew eq et = by (dec_lt n (at + 1))
      where
        by : Dec (n < at + 1) → judged_of (ltb n (at + 1)) false false (Zeros w t) ≡ run_elem kp krp left B (num_of 1 0 at (drop at B))
        by (yes h) = rw (lt-ltb n (at + 1) h, bit_cut at (omega arith))
        by (no h) = rw (le-ltb n (at + 1) (omega arith), bit_is at b eb (omega arith), z, et, ew, eq)

    pub run_is : (z s g next q r : ℕ) (t : State) → (b ≡ 0 → ⊥) → z ≡ num_in (kp / 8) 0 (at + 1) B → s ≡ val (get_or B (at + 1 + kp / 8) false) →
        g ≡ gr_in (krp / 8) (at + 1 + kp / 8 + 1) B → next ≡ at + 1 + kp / 8 + 1 + g / 2 ^ (krp / 8) + 1 + krp / 8 →
        q ≡ kp - 6 → r ≡ kr_after krp g → t ≡ state_at next q r →
        judged_of (ltb n next) (ltb 32766 g) (leb left z) (One z (2 * (g + 1) - s) t) ≡ run_elem kp krp left B (num_of 1 0 at (drop at B))
    run_is z s g next q r t nb ez es eg en eq er et =
        rw (et, eq, er) (value_is left (at + 1) z s g (at + 1 + kp / 8) next (omega (arith, there)) refl ez es eg en)
        ∙ sym (run_some kp krp left B (num_of 1 0 at (drop at B)) b (at + 1) (bit_is at b eb there) nb)
      where
        there : at < n
        there = elim (dec_lt at n) [ yes h ↦ h | no h ↦ absurd (nb (eb ∙ ap val (past_end B at (omega arith)))) ]
