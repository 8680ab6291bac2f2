-- Laws of the writer's rounding and of LL3's differences.
-- Assumes nothing.
use Rattle.std.specs.Prelude.{◌≡◌, refl, List, ◌++◌, ℕ, zero, suc, ◌+◌, ◌-◌, ◌^◌, ◌≤◌, ◌<◌, ℤ, pos, ◌+ℤ◌, ◌-ℤ◌, length, get_or, take, drop}
use Rattle.std.proofs.Common.{sym, ◌∙◌, ap, subst, zero-le, add-one, arith, pow_mono}
use Rattle.std.proofs.Math.IntN.{+ℤ_idl, +ℤ_idr, +ℤ_comm, -ℤ-+ℤ_cancel}
use Rattle.std.specs.Int.Signed.{shr_z}
use borrow.Rule.Slice.PartMut.{put_mid}
use Rattle.whole.specs.laws.Near.{Near, add_near, near_shr}
use Rattle.whole.specs.Tab.{at, table}
use Rattle.whole.specs.laws.Tab.{AllNear, at_tab, length_tab, is_tab, tab_near}
use Rattle.whole.specs.laws.Part.{part_at}
use Rattle.bands.specs.declared.Band.{Band}
use Rattle.bands.specs.Bands.{band_at, quant_at, ll3, sum_to, QuantGood}
use Rattle.bands.specs.Rounding.{round_z, round_at, diff_at, differences, rounded_by}
use Rattle.bands.specs.laws.Band.{same_band, band_good, quant_high}
use Rattle.bands.specs.laws.Part.{Done, band_done, put_last, seam_length}

-- ---- rounding

pub half_near : (e : ℕ) → e ≤ 15 → Near 8192 (pos (2 ^ (e - 2)))
half_near e h = record { near = pow_mono {i = e - 2} {j = 13} (omega arith) }

pub shr_near : {B : ℕ} {z : ℤ} (m : ℕ) → Near B z → Near B (shr_z z m)
shr_near {z = z} m p = record { near = omega (arith, near_shr z m, p.near) }

pub round_near : (q : List ℕ) (f : ℕ → ℤ) (k : ℕ) → QuantGood q → Near 268435456 (f k) → Near 268443648 (round_at q f k)
round_near q f k g n = shr_near (2 ^ (quant_at q k - 1)) (add_near n (half_near (quant_at q k) (quant_high q k g)))

pub rounded_near : (q : List ℕ) (xs : List ℤ) → QuantGood q → AllNear 268435456 xs → (length (table 4096 (round_at q (at xs))) ≡ 4096)
    × AllNear 268443648 (table 4096 (round_at q (at xs)))
rounded_near q xs g n = (length_tab 4096 _, tab_near 4096 (round_at q (at xs)) (λ k. round_near q (at xs) k g (n.all k)))

-- one band more: a is its first place, e where it ends
module _ (q : List ℕ) (before xs : List ℤ) (a e : ℕ) (half : ℤ) (n : ℕ) (below : a < 4096) (end : e ≡ (band_at a).end) (len : length before ≡ 4096)
    (d : Done (round_at q (at before)) a before xs) (h : half ≡ pos (2 ^ (n - 2))) (w : n ≡ quant_at q a) where
  here : (k : ℕ) → a ≤ k → k < e → shr_z (at before k +ℤ half) (2 ^ (n - 1)) ≡ round_at q (at before) k
  here k l p =
      let b : quant_at q a ≡ quant_at q k = ap (λ (b : Band). get_or q b.set 0) (sym (same_band a k l (subst (λ (m : ℕ). k < m) end p))) in
      ap (λ (z : ℤ). shr_z (at before k +ℤ z) (2 ^ (n - 1))) h ∙ ap (λ (m : ℕ). round_z m (at before k)) (w ∙ b)

  pub round_turn : (ys : List ℤ) → ys ≡ table (length (take (e - a) (drop a xs))) (λ (i : ℕ). shr_z (at (take (e - a) (drop a xs)) i +ℤ half) (2 ^ (n - 1))) →
      Done (round_at q (at before)) e before (put_mid a (e - a) xs ys)
  round_turn ys v =
      let t = band_good a in
      let u = t.behind below in
      band_done (round_at q (at before)) (λ z. shr_z (z +ℤ half) (2 ^ (n - 1))) before xs a e (omega (arith, end)) (omega (arith, end, d.same)) d here ys v

-- ---- differences

-- what stands before place i: nothing before the first
unfoldable pub last_of : (ℕ → ℤ) → ℕ → ℤ
last_of f zero = pos 0
last_of f (suc n) = f n

pub diff_is : (f : ℕ → ℤ) (i : ℕ) → f i -ℤ last_of f i ≡ diff_at f i
unfolding last_of diff_at
diff_is f zero = +ℤ_idr (f zero)
diff_is f (suc n) = refl

pub last_more : (f : ℕ → ℤ) (i : ℕ) → f i ≡ last_of f (i + 1)
unfolding last_of
last_more f i = ap (last_of f) (sym (add-one i))

pub last_near : {B : ℕ} (f : ℕ → ℤ) (i : ℕ) → ((k : ℕ) → Near B (f k)) → Near B (last_of f i)
unfolding last_of
last_near f zero n = record { near = zero-le }
last_near f (suc i) n = n i

diff_cong : (f g : ℕ → ℤ) (i : ℕ) → ((k : ℕ) → k ≤ i → f k ≡ g k) → diff_at f i ≡ diff_at g i
unfolding diff_at
diff_cong f g zero h = h zero (omega arith)
diff_cong f g (suc n) h = let a = h (suc n) (omega arith) in let b = h n (omega arith) in cc

pub differed : (xs ys : List ℤ) → length xs ≡ 4096 → ys ≡ table 64 (diff_at (at (take 64 (drop 4032 xs)))) → put_mid 4032 64 xs ys ≡ differences xs
unfolding differences
differed xs ys l h =
    put_last xs ys l
    ∙ ap (λ (zs : List ℤ). take 4032 xs ++ zs) (is_tab 64 (diff_at (ll3 xs)) ys (ap length h ∙ length_tab 64 _)
    (λ i k. ap (λ (zs : List ℤ). at zs i) h ∙ (at_tab 64 (diff_at (at (take 64 (drop 4032 xs)))) i k
    ∙ diff_cong (at (take 64 (drop 4032 xs))) (ll3 xs) i (λ j m. part_at xs 4032 64 j (omega arith)))))

sum_back : (f : ℕ → ℤ) (i : ℕ) → sum_to (diff_at f) (suc i) ≡ f i
unfolding sum_to diff_at
sum_back f zero = +ℤ_idl (f zero)
sum_back f (suc i) = ap (λ (z : ℤ). z +ℤ (f (suc i) -ℤ f i)) (sum_back f i) ∙ (+ℤ_comm (f i) (f (suc i) -ℤ f i) ∙ -ℤ-+ℤ_cancel (f (suc i)) (f i))

-- sums take differences back
pub sum_diff : (f : ℕ → ℤ) (i : ℕ) → sum_to (diff_at f) (i + 1) ≡ f i
sum_diff f i = ap (sum_to (diff_at f)) (add-one i) ∙ sum_back f i

pub rounded_length : (q : List ℕ) (xs : List ℤ) → length (rounded_by q xs) ≡ 4096
unfolding rounded_by differences
rounded_length q xs =
    seam_length (table 4096 (round_at q (at xs))) (table 64 (diff_at (ll3 (table 4096 (round_at q (at xs)))))) (length_tab 4096 _) (length_tab 64 _)
