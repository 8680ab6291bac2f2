-- The steps of the walks over a head's bytes.
use Rattle.std.specs.Prelude.{◌≡◌, ℕ, suc, ◌+◌, ◌-◌, ◌*◌, ◌<◌, ◌≤◌, Bool, true, false, List, length, ⊤, Some, None, Result, Ok, Err, is_ok, nat_lt}
use Rattle.std.proofs.Math.Path.{refl}
use Rattle.std.proofs.Common.{ap, sym, ◌∙◌, true≢false, arith, mul-le-mul, ltb-true, leb-true}
use Rattle.wire.specs.Le.{byte_at}
use Rattle.whole.specs.Row.{◌!◌⨾◌}
use Rattle.whole.specs.laws.Row.{fails, passes, held}
use Rattle.app_pictures.specs.declared.ppm.Figure.{Figure}
use Rattle.app_pictures.specs.declared.ppm.Head.{Head}
use Rattle.app_pictures.specs.declared.ppm.Unfit.{Unfit}
use Rattle.app_pictures.specs.declared.ppm.Unfit.TheVariants.{Kind, Unread, Largest, Size, Pixels, Few, Many}
use Rattle.app_pictures.specs.declared.ppm.Skipped.{Skipped}
use Rattle.app_pictures.specs.Ppm.{unfit_number, is_digit, more_of, figure, digits_from, figure_at, after_of, skip_from, skip_at, field_of, field_at}
use Rattle.app_pictures.specs.Ppm.{then_by, is_p6, blank_at, closed_of, head_of, size_fault, bytes_fault, sized_of, picture_of}

-- no fault's number is 0
pub unfit_pos : (why : Unfit) → unfit_number why ≡ 0 → ⊥
unfit_pos Kind e = absurd (omega (arith, e))
unfit_pos Unread e = absurd (omega (arith, e))
unfit_pos Largest e = absurd (omega (arith, e))
unfit_pos Size e = absurd (omega (arith, e))
unfit_pos Pixels e = absurd (omega (arith, e))
unfit_pos Few e = absurd (omega (arith, e))
unfit_pos Many e = absurd (omega (arith, e))

left : (n at : ℕ) → at < n → n - at ≡ suc (n - (at + 1))
left n at l = omega arith

-- no digit: the number ends
pub digits_end : (m : List ℕ) (v at : ℕ) → at < length m → is_digit (byte_at m at) ≡ false → figure v at ≡ digits_from m (length m - at) v at
unfolding digits_from
digits_end m v at l e = rw (left (length m) at l) (fails _ _ _ _ e refl)

-- a digit: one more
pub digits_on :
    (m : List ℕ) (v at w d : ℕ)
    → at < length m
    → is_digit (byte_at m at) ≡ true
    → w ≡ more_of v d
    → d ≡ byte_at m at - 48
    → digits_from m (length m - at) v at ≡ digits_from m (length m - (at + 1)) w (at + 1)
unfolding digits_from
digits_on m v at w d l e f g =
    rw (left (length m) at l)
    (sym (passes _ _ _ _ e (ap (λ (x : ℕ). digits_from m (length m - (at + 1)) x (at + 1)) (f ∙ ap (λ (y : ℕ). more_of v y) g))))

pub digits_none : (m : List ℕ) (v at : ℕ) → length m ≤ at → figure v at ≡ digits_from m (length m - at) v at
unfolding digits_from
digits_none m v at l = let z : length m - at ≡ 0 = omega arith in rw z

pub skip_end : (m : List ℕ) (s : Skipped) (at : ℕ) → at < length m → None ≡ after_of s (byte_at m at) → at ≡ skip_from m (length m - at) s at
unfolding skip_from
skip_end m s at l e = rw (left (length m) at l, sym e) refl

pub skip_on :
    (m : List ℕ) (s t : Skipped) (at : ℕ)
    → at < length m
    → Some t ≡ after_of s (byte_at m at)
    → skip_from m (length m - at) s at ≡ skip_from m (length m - (at + 1)) t (at + 1)
unfolding skip_from
skip_on m s t at l e = rw (left (length m) at l, sym e) refl

pub skip_none : (m : List ℕ) (s : Skipped) (at : ℕ) → length m ≤ at → at ≡ skip_from m (length m - at) s at
unfolding skip_from
skip_none m s at l = let z : length m - at ≡ 0 = omega arith in rw z

-- a blank stands within the bytes
pub blank_in : (m : List ℕ) (at : ℕ) (r : Bool) → r ≡ blank_at m at → r ≡ true → at < length m
unfolding blank_at
blank_in m at r e t = ltb-true _ _ (held _ _ _ r (λ q. true≢false (sym t ∙ q)) e).0

pub field_is :
    (m : List ℕ) (from start : ℕ) (f : Figure) (r : Result Figure Unfit)
    → start ≡ skip_at m from
    → f ≡ figure_at m start
    → r ≡ field_of from start f
    → r ≡ field_at m from
unfolding field_at
field_is m from start f r a b c = cc

-- a field is refused because it cannot be read, for nothing else
pub field_unread : (m : List ℕ) (from : ℕ) (why : Unfit) → Err why ≡ field_at m from → why ≡ Unread
unfolding field_at field_of ◌!◌⨾◌
field_unread m from why e = go (nat_lt from (skip_at m from)) (nat_lt (skip_at m from) (figure_at m (skip_at m from)).at) e
  where
    go : (a b : Bool) → Err why ≡ (a ! Err Unread ⨾ b ! Err Unread ⨾ Ok (figure_at m (skip_at m from))) → why ≡ Unread
    go true true q = absurd (true≢false (ap is_ok (sym q)))
    go true false q = cc
    go false b q = cc

-- the ways out of a head: another kind of file, no width, no height, no largest value, and what stands behind them
module _ (m : List ℕ) (p : Bool) (is : p ≡ is_p6 m) where
  pub head_other : p ≡ false → Err Kind ≡ head_of m
  unfolding head_of
  head_other e = fails _ _ _ _ (sym is ∙ e) refl

  module _ (yes : p ≡ true) where
    pub head_no_width : (why : Unfit) → Err why ≡ field_at m 2 → Err why ≡ head_of m
    unfolding head_of
    head_no_width why e = passes _ _ _ _ (sym is ∙ yes) (rw (← e) refl)

    module _ (w : Figure) (first : Ok w ≡ field_at m 2) where
      pub head_no_height : (why : Unfit) → Err why ≡ field_at m w.at → Err why ≡ head_of m
      unfolding head_of
      head_no_height why e = passes _ _ _ _ (sym is ∙ yes) (rw (← first, ← e) refl)

      module _ (h : Figure) (second : Ok h ≡ field_at m w.at) where
        height_is : Ok h ≡ then_by (field_at m 2) λ (x : Figure). field_at m x.at
        height_is = rw (← first) second

        pub head_no_most : (why : Unfit) → Err why ≡ field_at m h.at → Err why ≡ head_of m
        unfolding head_of
        head_no_most why e = passes _ _ _ _ (sym is ∙ yes) (rw (← first, ← second, ← e) refl)

        pub head_closed : (most : Figure) (r : Result Head Unfit) → Ok most ≡ field_at m h.at → r ≡ closed_of m w.value h.value most → r ≡ head_of m
        unfolding head_of
        head_closed most r third g = passes _ _ _ _ (sym is ∙ yes) (rw (← first, ← second, ← third) g)

-- what goes well is no fault
ok_err : (u : ⊤) (why : Unfit) → Ok u ≡ Err why → ⊥
ok_err u why q = true≢false (ap is_ok q)

-- a size without fault has at most 2^20 pixels
pub size_pixels : (w h : ℕ) (u : ⊤) → Ok u ≡ size_fault w h → w * h ≤ 1048576
unfolding size_fault
size_pixels w h u e =
    let a = held _ _ _ _ (ok_err u _) e in
    let b = held _ _ _ _ (ok_err u _) a.1 in
    let c = held _ _ _ _ (ok_err u _) b.1 in
    let d = held _ _ _ _ (ok_err u _) c.1 in
    leb-true _ _ (held _ _ _ _ (ok_err u _) d.1).0

pub size_bound : (w h : ℕ) → w ≤ 4096 → h ≤ 2048 → w * h ≤ 8388608
size_bound w h a b = mul-le-mul {n₂ = 4096} {m₂ = 2048} a b

-- the three ways out of a picture's judgement
module _ (h : Head) (n : ℕ) where
  pub sized_not : (why : Unfit) → Err why ≡ size_fault h.width h.height → Err why ≡ sized_of h n
  unfolding sized_of
  sized_not why e = rw (← e) refl

  module _ (u : ⊤) (first : Ok u ≡ size_fault h.width h.height) where
    pub sized_bytes : (why : Unfit) → Err why ≡ bytes_fault (3 * (h.width * h.height)) h.at n → Err why ≡ sized_of h n
    unfolding sized_of
    sized_bytes why e = rw (← first, ← e) refl

    pub sized_good : (v : ⊤) → Ok v ≡ bytes_fault (3 * (h.width * h.height)) h.at n → Ok h ≡ sized_of h n
    unfolding sized_of
    sized_good v e = rw (← first, ← e) refl

pub picture_good : (m : List ℕ) (h : Head) (r : Result Head Unfit) → Ok h ≡ head_of m → r ≡ sized_of h (length m) → r ≡ picture_of m
unfolding picture_of
picture_good m h r e g = rw (← e) g

pub picture_refused : (m : List ℕ) (why : Unfit) → Err why ≡ head_of m → Err why ≡ picture_of m
unfolding picture_of
picture_refused m why e = rw (← e) refl
