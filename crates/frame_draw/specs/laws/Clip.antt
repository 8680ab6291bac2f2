-- Laws of rectangles kept for a tile: what is put in is there, what was there stays, and what is read back is the rectangle's.
use Rattle.std.specs.Prelude.{ℕ, suc, ◌+◌, ◌*◌, ◌/◌, ◌%◌, ◌^◌, ◌≤◌, ◌<◌, ◌≡◌, refl, ◌⊎◌, List, true, false, T, ltb, ℤ, pos, negsuc, nat_abs, ◌+ℤ◌, length, set}
use Rattle.std.proofs.Common.{div-add-mod', ap, sym, ◌∙◌, subst, inl, inr, ⊎_elim, arith, true≢false, SFits, Fits, of_z, to_z, to_z-of_z, ltb-true, ltb-false}
use Rattle.std.proofs.Common.{lt-ltb, le-ltb, get_or-set_same, get_or-set_other, length-set}
use Rattle.std.proofs.Math.Path.{subst⁻¹}
use Rattle.std.specs.Int.Signed.{non_neg, nat_abs-le}
use Rattle.std.specs.Int.{w32, w64}
use Rattle.std.proofs.Math.IntN.{ -ℤ-+ℤ_cancel}
use Rattle.whole.specs.Calc.{Calc, val, arg, lit, add, sub, cast}
use Rattle.whole.specs.laws.Near.{Near}
use Rattle.whole.specs.Tab.{at}
use Rattle.frame_draw.specs.declared.clip.Clip.{Clip}
use Rattle.frame_draw.specs.Spans.{part_of}
use Rattle.frame_draw.specs.laws.Bits.{mask_small}
use Rattle.frame_draw.specs.laws.Pixels.{split}
use Rattle.frame_draw.specs.Clips.{clip_in, clip_of, half_in, half_of, clip_at, with_clip, Clipped, SmallClip, Clips}

-- a clip's numbers are small, since a rectangle's are
pub clip_small : (x y w h a part : ℕ) → y < 65536 → h < 65536 → part ≤ 64 → SmallClip (clip_in x y w h a part)
unfolding clip_in
clip_small x y w h a part q r s = record { mask = mask_small _ _ (omega arith); top = q; end = omega arith }

-- half of a mask, kept and read back
half_back : (n : ℕ) → half_of (half_in n) ≡ n
half_back n = ap nat_abs (-ℤ-+ℤ_cancel (pos n) (pos 2147483648))

-- what a list holds is read from it
pub clip_read : (c : Clip) (k : ℕ) (zs : List ℤ) → Clipped c k zs → clip_at zs k ≡ c
clip_read c k zs g =
    let low = ap half_of g.low ∙ half_back (c.mask % 4294967296) in
    let high = ap half_of g.high ∙ half_back (c.mask / 4294967296) in
    rw (low, high, g.top, g.end, div-add-mod' c.mask 4294967296) refl

pub clip_there : (c : Clip) (k : ℕ) (zs : List ℤ) → Clipped c k zs → Clipped (clip_at zs k) k zs
clip_there c k zs g = subst⁻¹ (λ (d : Clip). Clipped d k zs) (clip_read c k zs g) g

-- a small number, stored and read back
pub stored : (n : ℕ) → n < 131072 → to_z w32 n ≡ pos n
stored n l = let h : n < 2 ^ 31 = omega arith in rw (lt-ltb n (2 ^ 31) h)

pub counted : (z : ℤ) → SFits w32 z → z ≡ pos (nat_abs z) → T (non_neg (to_z w32 (of_z w32 z))) × Fits w64 (nat_abs (to_z w32 (of_z w32 z)))
counted (pos n) f e = let l : n < 2 ^ 31 = f.sfits in rw (to_z-of_z f) (tt, omega arith)
counted (negsuc n) f e = absurd (true≢false (sym (ap non_neg e)))

-- half of a mask, stored
module _ (n : ℕ) (l : n < 4294967296) where
  abbrev half_near : Near 4294967296 (pos n)
  half_near = record { near = omega arith }

  abbrev pub lowered : Calc w64 (half_in n)
  lowered = sub (arg w64 half_near tt) (lit w64 (pos 2147483648) tt) tt

  half_fits : SFits w32 (half_in n)
  half_fits =
      ⊎_elim
      (λ (q : ltb n 2147483648 ≡ true). record { sfits = rw q (let a = ltb-true n 2147483648 q in omega arith) })
      (λ (q : ltb n 2147483648 ≡ false). record { sfits = rw q (let a = ltb-false n 2147483648 q in omega arith) })
      (split (ltb n 2147483648))

  pub half_goes : SFits w32 (to_z w64 (of_z w64 lowered.mach))
  half_goes = subst⁻¹ (SFits w32) (val lowered) half_fits

  pub half_stored : to_z w32 (of_z w32 (to_z w64 (of_z w64 lowered.mach))) ≡ half_in n
  half_stored = to_z-of_z half_goes ∙ val lowered

-- .. and read back
module _ (z : ℤ) (f : SFits w32 z) where
  abbrev kept : Calc w32 z
  kept = record { bound = 2147483648; mach = z; it = record { fits = f; same = refl; near = record { near = nat_abs-le z f.sfits } } }

  abbrev pub widened : Calc w64 z
  widened = cast w64 kept tt

  abbrev pub raised : Calc w64 (z +ℤ pos 2147483648)
  raised = add widened (lit w64 (pos 2147483648) tt) tt

half_bits : (z : ℤ) → SFits w32 z → T (non_neg (z +ℤ pos 2147483648)) × (half_of z < 4294967296)
half_bits (pos n) f = let l : n < 2 ^ 31 = f.sfits in (tt, omega arith)
half_bits (negsuc n) f = let l : n < 2 ^ 31 = f.sfits in rw (le-ltb 2147483648 (suc n) (omega arith)) (tt, omega arith)

module _ (z : ℤ) (f : SFits w32 z) where
  pub half_counts : T (non_neg (to_z w64 (of_z w64 (raised z f).mach))) × Fits w64 (nat_abs (to_z w64 (of_z w64 (raised z f).mach)))
  half_counts =
      let b = half_bits z f in
      subst⁻¹ (λ (y : ℤ). T (non_neg y) × Fits w64 (nat_abs y)) (val (raised z f)) (b.0, record { fits = omega (arith, b.1) })

  pub half_read : (nat_abs (to_z w64 (of_z w64 (raised z f).mach)) ≡ half_of z) × (nat_abs (to_z w64 (of_z w64 (raised z f).mach)) < 4294967296)
  half_read = subst⁻¹ (λ (y : ℤ). (nat_abs y ≡ half_of z) × (nat_abs y < 4294967296)) (val (raised z f)) (refl, (half_bits z f).1)

-- ---- one put in

module _ (k : ℕ) (c : Clip) (zs : List ℤ) where
  -- the list with its first number, its first two, its first three
  abbrev one : List ℤ
  one = set zs (4 * k) (half_in (c.mask % 4294967296))

  abbrev two : List ℤ
  two = set one (4 * k + 1) (half_in (c.mask / 4294967296))

  abbrev three : List ℤ
  three = set two (4 * k + 2) (pos c.top)

  long_one : length one ≡ length zs
  long_one = length-set zs (4 * k) (half_in (c.mask % 4294967296))

  long_two : length two ≡ length zs
  long_two = length-set one (4 * k + 1) (half_in (c.mask / 4294967296)) ∙ long_one

  long_three : length three ≡ length zs
  long_three = length-set two (4 * k + 2) (pos c.top) ∙ long_two

  pub put_length : length (with_clip k c zs) ≡ length zs
  put_length = length-set three (4 * k + 3) (pos c.end) ∙ long_three

  -- other places stay
  not_end : (i : ℕ) → (i ≡ 4 * k + 3 → ⊥) → at (with_clip k c zs) i ≡ at three i
  not_end i f = get_or-set_other three (4 * k + 3) i (pos c.end) (pos 0) f

  not_top : (i : ℕ) → (i ≡ 4 * k + 2 → ⊥) → at three i ≡ at two i
  not_top i f = get_or-set_other two (4 * k + 2) i (pos c.top) (pos 0) f

  not_high : (i : ℕ) → (i ≡ 4 * k + 1 → ⊥) → at two i ≡ at one i
  not_high i f = get_or-set_other one (4 * k + 1) i (half_in (c.mask / 4294967296)) (pos 0) f

  put_before : (i : ℕ) → i < 4 * k → at (with_clip k c zs) i ≡ at zs i
  put_before i l =
      not_end i (λ e. omega arith)
      ∙ (not_top i (λ e. omega arith)
      ∙ (not_high i (λ e. omega arith) ∙ get_or-set_other zs (4 * k) i (half_in (c.mask % 4294967296)) (pos 0) (λ e. omega arith)))

  pub put_stays : (d : Clip) (j : ℕ) → j < k → Clipped d j zs → Clipped d j (with_clip k c zs)
  put_stays d j l g =
      record {
        low = put_before (4 * j) (omega arith) ∙ g.low;
        high = put_before (4 * j + 1) (omega arith) ∙ g.high;
        top = put_before (4 * j + 2) (omega arith) ∙ g.top;
        end = put_before (4 * j + 3) (omega arith) ∙ g.end;
      }

  -- and it is there
  pub put_there : 4 * k + 4 ≤ length zs → Clipped c k (with_clip k c zs)
  put_there l =
      record {
        low =
            not_end (4 * k) (λ e. omega arith)
            ∙ (not_top (4 * k) (λ e. omega arith)
            ∙ (not_high (4 * k) (λ e. omega arith) ∙ get_or-set_same zs (4 * k) (half_in (c.mask % 4294967296)) (pos 0) (omega arith)));
        high =
            not_end (4 * k + 1) (λ e. omega arith)
            ∙ (not_top (4 * k + 1) (λ e. omega arith)
            ∙ get_or-set_same one (4 * k + 1) (half_in (c.mask / 4294967296)) (pos 0) (let e = long_one in omega arith));
        top =
            not_end (4 * k + 2) (λ e. omega arith)
            ∙ get_or-set_same two (4 * k + 2) (pos c.top) (pos 0) (let e = long_two in omega arith);
        end = get_or-set_same three (4 * k + 3) (pos c.end) (pos 0) (let e = long_three in omega arith);
      }

-- ---- the rectangles of a region

before_or_at : (j k : ℕ) → j < k + 1 → (j < k) ⊎ (j ≡ k)
before_or_at j k l =
    ⊎_elim
    (λ (a : ltb j k ≡ true). inl (ltb-true j k a))
    (λ (b : ltb j k ≡ false). let m = ltb-false j k b in inr (omega arith))
    (split (ltb j k))

module _ (rects : List ℕ) (w tx : ℕ) (zs : List ℤ) where
  pub clips_none : Clips rects 0 w tx zs
  clips_none = record { room = omega arith; each = λ k l. absurd (omega arith) }

  -- one rectangle more
  pub clips_next :
      (k part : ℕ) (c : Clip) (then : List ℤ) → part ≡ part_of w tx → c ≡ clip_of rects (64 * tx) part k → 4 * k + 4 ≤ length zs →
      then ≡ with_clip k c zs → Clips rects k w tx zs → Clips rects (k + 1) w tx then
  clips_next k part c then p e l h g =
      let is : c ≡ clip_of rects (64 * tx) (part_of w tx) k = e ∙ ap (λ (z : ℕ). clip_of rects (64 * tx) z k) p in
      subst⁻¹ (Clips rects (k + 1) w tx) h
      (record {
        room = let r = put_length k c zs in omega arith;
        each = λ j m.
            ⊎_elim
            (λ (a : j < k). put_stays k c zs _ j a (g.each j a))
            (λ (b : j ≡ k).
            subst⁻¹ (λ (i : ℕ). Clipped (clip_of rects (64 * tx) (part_of w tx) i) i (with_clip k c zs)) b
            (subst (λ (d : Clip). Clipped d k (with_clip k c zs)) is (put_there k c zs l)))
            (before_or_at j k m);
      })

  pub clips_all : (n k : ℕ) → k ≤ n → n ≤ k → Clips rects k w tx zs → Clips rects n w tx zs
  clips_all n k l m g = let e : k ≡ n = omega arith in subst (λ (z : ℕ). Clips rects z w tx zs) e g

  module _ (n : ℕ) (g : Clips rects n w tx zs) (k : ℕ) (l : k < n) where
    pub clip_room : 4 * k + 4 ≤ length zs
    clip_room = omega (arith, g.room)

    pub clip_counts : Clipped (clip_at zs k) k zs
    clip_counts = clip_there _ k zs (g.each k l)

    pub clip_is : clip_at zs k ≡ clip_of rects (64 * tx) (part_of w tx) k
    clip_is = clip_read _ k zs (g.each k l)
