-- 01's sums are those of the code. Forth: a weight that 01 takes away is one below 0. Back: 65,536 times a base, and two products whose
-- factors fit 15 bits.
-- Assumes nothing.
-- (01 is this project's scope document, 02 its change requests, 001 is MS-RDPRFX: README, "What 01 is".)
use Rattle.std.specs.Prelude.{◌≡◌, ℕ, ℤ, pos, neg_ℤ, ◌+ℤ◌, ◌-ℤ◌, ◌*ℤ◌}
use Rattle.std.proofs.Common.{sym, ◌∙◌, ap, subst, arith, lit<}
use Rattle.std.proofs.Math.IntN.{+ℤ_assoc, +ℤ_idl, *ℤ_comm, *ℤ-zero}
use Rattle.std.specs.Int.Signed.{shr_z}
use Rattle.whole.specs.laws.Near.{Near, Upto, floor_near, pos_upto}
use Rattle.whole.specs.laws.Sums.{sums, swap, distrib, less_mul, neg_mul, mul_assoc}
use Rattle.whole.specs.laws.Floor.{shr-shr, shr_sum, rest, rest_below, rest_is, floor_is}
use Rattle.colour.specs.declared.Parts.{Parts}
use Rattle.colour.specs.Colour.{cb_z, cr_z, cb_of, cr_of, cut21, scaled}
use Rattle.colour.specs.laws.Steps.{weighed, mix, joined, Small}

-- ---- forth

module _ (r g b : ℕ) where
  pub cb_is : weighed (neg_ℤ (pos 11071)) (neg_ℤ (pos 21736)) (pos 32807) r g b ≡ cb_of r g b
  unfolding cb_z weighed
  cb_is = simp (neg_mul (pos 21736) (pos g))

  pub cr_is : weighed (pos 32756) (neg_ℤ (pos 27429)) (neg_ℤ (pos 5327)) r g b ≡ cr_of r g b
  unfolding cr_z weighed
  cr_is = simp (neg_mul (pos 27429) (pos g), neg_mul (pos 5327) (pos b))

-- ---- back

-- the floor over 65,536 and what it leaves are the parts of a sample
pub parts_are : (p : Parts) (v : ℤ) → Near 268435456 v → p.high ≡ shr_z v 65536 → p.low ≡ v -ℤ shr_z v 65536 *ℤ pos 65536 → (joined p ≡ v) × Small p
parts_are p v n e f =
    let l = f ∙ rest_is v 65536 (lit< tt) in (
      cc (l, floor_is v 65536 (lit< tt)),
      record {
        high = subst (Near 4097) (sym e) (floor_near 65536 tt n);
        low = subst (Upto 65535) (sym l) (pos_upto (rest v 65536) (omega (arith, rest_below v 65536 (lit< tt))));
      },
    )

-- what is whole comes out of a floor over 65,536, and a floor over 2^21 is one of that over 32
module _ (base j k : ℤ) (r b : Parts) where
  pub split_sum : cut21 (base *ℤ pos 65536 +ℤ mix j (joined r) k (joined b))
      ≡ shr_z (base +ℤ (mix j r.high k b.high +ℤ shr_z (mix j r.low k b.low) 65536)) 32
  split_sum =
      let high = mix j r.high k b.high in
      let low = mix j r.low k b.low in
      let e : base *ℤ pos 65536 +ℤ mix j (joined r) k (joined b) ≡ (base +ℤ high) *ℤ pos 65536 +ℤ low = simp sums in
      let f = shr_sum (base +ℤ high) low 65536 (lit< tt) ∙ +ℤ_assoc base high (shr_z low 65536) in
      ap cut21 e ∙ sym (shr-shr ((base +ℤ high) *ℤ pos 65536 +ℤ low) 65536 32) ∙ ap (λ (z : ℤ). shr_z z 32) f

-- 01's three sums; "S = 65536(Y + 4096)", and 2^20 is 16 x 65536
up_16 : (y : ℤ) → (y +ℤ pos 4112) *ℤ pos 65536 ≡ scaled y +ℤ pos 1048576
up_16 y =
    let e : y +ℤ pos 4112 ≡ y +ℤ pos 4096 +ℤ pos 16 = sym (+ℤ_assoc y (pos 4096) (pos 16)) in
    ap (λ (z : ℤ). z *ℤ pos 65536) e ∙ distrib (y +ℤ pos 4096) (pos 16) (pos 65536) ∙ ap (λ (z : ℤ). z +ℤ pos 1048576) (*ℤ_comm (y +ℤ pos 4096) (pos 65536))

module _ (y cb cr : ℤ) where
  -- "S + 91916Cr"
  pub red_sum : scaled y +ℤ pos 91916 *ℤ cr +ℤ pos 1048576 ≡ (y +ℤ pos 4112 +ℤ cr) *ℤ pos 65536 +ℤ mix (pos 26380) cr (pos 0) cb
  red_sum =
      let e : scaled y +ℤ pos 1048576 +ℤ pos 91916 *ℤ cr ≡ (y +ℤ pos 4112 +ℤ cr) *ℤ pos 65536 +ℤ mix (pos 26380) cr (pos 0) cb =
      ap (λ (z : ℤ). z +ℤ pos 91916 *ℤ cr) (sym (up_16 y)) ∙ simp (distrib (pos 65536) (pos 26380) cr, sums, *ℤ-zero, +ℤ_idl) in
      swap (scaled y) (pos 91916 *ℤ cr) (pos 1048576) ∙ e

  -- "S - 22527Cb - 46819Cr"
  pub green_sum : scaled y -ℤ pos 22527 *ℤ cb -ℤ pos 46819 *ℤ cr +ℤ pos 1048576 ≡ (y +ℤ pos 4112 -ℤ cr) *ℤ pos 65536 +ℤ mix (pos 18717) cr (pos 22527) cb
  green_sum =
      let e : scaled y +ℤ pos 1048576 -ℤ pos 22527 *ℤ cb -ℤ pos 46819 *ℤ cr ≡ (y +ℤ pos 4112 -ℤ cr) *ℤ pos 65536 +ℤ mix (pos 18717) cr (pos 22527) cb =
      ap (λ (z : ℤ). z -ℤ pos 22527 *ℤ cb -ℤ pos 46819 *ℤ cr) (sym (up_16 y)) ∙ simp (less_mul (pos 65536) (pos 18717) cr, sums) in
      swap (scaled y -ℤ pos 22527 *ℤ cb) (neg_ℤ (pos 46819 *ℤ cr)) (pos 1048576)
      ∙ ap (λ (z : ℤ). z -ℤ pos 46819 *ℤ cr) (swap (scaled y) (neg_ℤ (pos 22527 *ℤ cb)) (pos 1048576)) ∙ e

  -- "S + 115992Cb"
  pub blue_sum : scaled y +ℤ pos 115992 *ℤ cb +ℤ pos 1048576 ≡ (y +ℤ pos 4112 +ℤ pos 2 *ℤ cb) *ℤ pos 65536 +ℤ mix (pos 0) cr (pos 15080) cb
  blue_sum =
      let twice : pos 131072 *ℤ cb ≡ pos 2 *ℤ cb *ℤ pos 65536 = mul_assoc (pos 65536) (pos 2) cb ∙ *ℤ_comm (pos 65536) (pos 2 *ℤ cb) in
      let e : scaled y +ℤ pos 1048576 +ℤ pos 115992 *ℤ cb ≡ (y +ℤ pos 4112 +ℤ pos 2 *ℤ cb) *ℤ pos 65536 +ℤ mix (pos 0) cr (pos 15080) cb =
      ap (λ (z : ℤ). z +ℤ pos 115992 *ℤ cb) (sym (up_16 y)) ∙ simp (less_mul (pos 131072) (pos 15080) cb, twice, sums, *ℤ-zero, +ℤ_idl) in
      swap (scaled y) (pos 115992 *ℤ cb) (pos 1048576) ∙ e
