-- Every colour comes back: three bytes forth to Y, Cb and Cr and back again are the same three bytes, so white, black, red and all greys keep their
-- values. By bounds: the floors of the way forth cost at most 65,536 + 91,916 (+ 115,992 in blue), and the constants' own error is below 3,000; rounding
-- leaves 2^20 on both sides.
-- Assumes nothing.
use Rattle.std.specs.Prelude.{ℕ, ◌+◌, ◌*◌, ◌-◌, ◌/◌, min, ◌≤◌, ◌<◌, ◌≡◌, ℤ, ◌+ℤ◌, ◌-ℤ◌, ◌*ℤ◌}
use Rattle.std.proofs.Math.Path.{sym, ap, ap₂}
use Rattle.std.proofs.Common.{◌∙◌, arith, lit<}
use Rattle.std.proofs.Math.IntN.{pos, neg_ℤ, +ℤ_assoc, +ℤ_comm, +ℤ-neg_ℤ_cancel, -ℤ-+ℤ_cancel, neg_ℤ-+ℤ, neg_ℤ-neg_ℤ, pos-+ℤ-pos, pos-*ℤ-pos}
use Rattle.std.specs.Int.Signed.{shr_z}
use Rattle.whole.specs.laws.Sums.{swap, distrib_l, neg_mul, mul_neg}
use Rattle.whole.specs.laws.Floor.{shr_sum}
use Rattle.colour.specs.Colour.{cut11, cut21, luma_z, cb_z, cr_z, luma_of, cb_of, cr_of, clamp_byte, red_of, green_of, blue_of}
use Rattle.colour.specs.Cases.{Back}

-- ---- differences of numbers that are not below 0

diff : (a b n : ℕ) → a ≡ n + b → pos a -ℤ pos b ≡ pos n
diff a b n e = ap (λ (k : ℕ). pos k -ℤ pos b) e ∙ ap (λ (z : ℤ). z -ℤ pos b) (sym (pos-+ℤ-pos n b)) ∙ +ℤ-neg_ℤ_cancel (pos n) (pos b)

less_two : (x : ℤ) (b c : ℕ) → x -ℤ pos b -ℤ pos c ≡ x -ℤ pos (b + c)
less_two x b c = +ℤ_assoc x (neg_ℤ (pos b)) (neg_ℤ (pos c)) ∙ ap (λ (z : ℤ). x +ℤ z) (sym (neg_ℤ-+ℤ (pos b) (pos c)) ∙ ap neg_ℤ (pos-+ℤ-pos b c))

-- taking away a difference
less_diff : (x : ℤ) (b k : ℕ) → x -ℤ (pos b -ℤ pos k) ≡ x +ℤ pos k -ℤ pos b
less_diff x b k =
    ap (λ (z : ℤ). x +ℤ z) (neg_ℤ-+ℤ (pos b) (neg_ℤ (pos k)) ∙ ap (λ (z : ℤ). neg_ℤ (pos b) +ℤ z) (neg_ℤ-neg_ℤ (pos k)))
    ∙ sym (+ℤ_assoc x (neg_ℤ (pos b)) (pos k)) ∙ swap x (neg_ℤ (pos b)) (pos k)

-- a factor goes into a difference
scaled_diff : (w q k : ℕ) → pos w *ℤ (pos q -ℤ pos k) ≡ pos (w * q) -ℤ pos (w * k)
scaled_diff w q k =
    distrib_l (pos w) (pos q) (neg_ℤ (pos k))
    ∙ ap₂ (λ (x y : ℤ). x +ℤ y) (pos-*ℤ-pos w q) (mul_neg (pos w) (pos k) ∙ ap neg_ℤ (pos-*ℤ-pos w k))

-- ---- a channel from its sum: the sum a - b lies in the n-th of the steps of 2^21

level : (x : ℤ) (a b n : ℕ) → x ≡ pos a -ℤ pos b → 2097152 * n + b ≤ a → a < 2097152 * n + 2097152 + b → n ≤ 255 → clamp_byte (cut21 x) ≡ n
unfolding clamp_byte
level x a b n e low high small =
    let d : x ≡ pos (a - b) = e ∙ diff a b (a - b) (omega (arith, low)) in
    let q : (a - b) / 2097152 ≡ n = omega (arith, low, high) in
    let m : min n 255 ≡ n = omega (arith, small) in
    ap (λ (z : ℤ). clamp_byte (cut21 z)) d ∙ ap (λ (k : ℕ). min k 255) q ∙ m

-- ---- forth, as numbers that are not below 0: a chroma is 4,096 less than one

chroma : (a b c : ℕ) → b + c ≤ a + 8388608 → cut11 (pos a -ℤ pos b -ℤ pos c) ≡ pos ((a + 8388608 - (b + c)) / 2048) -ℤ pos 4096
chroma a b c l =
    let x = pos a -ℤ pos b -ℤ pos c in
    let n = a + 8388608 - (b + c) in
    let up : pos 8388608 +ℤ x ≡ pos n =
    +ℤ_comm (pos 8388608) x ∙ ap (λ (z : ℤ). z +ℤ pos 8388608) (less_two (pos a) b c)
    ∙ swap (pos a) (neg_ℤ (pos (b + c))) (pos 8388608) ∙ ap (λ (z : ℤ). z -ℤ pos (b + c)) (pos-+ℤ-pos a 8388608)
    ∙ diff (a + 8388608) (b + c) n (omega (arith, l)) in
    let s : pos 4096 +ℤ shr_z x 2048 ≡ pos (n / 2048) = sym (shr_sum (pos 4096) x 2048 (lit< tt)) ∙ ap cut11 up in
    sym (+ℤ-neg_ℤ_cancel (shr_z x 2048) (pos 4096)) ∙ ap (λ (z : ℤ). z -ℤ pos 4096) (+ℤ_comm (shr_z x 2048) (pos 4096) ∙ s)

module _ (r g b : ℕ) (hr : r < 256) (hg : g < 256) (hb : b < 256) where
  abbrev lumas : ℕ
  lumas = (19595 * r + 38470 * g + 7471 * b) / 2048

  abbrev reds : ℕ
  reds = (32756 * r + 8388608 - (27429 * g + 5327 * b)) / 2048

  abbrev blues : ℕ
  blues = (32807 * b + 8388608 - (11071 * r + 21736 * g)) / 2048

  luma_is : luma_of r g b ≡ pos lumas -ℤ pos 4096
  unfolding luma_z
  luma_is =
      let e : pos 19595 *ℤ pos r +ℤ pos 38470 *ℤ pos g +ℤ pos 7471 *ℤ pos b ≡ pos (19595 * r + 38470 * g + 7471 * b) = simp (pos-*ℤ-pos, pos-+ℤ-pos) in
      ap (λ (z : ℤ). cut11 z -ℤ pos 4096) e

  cr_is : cr_of r g b ≡ pos reds -ℤ pos 4096
  unfolding cr_z
  cr_is =
      let e : pos 32756 *ℤ pos r -ℤ pos 27429 *ℤ pos g -ℤ pos 5327 *ℤ pos b ≡ pos (32756 * r) -ℤ pos (27429 * g) -ℤ pos (5327 * b) = simp pos-*ℤ-pos in
      ap cut11 e ∙ chroma (32756 * r) (27429 * g) (5327 * b) (omega arith)

  cb_is : cb_of r g b ≡ pos blues -ℤ pos 4096
  unfolding cb_z
  cb_is =
      let e : neg_ℤ (pos 11071) *ℤ pos r -ℤ pos 21736 *ℤ pos g +ℤ pos 32807 *ℤ pos b ≡ pos (32807 * b) -ℤ pos (11071 * r) -ℤ pos (21736 * g) =
      ap₂ (λ (x y : ℤ). x -ℤ pos 21736 *ℤ pos g +ℤ y) (neg_mul (pos 11071) (pos r) ∙ ap neg_ℤ (pos-*ℤ-pos 11071 r)) (pos-*ℤ-pos 32807 b)
      ∙ +ℤ_comm (neg_ℤ (pos (11071 * r)) -ℤ pos 21736 *ℤ pos g) (pos (32807 * b))
      ∙ sym (+ℤ_assoc (pos (32807 * b)) (neg_ℤ (pos (11071 * r))) (neg_ℤ (pos 21736 *ℤ pos g)))
      ∙ ap (λ (z : ℤ). pos (32807 * b) -ℤ pos (11071 * r) -ℤ z) (pos-*ℤ-pos 21736 g) in
      ap cut11 e ∙ chroma (32807 * b) (11071 * r) (21736 * g) (omega arith)

  -- "S": the base of all three sums
  base_is : pos 65536 *ℤ (luma_of r g b +ℤ pos 4096) ≡ pos (65536 * lumas)
  base_is = ap (λ (z : ℤ). pos 65536 *ℤ (z +ℤ pos 4096)) luma_is ∙ ap (λ (z : ℤ). pos 65536 *ℤ z) (-ℤ-+ℤ_cancel (pos lumas) (pos 4096)) ∙ pos-*ℤ-pos 65536 lumas

  -- a sum with one chroma, whose factor w is no less than 0
  one_chroma : (c : ℤ) (w q : ℕ) → c ≡ pos q -ℤ pos 4096 →
      pos 65536 *ℤ (luma_of r g b +ℤ pos 4096) +ℤ pos w *ℤ c +ℤ pos 1048576 ≡ pos (65536 * lumas + w * q + 1048576) -ℤ pos (w * 4096)
  one_chroma c w q e =
      let a = 65536 * lumas in
      ap₂ (λ (x y : ℤ). x +ℤ y +ℤ pos 1048576) base_is (ap (λ (z : ℤ). pos w *ℤ z) e ∙ scaled_diff w q 4096)
      ∙ ap (λ (z : ℤ). z +ℤ pos 1048576) (sym (+ℤ_assoc (pos a) (pos (w * q)) (neg_ℤ (pos (w * 4096)))))
      ∙ swap (pos a +ℤ pos (w * q)) (neg_ℤ (pos (w * 4096))) (pos 1048576)
      ∙ ap (λ (z : ℤ). z +ℤ pos 1048576 -ℤ pos (w * 4096)) (pos-+ℤ-pos a (w * q)) ∙ ap (λ (z : ℤ). z -ℤ pos (w * 4096)) (pos-+ℤ-pos (a + w * q) 1048576)

  two_chromas : pos 65536 *ℤ (luma_of r g b +ℤ pos 4096) -ℤ pos 22527 *ℤ cb_of r g b -ℤ pos 46819 *ℤ cr_of r g b +ℤ pos 1048576
      ≡ pos (65536 * lumas + 92270592 + 191770624 + 1048576) -ℤ pos (22527 * blues + 46819 * reds)
  two_chromas =
      let a = 65536 * lumas in
      let x = 22527 * blues in
      let y = 46819 * reds in
      let first : pos 22527 *ℤ cb_of r g b ≡ pos x -ℤ pos 92270592 = ap (λ (z : ℤ). pos 22527 *ℤ z) cb_is ∙ scaled_diff 22527 blues 4096 in
      let second : pos 46819 *ℤ cr_of r g b ≡ pos y -ℤ pos 191770624 = ap (λ (z : ℤ). pos 46819 *ℤ z) cr_is ∙ scaled_diff 46819 reds 4096 in
      let e : pos a -ℤ (pos x -ℤ pos 92270592) ≡ pos (a + 92270592) -ℤ pos x =
      less_diff (pos a) x 92270592 ∙ ap (λ (z : ℤ). z -ℤ pos x) (pos-+ℤ-pos a 92270592) in
      let f : pos (a + 92270592) -ℤ pos x -ℤ (pos y -ℤ pos 191770624) ≡ pos (a + 92270592 + 191770624) -ℤ pos x -ℤ pos y =
      less_diff (pos (a + 92270592) -ℤ pos x) y 191770624
      ∙ ap (λ (z : ℤ). z -ℤ pos y) (swap (pos (a + 92270592)) (neg_ℤ (pos x)) (pos 191770624)
      ∙ ap (λ (z : ℤ). z -ℤ pos x) (pos-+ℤ-pos (a + 92270592) 191770624)) in
      ap (λ (z : ℤ). z -ℤ pos 22527 *ℤ cb_of r g b -ℤ pos 46819 *ℤ cr_of r g b +ℤ pos 1048576) base_is
      ∙ ap₂ (λ (u v : ℤ). pos a -ℤ u -ℤ v +ℤ pos 1048576) first second
      ∙ ap (λ (z : ℤ). z -ℤ (pos y -ℤ pos 191770624) +ℤ pos 1048576) e ∙ ap (λ (z : ℤ). z +ℤ pos 1048576) (f ∙ less_two (pos (a + 92270592 + 191770624)) x y)
      ∙ swap (pos (a + 92270592 + 191770624)) (neg_ℤ (pos (x + y))) (pos 1048576)
      ∙ ap (λ (z : ℤ). z -ℤ pos (x + y)) (pos-+ℤ-pos (a + 92270592 + 191770624) 1048576)

  pub exact : Back (luma_of r g b) (cb_of r g b) (cr_of r g b) r g b
  unfolding red_of green_of blue_of
  exact = record {
    red = level _ (65536 * lumas + 91916 * reds + 1048576) 376487936 r (one_chroma (cr_of r g b) 91916 reds cr_is) (omega arith) (omega arith) (omega arith);
    green = level _ (65536 * lumas + 92270592 + 191770624 + 1048576) (22527 * blues + 46819 * reds) g two_chromas (omega arith) (omega arith) (omega arith);
    blue = level _ (65536 * lumas + 115992 * blues + 1048576) 475103232 b (one_chroma (cb_of r g b) 115992 blues cb_is)
        (omega arith) (omega arith) (omega arith);
  }

-- "White, black and greys keep their values"
pub grey : (g : ℕ) → g < 256 → Back (luma_of g g g) (cb_of g g g) (cr_of g g g) g g g
grey g h = exact g g g h h h
