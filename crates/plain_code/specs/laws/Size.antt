-- The bits of a number counted by halving it: n times so far, and this is left (`Halved`); at the start, after a turn, at the end, and never above 64.
use Rattle.std.specs.Prelude.{ℕ, ◌+◌, ◌/◌, ◌^◌, ◌≤◌, ◌<◌, ◌≡◌}
use Rattle.std.proofs.Common.{ap, ◌∙◌, arith}
use Rattle.code.specs.Code.{size, size_f}
use Rattle.code.specs.laws.Steps.{size_half, size_end, size_fit}

pub record Halved (g n left : ℕ) : Type 0 where
  pub most : ℕ
  pub within : left ≤ most
  pub counted : n + size_f most left ≡ size g

pub halved_start : (g : ℕ) → Halved g 0 g
unfolding size
halved_start g = record { most = g; within = omega arith; counted = omega arith }

pub halved_again : (g n left : ℕ) → (left ≡ 0 → ⊥) → Halved g n left → Halved g (n + 1) (left / 2)
halved_again g n left z h =
    let l = h.within in
    let s = size_half h.most left h.within (omega arith) in
    record { most = s.0; within = s.1; counted = omega (arith, h.counted, s.2) }

pub halved_end : (g n left : ℕ) → left ≡ 0 → Halved g n left → n ≡ size g
halved_end g n left z h = omega (arith, h.counted, ap (size_f h.most) z ∙ size_end h.most)

pub halved_few : (g n left : ℕ) → g < 2 ^ 64 → Halved g n left → n ≤ 64
halved_few g n left l h = omega (arith, h.counted, size_fit g 64 l)
