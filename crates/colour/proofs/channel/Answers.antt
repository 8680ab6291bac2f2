-- `colour::channel` meets its contract. Every step is a `Calc`; both products with low parts are from 0 to 2^31, so their difference fits.
-- That the steps come to the promised floor is `split_sum`.
-- Assumes nothing.
use mathlib.Core.Path.{◌∙◌, sym, ap}
use mir.Syntax.{w32}
use lib.IntN.{ℤ, ◌+ℤ◌, ◌*ℤ◌}
use lib.Signed.{shr_z}
use Rattle.whole.specs.laws.Near.{mul_upto, apart_near}
use Rattle.whole.specs.Calc.{Calc, fits, val, arg, add, sub, sub_to, mul, shr, floor}
use Rattle.colour.specs.Colour.{clamp_byte}
use Rattle.colour.specs.laws.Steps.{mix}
use Rattle.colour.specs.laws.Step.{split_sum}
use Rattle.colour.proofs.channel.Goals as goal
use Rattle.colour.proofs.channel.Goals.{After-struct_told-4-1, Start}

abbrev H : Start → ℤ
H s = mix s.args.j s.args.r.high s.args.k s.args.b.high

abbrev L : Start → ℤ
L s = mix s.args.j s.args.r.low s.args.k s.args.b.low

abbrev high_r : (s : Start) → Calc w32 (s.args.j *ℤ s.args.r.high)
high_r s = mul (arg w32 s.requires.1.near tt) (arg w32 s.requires.2.high tt) tt

abbrev high_b : (s : Start) → Calc w32 (s.args.k *ℤ s.args.b.high)
high_b s = mul (arg w32 s.requires.3.near tt) (arg w32 s.requires.4.high tt) tt

abbrev high : (s : Start) → Calc w32 (H s)
high s = sub (high_r s) (high_b s) tt

abbrev low_r : (s : Start) → Calc w32 (s.args.j *ℤ s.args.r.low)
low_r s = mul (arg w32 s.requires.1.near tt) (arg w32 s.requires.2.low.near tt) tt

abbrev low_b : (s : Start) → Calc w32 (s.args.k *ℤ s.args.b.low)
low_b s = mul (arg w32 s.requires.3.near tt) (arg w32 s.requires.4.low.near tt) tt

abbrev low : (s : Start) → Calc w32 (L s)
low s = sub_to (low_r s) (low_b s) (apart_near (mul_upto s.requires.1 s.requires.2.low) (mul_upto s.requires.3 s.requires.4.low)) tt

abbrev more : (s : Start) → Calc w32 (H s +ℤ shr_z (L s) 65536)
more s = add (high s) (floor 65536 (low s) tt tt) tt

abbrev all : (s : Start) → Calc w32 (s.args.base +ℤ (H s +ℤ shr_z (L s) 65536))
all s = add (arg w32 s.requires.0 tt) (more s) tt

abbrev start : After-struct_told-4-1 → Start
start c = c.before.before.before.before.before.before.before.before

pub overflow_mul-high : goal.overflow_mul-high
overflow_mul-high c = fits (high_r (goal.at.overflow_mul-high c).Start)

pub overflow_mul-high-2 : goal.overflow_mul-high-2
overflow_mul-high-2 c = fits (high_b (goal.at.overflow_mul-high-2 c).Start)

pub overflow_sub-high : goal.overflow_sub-high
overflow_sub-high c = fits (high (goal.at.overflow_sub-high c).Start)

pub overflow_mul-low : goal.overflow_mul-low
overflow_mul-low c = fits (low_r (goal.at.overflow_mul-low c).Start)

pub overflow_mul-low-2 : goal.overflow_mul-low-2
overflow_mul-low-2 c = fits (low_b (start (goal.at.overflow_mul-low-2 c).After-struct_told-4-1))

pub overflow_sub-low : goal.overflow_sub-low
overflow_sub-low c = fits (low (start (goal.at.overflow_sub-low c).After-struct_told-4-1))

pub overflow_add-high : goal.overflow_add-high
overflow_add-high c = fits (more (start (goal.at.overflow_add-high c).After-struct_told-4-1))

pub overflow_add-base : goal.overflow_add-base
overflow_add-base c = fits (all (start (goal.at.overflow_add-base c).After-struct_told-4-1))

pub returns : goal.returns
returns c =
    let s = start (goal.at.returns c).After-struct_told-4-1 in
    let a = s.args in
    c.clamp.ensures ∙ ap clamp_byte (val (shr 32 (all s) tt) ∙ sym (split_sum a.base a.j a.k a.r a.b))
