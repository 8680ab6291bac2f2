-- `colour::rgb_of` meets its contract: the three bases are `Calc`s, the parts come from `split`, and 01's sums are those of `channel`
-- (`red_sum`, `green_sum`, `blue_sum`).
-- Assumes nothing.
use mathlib.Core.Path.{◌∙◌}
use mir.Syntax.{w32}
use mir.Facts.{to_z-of_z}
use lib.IntN.{pos, ◌+ℤ◌, ◌-ℤ◌, ◌*ℤ◌}
use Rattle.whole.specs.laws.Near.{near_le, lit_upto}
use Rattle.whole.specs.Calc.{Calc, fits, val, near, arg, lit, add, sub, mul}
use Rattle.colour.specs.Colour.{red_of, green_of, blue_of}
use Rattle.colour.specs.laws.Step.{red_sum, green_sum, blue_sum}
use Rattle.colour.proofs.rgb_of.Goals as goal
use Rattle.colour.proofs.rgb_of.Goals.{Start}

abbrev base : (s : Start) → Calc w32 (s.args.y +ℤ pos 4112)
base s = add (arg w32 s.requires.0 tt) (lit w32 (pos 4112) tt) tt

abbrev red : (s : Start) → Calc w32 (s.args.y +ℤ pos 4112 +ℤ s.args.cr)
red s = add (base s) (arg w32 s.requires.2 tt) tt

abbrev green : (s : Start) → Calc w32 (s.args.y +ℤ pos 4112 -ℤ s.args.cr)
green s = sub (base s) (arg w32 s.requires.2 tt) tt

abbrev twice : (s : Start) → Calc w32 (pos 2 *ℤ s.args.cb)
twice s = mul (lit w32 (pos 2) tt) (arg w32 s.requires.1 tt) tt

abbrev blue : (s : Start) → Calc w32 (s.args.y +ℤ pos 4112 +ℤ pos 2 *ℤ s.args.cb)
blue s = add (base s) (twice s) tt

pub overflow_add-s : goal.overflow_add-s
overflow_add-s c = fits (base (goal.at.overflow_add-s c).Start)

pub overflow_add-s-2 : goal.overflow_add-s-2
overflow_add-s-2 c = fits (red (goal.at.overflow_add-s-2 c).Start)

pub channel-requires : goal.channel-requires
channel-requires c =
    (near_le (near (red (goal.at.channel-requires c).Start)) tt, lit_upto 26380 tt, c.split-r.ensures.1, lit_upto 0 tt, c.split-b.ensures.1)

pub overflow_sub-s : goal.overflow_sub-s
overflow_sub-s c = fits (green (goal.at.overflow_sub-s c).Start)

pub channel-requires-2 : goal.channel-requires-2
channel-requires-2 c =
    (near_le (near (green (goal.at.channel-requires-2 c).Start)) tt, lit_upto 18717 tt, c.split-r.ensures.1, lit_upto 22527 tt, c.split-b.ensures.1)

pub overflow_mul-cb : goal.overflow_mul-cb
overflow_mul-cb c = fits (twice (goal.at.overflow_mul-cb c).Start)

pub overflow_add-s-3 : goal.overflow_add-s-3
overflow_add-s-3 c = fits (blue (goal.at.overflow_add-s-3 c).Start)

pub channel-requires-3 : goal.channel-requires-3
channel-requires-3 c =
    (near_le (near (blue (goal.at.channel-requires-3 c).Start)) tt, lit_upto 0 tt, c.split-r.ensures.1, lit_upto 15080 tt, c.split-b.ensures.1)

pub returns : goal.returns
unfolding red_of green_of blue_of
returns c =
    let a = c.args in
    cc (
      c.channel.ensures,
      c.channel-2.ensures,
      c.channel-3.ensures,
      val (red (goal.at.returns c).Start),
      val (green (goal.at.returns c).Start),
      val (blue (goal.at.returns c).Start),
      c.split-b.ensures.0 ∙ to_z-of_z c.ranges.cb,
      c.split-r.ensures.0 ∙ to_z-of_z c.ranges.cr,
      red_sum a.y a.cb a.cr,
      green_sum a.y a.cb a.cr,
      blue_sum a.y a.cb a.cr,
    )
