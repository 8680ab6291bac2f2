-- `quant` meets its contract: the value at the band's place in the set, which is good. Assumes nothing.
use Prim.Native.Nat.{ℕ, ◌≤◌, ◌<◌}
use mathlib.Core.Path.{sym, subst, ap}
use lib.ListN.{get_or}
use Rattle.bands.specs.laws.Band.{band_below, quant_low, quant_high}
use Rattle.plain.proofs.quant.Goals as goal

pub bounds-q-band : goal.bounds-q-band
bounds-q-band c = subst (λ (i : ℕ). i < 10) (sym c.band.ensures) (band_below c.args.k)

pub returns : goal.returns
returns c =
    let pre = c.requires in
    let args = c.args in
    let e = ap (λ (i : ℕ). get_or args.q.v i 0) c.band.ensures in
    let k = c.args.k in
    (e, subst (λ (n : ℕ). 6 ≤ n) (sym e) (quant_low args.q.v k pre.0), subst (λ (n : ℕ). n ≤ 15) (sym e) (quant_high args.q.v k pre.0))
