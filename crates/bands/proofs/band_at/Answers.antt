-- A band that ends at or before k is passed (`passed`), and one that ends behind it is the first (`found`).
use Rattle.std.proofs.Common.{◌≡◌, refl, sym, ap, ◌∙◌, List, ℕ, ◌+◌, ◌<◌, ◌≤◌, ltb, length, get_or, drop, add-one, drop-cons, lt-ltb, le-ltb, arith}
use Rattle.whole.specs.Row.{◌⇒◌∣◌}
use Rattle.whole.specs.laws.Row.{case_yes, case_no}
use Rattle.bands.specs.declared.Band.{Band}
use Rattle.bands.specs.Bands.{bands, first_band, band_at}
use Rattle.bands.proofs.band_at.Goals as goal

module _ (bs : List Band) (d : Band) (i k : ℕ) (l : i < length bs) where
  here : first_band (drop i bs) k ≡ (ltb k (get_or bs i d).end ⇒ get_or bs i d ∣ first_band (drop (i + 1) bs) k)
  unfolding first_band
  here = ap (λ z. first_band z k) (drop-cons bs i d l) ∙ ap (λ j. ltb k (get_or bs i d).end ⇒ get_or bs i d ∣ first_band (drop j bs) k) (sym (add-one i))

  passed : (get_or bs i d).end ≤ k → first_band (drop i bs) k ≡ first_band (drop (i + 1) bs) k
  passed h = here ∙ sym (case_no _ _ _ _ (le-ltb k (get_or bs i d).end h) refl)

  found : k < (get_or bs i d).end → get_or bs i d ≡ first_band (drop i bs) k
  found h = case_yes _ _ _ _ (lt-ltb k (get_or bs i d).end h) refl ∙ sym here

pub loop-b-init : goal.loop-b-init
unfolding band_at
loop-b-init c = refl

pub loop-b-preserved : goal.loop-b-preserved
unfolding bands
loop-b-preserved c = c.loop-b.invariant ∙ passed bands _ c.loop-b.b-index c.args.k c.loop-b-test.true c.if-k-b.false

pub returns-then-k-b : goal.returns-then-k-b
unfolding bands
returns-then-k-b c = found bands _ c.loop-b.b-index c.args.k c.loop-b-test.true c.if-k-b.true ∙ sym c.loop-b.invariant

pub returns : goal.returns
unfolding bands first_band
returns c = let n : c.loop-b.b-index ≡ 9 = omega arith in sym (rw n at c.loop-b.invariant)
