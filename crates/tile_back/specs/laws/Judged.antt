-- The frame writer's "9 (as the reader would judge)": what the writer says of a list is what the reader says of the bytes of that list's code.
-- Assumes nothing.
use Prim.Native.Nat.{ℕ, ◌≤◌, ◌<◌}
use Rattle.std.specs.Prelude.{◌≡◌, refl, true, pos, nat_abs, length, get_or}
use Rattle.std.proofs.Math.Path.{sym, ap}
use Rattle.std.proofs.Common.{◌∙◌, arith}
use mathlib.Core.List.{List}
use Rattle.std.proofs.Math.Decide.{dec_lt}
use Rattle.std.proofs.Math.IntN.{ℤ}
use Rattle.std.proofs.Math.ListN.{get_or-eq_default}
use Rattle.whole.specs.Row.{◌⨟◌}
use Rattle.whole.specs.laws.Row.{held, goes_on, both}
use Rattle.whole.specs.Tab.{at}
use Rattle.bits.specs.Bytes.{Written}
use Rattle.wire.specs.Mode.{is_mode}
use Rattle.code.specs.Read.{read_fault, decoded}
use Rattle.code.specs.OneCode.{code, Listed}
use Rattle.code.specs.laws.OneCode.{written_decoded}
use Rattle.bands.specs.Bands.{all_in, range_fault, sums_fault, summed, scale_fault, scaled_by, coefficients_fault}
use Rattle.bands.specs.laws.Range.{all_each}
use Rattle.bands.specs.laws.Judge.{range_none}
use Rattle.wave_back.specs.Tile.{tile_back}
use Rattle.tile_back.specs.Component.{component_fault, coefficients_of, samples_of}

-- a list that has no fault of range is in range
none_range : (zs : List ℤ) → length zs ≡ 4096 → 0 ≡ range_fault zs → Listed zs
unfolding range_fault
none_range zs l e = record { len = l; range = λ i. place i (dec_lt i (length zs)) }
  where
    place : (i : ℕ) → Dec (i < length zs) → nat_abs (get_or zs i (pos 0)) ≤ 32767
    place i (yes h) = (all_each (at zs) (length zs) (held (all_in (at zs) (length zs)) 9 0 0 (λ z. omega arith) e).0 i h).near
    place i (no h) = let d : get_or zs i (pos 0) ≡ pos 0 = get_or-eq_default zs (pos 0) {n = i} (omega arith) in omega (arith, ap nat_abs d)

module _ (mode : ℕ) (q s : List ℕ) (zs : List ℤ) (known : is_mode mode ≡ true) (small : length s ≤ 65535) (bytes : Written s (code mode zs)) where
  -- of a list that has a code: both say the same
  pub judged_alike : Listed zs → component_fault mode q s ≡ coefficients_fault q zs
  unfolding component_fault coefficients_fault
  judged_alike l =
      let w = written_decoded mode s zs known small l bytes in
      let then : List ℤ → ℕ = λ xs. sums_fault xs ⨟ scale_fault q (summed xs) in
      sym (goes_on (read_fault mode 4096 s) (then (decoded mode s)) (then (decoded mode s)) w.0 refl)
      ∙ (ap then w.1 ∙ goes_on (range_fault zs) (then zs) (then zs) (range_none zs (record { all = λ i. record { near = l.range i } })) refl)

  -- of a list that the writer takes: the reader takes its code, and makes the samples of that list
  module _ (len : length zs ≡ 4096) (fine : 0 ≡ coefficients_fault q zs) where
    pub writer_listed : Listed zs
    unfolding coefficients_fault
    writer_listed = none_range zs len (both (range_fault zs) _ fine).0

    pub reader_takes : 0 ≡ component_fault mode q s
    reader_takes = fine ∙ sym (judged_alike writer_listed)

    pub reader_samples : samples_of mode q s ≡ tile_back (scaled_by q (summed zs))
    unfolding samples_of coefficients_of
    reader_samples = ap (λ (xs : List ℤ). tile_back (scaled_by q (summed xs))) (written_decoded mode s zs known small writer_listed bytes).1
