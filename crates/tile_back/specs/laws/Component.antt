-- Laws of a component: the two ways out of its check, and what "no fault" gives to who decodes it to draw.
-- Assumes nothing.
use Prim.Native.Nat.{ℕ}
use Rattle.std.specs.Prelude.{◌≡◌, refl, length}
use Rattle.std.proofs.Common.{sym, ◌∙◌}
use Rattle.std.proofs.Math.Path.{ap, subst}
use mathlib.Core.List.{List}
use Rattle.std.proofs.Math.IntN.{ℤ}
use Rattle.whole.specs.laws.Tab.{AllNear}
use Rattle.whole.specs.Row.{◌⨟◌}
use Rattle.whole.specs.laws.Row.{both, stops, goes_on}
use Rattle.bands.specs.Bands.{range_fault, sums_fault, summed, scale_fault, scaled_by, coefficients_fault}
use Rattle.bands.specs.laws.Part.{summed_near, scaled_near}
use Rattle.bands.specs.laws.Judge.{range_none}
use Rattle.code.specs.Read.{reading_number, read_fault, decoded, ComponentRead}
use Rattle.code.specs.laws.Read.{read_number, into_decoded, decoded_length, decoded_near}
use Rattle.code.specs.declared.read.Reading.{Reading}
use Rattle.tile_back.specs.Component.{component_fault, coefficients_of, Checked}

-- ---- the check

module _ (mode : ℕ) (q s : List ℕ) (before after : List ℤ) (r : Reading) (len : length before ≡ 4096) (d : ComponentRead mode s before after r) (n : ℕ)
    (is : n ≡ reading_number r) where
  fault_is : n ≡ read_fault mode 4096 s
  fault_is = is ∙ read_number mode s before after r d ∙ ap (λ (k : ℕ). read_fault mode k s) len

  -- the code is refused
  pub read_refused : (n ≡ 0 → ⊥) → Checked mode q s before after n
  unfolding component_fault
  read_refused h = record { number = stops _ _ _ (λ z. h (fault_is ∙ z)) fault_is; list = d.list }

  module _ (z : n ≡ 0) where
    is_read : (0 ≡ read_fault mode 4096 s) × (after ≡ decoded mode s)
    is_read =
        let f : 0 ≡ read_fault mode 4096 s = sym z ∙ fault_is in
        (f, d.list ∙ into_decoded mode s before (f ∙ ap (λ (k : ℕ). read_fault mode k s) (sym len)))

    -- the code is taken: its list is judged as it stands
    pub list_judged : (m : ℕ) → m ≡ coefficients_fault q after → Checked mode q s before after m
    unfolding component_fault coefficients_fault
    list_judged m e =
        let then : List ℤ → ℕ = λ xs. sums_fault xs ⨟ scale_fault q (summed xs) in
        let near : AllNear 32767 after = subst (AllNear 32767) (sym is_read.1) (decoded_near mode 4096 s is_read.0) in
        let f : m ≡ then (decoded mode s) = e ∙ (sym (goes_on (range_fault after) (then after) (then after) (range_none after near) refl)
        ∙ ap then is_read.1) in
        record { number = goes_on _ _ _ (sym is_read.0) f; list = d.list }

-- ---- a component that has no fault, decoded to draw: what each step needs, and where it ends

module _ (mode : ℕ) (q s : List ℕ) (e : 0 ≡ component_fault mode q s) where
  pub code_good : 0 ≡ read_fault mode 4096 s
  unfolding component_fault
  code_good = (both (read_fault mode 4096 s) _ e).0

  sums_good : (0 ≡ sums_fault (decoded mode s)) × (0 ≡ scale_fault q (summed (decoded mode s)))
  unfolding component_fault
  sums_good = both (sums_fault (decoded mode s)) _ (both (read_fault mode 4096 s) _ e).1

  pub decoded_good : (xs : List ℤ) → xs ≡ decoded mode s → (length xs ≡ 4096) × AllNear 32767 xs
  decoded_good xs p = (ap length p ∙ decoded_length mode 4096 s code_good, subst (AllNear 32767) (sym p) (decoded_near mode 4096 s code_good))

  pub summed_good : (xs ys : List ℤ) → xs ≡ decoded mode s → ys ≡ summed xs → (length ys ≡ 4096) × AllNear 32767 ys
  summed_good xs ys p w =
      let g = summed_near (decoded mode s) (decoded_length mode 4096 s code_good) (decoded_near mode 4096 s code_good) sums_good.0 in
      let l = w ∙ ap summed p in
      (ap length l ∙ g.0, subst (AllNear 32767) (sym l) g.1)

  pub coefficients_are : (xs ys zs : List ℤ) → xs ≡ decoded mode s → ys ≡ summed xs → zs ≡ scaled_by q ys → zs ≡ coefficients_of mode q s
  unfolding coefficients_of
  coefficients_are xs ys zs p w v = v ∙ ap (scaled_by q) (w ∙ ap summed p)

  pub coefficients_near : (length (coefficients_of mode q s) ≡ 4096) × AllNear 32767 (coefficients_of mode q s)
  unfolding coefficients_of
  coefficients_near = scaled_near q (summed (decoded mode s)) sums_good.1
