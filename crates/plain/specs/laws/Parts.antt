-- A component and its samples: each way out of the two functions, by what the parts said.
use Rattle.std.specs.Prelude.{ℕ, ◌≡◌, refl, ℤ, pos, length, replicate}
use Rattle.std.proofs.Math.Path.{sym, ap}
use Rattle.std.proofs.Common.{subst, ◌∙◌, eq-eqb, ne_eqb}
use mathlib.Core.List.{List}
use Rattle.whole.specs.laws.Row.{passes, fails, stops, goes_on, both}
use Rattle.whole.specs.Row.{◌⨟◌}
use Rattle.whole.specs.laws.Tab.{AllNear}
use Rattle.bands.specs.Bands.{sums_fault, summed, scale_fault, scaled_by}
use Rattle.code.specs.Read.{reading_number, read_fault, decoded, ComponentRead}
use Rattle.code.specs.laws.Read.{read_number, into_decoded, decoded_length, decoded_near}
use Rattle.code.specs.declared.read.Reading.{Reading}
use Rattle.wave_back.specs.Tile.{tile_back}
use Rattle.tile_back.specs.Component.{component_fault, coefficients_of, samples_of}
use Rattle.tile_back.specs.laws.Component.{coefficients_near}
use Rattle.plain.specs.Plain.{component_into, Component, samples_into, Sampled}
use Rattle.plain.specs.laws.Fit.{Fitted}

module _ (mode : ℕ) (q s : List ℕ) (before mid : List ℤ) (r : Reading) (len : length before ≡ 4096) (d : ComponentRead mode s before mid r) (n : ℕ)
    (is : n ≡ reading_number r) where
  fault_is : n ≡ read_fault mode 4096 s
  fault_is = is ∙ read_number mode s before mid r d ∙ ap (λ (k : ℕ). read_fault mode k s) len

  -- the code is refused
  pub part_refused : (n ≡ 0 → ⊥) → Component mode q s before mid n
  unfolding component_fault component_into
  part_refused h = record {
    number = stops _ _ _ (λ z. h (fault_is ∙ z)) fault_is;
    list = fails _ _ _ _ (ne_eqb _ 0 (λ z. h (fault_is ∙ z))) d.list;
  }

  module _ (z : n ≡ 0) where
    read_good : 0 ≡ read_fault mode 4096 s
    read_good = sym z ∙ fault_is

    mid_is : mid ≡ decoded mode s
    mid_is = d.list ∙ into_decoded mode s before (read_good ∙ ap (λ (k : ℕ). read_fault mode k s) (sym len))

    -- what summing and scaling ask for
    pub part_good : (length mid ≡ 4096) × AllNear 32767 mid
    part_good = (ap length mid_is ∙ decoded_length mode 4096 s read_good, subst (AllNear 32767) (sym mid_is) (decoded_near mode 4096 s read_good))

    module _ (after : List ℤ) (m : ℕ) (t : Fitted q mid after m) where
      number_is : m ≡ component_fault mode q s
      unfolding component_fault
      number_is = goes_on _ _ _ (sym read_good) (t.number ∙ ap (λ (xs : List ℤ). sums_fault xs ⨟ scale_fault q (summed xs)) mid_is)

      -- a sum or a scaled value is out of range, and the list is cleared
      pub part_bad : (zeros : List ℤ) → (m ≡ 0 → ⊥) → zeros ≡ replicate 4096 (pos 0) → Component mode q s before zeros m
      unfolding component_into
      part_bad zeros h e = record {
        number = number_is;
        list = passes _ _ _ _ (eq-eqb _ 0 (sym read_good)) (fails _ _ _ _ (ne_eqb _ 0 (λ y. h (number_is ∙ y))) e);
      }

      pub part_done : m ≡ 0 → Component mode q s before after m
      unfolding component_into coefficients_of
      part_done y = record {
        number = number_is;
        list = passes _ _ _ _ (eq-eqb _ 0 (sym read_good)) (passes _ _ _ _ (eq-eqb _ 0 (sym number_is ∙ y))
            (t.list y ∙ ap (λ (xs : List ℤ). scaled_by q (summed xs)) mid_is));
      }

module _ (mode : ℕ) (q s : List ℕ) (before mid : List ℤ) (n : ℕ) (t : Component mode q s before mid n) where
  pub samples_refused : (n ≡ 0 → ⊥) → Sampled mode q s before mid n
  unfolding samples_into
  samples_refused h = record { number = t.number; list = fails _ _ _ _ (ne_eqb _ 0 (λ z. h (t.number ∙ z))) t.list }

  module _ (z : n ≡ 0) where
    no_fault : 0 ≡ component_fault mode q s
    no_fault = sym z ∙ t.number

    pub coefficients_is : mid ≡ coefficients_of mode q s
    unfolding component_into component_fault
    coefficients_is =
        t.list ∙ sym (passes _ _ _ _ (eq-eqb _ 0 (sym (both (read_fault mode 4096 s) _ no_fault).0)) (passes _ _ _ _ (eq-eqb _ 0 (sym no_fault)) refl))

    -- what the wavelet asks for
    pub coefficients_good : (length mid ≡ 4096) × AllNear 32767 mid
    coefficients_good =
        let g = coefficients_near mode q s no_fault in
        (ap length coefficients_is ∙ g.0, subst (AllNear 32767) (sym coefficients_is) g.1)

    pub samples_done : (after : List ℤ) → after ≡ tile_back mid → Sampled mode q s before after n
    unfolding samples_into samples_of
    samples_done after e = record { number = t.number; list = passes _ _ _ _ (eq-eqb _ 0 (sym no_fault)) (e ∙ ap tile_back coefficients_is) }
