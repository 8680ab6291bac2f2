-- Laws of the readers that branch: the entries, as many as are said.
-- Assumes nothing.
use Rattle.std.specs.Prelude.{ℕ, ◌≡◌, refl, Bool, true, false, List, eqb}
use Rattle.std.proofs.Common.{ap, sym, ◌∙◌, eq-eqb, ne_eqb, eqb-true}
use Rattle.std.proofs.lemmas.Bool.{eqb-false}
use Rattle.whole.specs.laws.Row.{case_yes, case_no}
use Rattle.caps.specs.Walk.{Layout, gives, ◌then◌, Came, Stopped, walk}
use Rattle.caps.specs.Caps.{entry, entries, Entries, no_entry, one_entry, two_entries}
use Rattle.caps.specs.laws.Walk.{gives_back}
use Rattle.caps.specs.laws.Step.{then_on, stops_then}
use Rattle.caps.specs.declared.Entry.{Entry}

none_are : (n : ℕ) → n ≡ 0 → entries n ≡ gives no_entry
unfolding entries
none_are n h = sym (case_yes _ _ _ _ (eq-eqb n 0 h) refl)

one_is : (n : ℕ) → (n ≡ 0 → ⊥) → n ≡ 1 → entries n ≡ (entry then λ e. gives (one_entry e))
unfolding entries
one_is n z h = sym (case_no _ _ _ _ (ne_eqb n 0 z) (case_yes _ _ _ _ (eq-eqb n 1 h) refl))

two_are : (n : ℕ) → (n ≡ 0 → ⊥) → (n ≡ 1 → ⊥) → entries n ≡ (entry then λ e. entry then λ f. gives (two_entries e f))
unfolding entries
two_are n z h = sym (case_no _ _ _ _ (ne_eqb n 0 z) (case_no _ _ _ _ (ne_eqb n 1 h) refl))

module _ (n : ℕ) (m : List ℕ) where
  at : (l : Layout Entries) → entries n ≡ l → walk (entries n) m ≡ walk l m
  at l e = ap (λ (k : Layout Entries). walk k m) e

  pub none_read : n ≡ 0 → walk (entries n) m ≡ Came no_entry m
  none_read h = at _ (none_are n h) ∙ gives_back _ m

  module _ (z : n ≡ 0 → ⊥) where
    pub first_refused : (k : ℕ) → walk entry m ≡ Stopped k → walk (entries n) m ≡ Stopped k
    first_refused k q = go (eqb n 1) refl
      where
        go : (t : Bool) → eqb n 1 ≡ t → walk (entries n) m ≡ Stopped k
        go true t = at _ (one_is n z (eqb-true n 1 t)) ∙ stops_then entry _ m _ q
        go false t = at _ (two_are n z (eqb-false n 1 t)) ∙ stops_then entry _ m _ q

    module _ (e : Entry) (m' : List ℕ) (p : walk entry m ≡ Came e m') where
      pub one_read : n ≡ 1 → walk (entries n) m ≡ Came (one_entry e) m'
      one_read h = at _ (one_is n z h) ∙ then_on entry m _ p ∙ gives_back _ m'

      module _ (h : n ≡ 1 → ⊥) where
        pub second_refused : (k : ℕ) → walk entry m' ≡ Stopped k → walk (entries n) m ≡ Stopped k
        second_refused k q = at _ (two_are n z h) ∙ then_on entry m _ p ∙ stops_then entry _ m' _ q

        pub two_read : (f : Entry) (m'' : List ℕ) → walk entry m' ≡ Came f m'' → walk (entries n) m ≡ Came (two_entries e f) m''
        two_read f m'' q = at _ (two_are n z h) ∙ then_on entry m _ p ∙ then_on entry m' _ q ∙ gives_back _ m''
