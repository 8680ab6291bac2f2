-- A flag that is both, and a mode by its number.
use Rattle.std.specs.Prelude.{ℕ, ◌≡◌, Bool, true, false, not, eqb}
use Rattle.std.proofs.Common.{ap, ◌∙◌, arith, ne_eqb, eqb-true}
use Rattle.std.proofs.lemmas.Bool.{not-true, not-false}
use Rattle.whole.specs.Row.{◌⇒◌∣◌}
use Rattle.wire.specs.Mode.{is_mode}
use Rattle.wire.specs.laws.Mode.{is_1, is_4}

pub clash : (b : Bool) → b ≡ true → b ≡ false → ⊥
clash true p q = let z : ◌≡◌ {A = ℕ} 0 1 = cc in omega arith
clash false p q = let z : ◌≡◌ {A = ℕ} 0 1 = cc in omega arith

pub mode_1 : (mode : ℕ) → mode ≡ 1 → is_mode mode ≡ true
mode_1 mode e = ap is_mode e ∙ is_1

-- the second half of a test for neither
pub mode_4 : (mode : ℕ) → not (eqb mode 4) ≡ false → is_mode mode ≡ true
mode_4 mode e = ap is_mode (eqb-true mode 4 (not-false (eqb mode 4) e)) ∙ is_4

pub mode_none : (mode : ℕ) → (mode ≡ 1 → ⊥) → not (eqb mode 4) ≡ true → is_mode mode ≡ false
unfolding is_mode ◌⇒◌∣◌
mode_none mode p q = rw (ne_eqb mode 1 p, not-true (eqb mode 4) q)
