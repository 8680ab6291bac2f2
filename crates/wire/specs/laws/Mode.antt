-- A mode is 1 or 4, and both are modes.
use Rattle.std.specs.Prelude.{ℕ, ◌≡◌, refl, Bool, true, false, ◌⊎◌, eqb}
use Rattle.std.proofs.Common.{inl, inr, ⊎_elim, eqb-true}
use Rattle.whole.specs.Row.{◌⇒◌∣◌}
use Rattle.wire.specs.Mode.{is_mode}

either : (t b : Bool) → (t ⇒ true ∣ b) ≡ true → (t ≡ true) ⊎ (b ≡ true)
unfolding ◌⇒◌∣◌
either true b e = inl refl
either false b e = inr e

pub mode_is : (et : ℕ) → is_mode et ≡ true → (et ≡ 1) ⊎ (et ≡ 4)
unfolding is_mode
mode_is et e = ⊎_elim (λ q. inl (eqb-true et 1 q)) (λ q. inr (eqb-true et 4 q)) (either (eqb et 1) (eqb et 4) e)

pub is_1 : is_mode 1 ≡ true
unfolding is_mode ◌⇒◌∣◌
is_1 = refl

pub is_4 : is_mode 4 ≡ true
unfolding is_mode ◌⇒◌∣◌
is_4 = refl
