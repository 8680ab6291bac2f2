-- The two modes of the component code.
use Rattle.std.specs.Prelude.{ℕ, Bool, true, eqb}
use Rattle.whole.specs.Row.{◌⇒◌∣◌}

-- "et is 1 (RLGR1) or 4 (RLGR3)."
unfoldable pub is_mode : ℕ → Bool
is_mode et = eqb et 1 ⇒ true ∣ eqb et 4
