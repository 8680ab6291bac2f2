-- What holds where the header writer refuses nothing.
use Rattle.std.specs.Prelude.{ℕ, ◌≤◌, ◌≡◌, true, [], ◌∷◌}
use Rattle.std.proofs.Common.{arith, leb-true}
use Rattle.whole.specs.laws.Row.{held}
use Rattle.whole.specs.Among.{among, Among}
use Rattle.whole.specs.laws.Among.{numbers}
use Rattle.wire.specs.Mode.{is_mode}
use Rattle.session.specs.Header.{size_good}
use Rattle.headers.specs.Headers.{headers_fault}

pub record Writable (w h et room : ℕ) : Type 0 where
  pub size : size_good w h ≡ true
  pub mode : is_mode et ≡ true
  pub fits : 47 ≤ room

pub writable : (w h et room : ℕ) → 0 ≡ headers_fault w h et room → Writable w h et room
unfolding headers_fault
writable w h et room e =
    let a = held _ _ _ _ (λ q. omega arith) e in
    let b = held _ _ _ _ (λ q. omega arith) a.1 in
    let c = held _ _ _ _ (λ q. omega arith) b.1 in
    record { size = a.0; mode = b.0; fits = leb-true 47 room c.0 }

-- which numbers it answers
pub headers_among : (w h et room : ℕ) → Among (0 ∷ 5 ∷ 13 ∷ []) (headers_fault w h et room)
unfolding headers_fault among
headers_among w h et room = search numbers
