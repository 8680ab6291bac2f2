-- What a list that is ready for a level gives, in plain variables.
use Rattle.std.specs.Prelude.{ℕ, ◌*◌, ◌≤◌, ◌≡◌, Bool, true, false, List, ℤ, length}
use Rattle.std.proofs.Common.{sym, ◌∙◌, true≢false, mul-le-mul, leb-true, eqb-true}
use Rattle.whole.specs.laws.Row.{held}
use Rattle.whole.specs.laws.Tab.{AllNear}
use Rattle.sample.specs.Waves.{is_ready}
use Rattle.sample.specs.laws.Range.{near_of}

pub record Ready (l : List ℤ) (m n : ℕ) : Type 0 where
  pub low : 2 ≤ n
  pub high : n ≤ 32
  pub long : length l ≡ 4096
  pub scratch : m ≡ 4096
  pub near : AllNear 32767 l
  -- the level's bands fit the list
  pub square : n * n ≤ 1024

pub ready_gives : (l : List ℤ) (m n : ℕ) (r : Bool) → r ≡ is_ready l m n → r ≡ true → Ready l m n
unfolding is_ready
ready_gives l m n r e t =
    let no : r ≡ false → ⊥ = λ q. true≢false (sym t ∙ q) in
    let a = held _ _ _ r no e in
    let b = held _ _ _ r no a.1 in
    let c = held _ _ _ r no b.1 in
    let d = held _ _ _ r no c.1 in
    let h = leb-true n 32 b.0 in
    record {
      low = leb-true 2 n a.0;
      high = h;
      long = eqb-true _ _ c.0;
      scratch = eqb-true _ _ d.0;
      near = near_of l r d.1 t;
      square = mul-le-mul h h;
    }
