-- The wavelet by its indices: a line that stands in a list every `step` numbers, the row pass and the column pass place by place.
use Rattle.std.specs.Prelude.{ℕ, ◌+◌, ◌*◌, ◌-◌, ◌/◌, ◌%◌, ◌≤◌, ◌<◌, ◌≡◌, Bool, true, false, List, ltb, ℤ, pos, length, take, drop}
use Rattle.std.proofs.Math.Path.{refl, sym, ap, subst}
use Rattle.std.proofs.Common.{◌∙◌, add-mul, div-lt_iff_lt-mul, lt-ltb, le-ltb, lit≤, length-take-le, get_or-take, get_or-drop}
use Rattle.std.proofs.Math.Nat.{mod-lt}
use Rattle.std.proofs.Math.Decide.{dec_lt}
use native.Mathlib.Omega.{arith}
use Rattle.std.proofs.Math.Arith.{digits_div, digits_mod}
use Rattle.std.proofs.Math.ListN.{get_or-append}
use Rattle.std.proofs.Math.Seq.{get_or-append-add}
use Rattle.whole.specs.Row.{◌⇒◌∣◌}
use Rattle.whole.specs.laws.Row.{case_yes, case_no}
use Rattle.whole.specs.laws.Near.{Near, wide_near}
use Rattle.whole.specs.Tab.{at, grid}
use Rattle.whole.specs.laws.Tab.{AllNear, at_tab, row_in}
use Rattle.bands.specs.laws.Part.{Done}
use Rattle.wave_back.specs.Line.{row_avg, col_avg, even_at, odd_at, by_parity, line_at}
use Rattle.wave_back.specs.Tile.{low_at, high_at, level_at, level}
use Rattle.wave_back.specs.laws.Line.{line_cong, line_tight, row_mean}
use Rattle.wave_back.specs.laws.Level.{level_from}

-- the average of the odd step: along a row, or down a column
unfoldable pub avg_of : Bool → ℤ → ℤ → ℤ
avg_of true = row_avg
avg_of false = col_avg

-- x[k] of the line whose L stands in S from place l on and whose H from place h on, every `step` numbers
abbrev pub line_of : Bool → ℕ → (ℕ → ℤ) → ℕ → ℕ → ℕ → ℕ → ℤ
line_of along n S l h step k = line_at (avg_of along) n (λ c. S (l + step * c)) (λ c. S (h + step * c)) k

-- the line lies in the list, and its numbers are small enough for a machine's step
pub record Line (src : List ℤ) (l h step n : ℕ) : Type 0 where
  pub len : length src ≡ 4096
  pub low : (c : ℕ) → c < n → l + step * c < 4096
  pub high : (c : ℕ) → c < n → h + step * c < 4096
  pub near_low : (c : ℕ) → c < n → Near 268435456 (at src (l + step * c))
  pub near_high : (c : ℕ) → c < n → Near 268435456 (at src (h + step * c))

pub line_even : (avg : ℤ → ℤ → ℤ) (n : ℕ) (L H : ℕ → ℤ) (k : ℕ) → k % 2 ≡ 0 → even_at L H (k / 2) ≡ line_at avg n L H k
unfolding line_at
line_even avg n L H k e = ap (λ (m : ℕ). by_parity m (even_at L H (k / 2)) (odd_at avg n H (even_at L H) (k / 2))) (sym e)

pub line_odd : (avg : ℤ → ℤ → ℤ) (n : ℕ) (L H : ℕ → ℤ) (k : ℕ) → (k % 2 ≡ 0 → ⊥) → odd_at avg n H (even_at L H) (k / 2) ≡ line_at avg n L H k
unfolding line_at
line_odd avg n L H k h =
    let e : k % 2 ≡ 1 = omega arith in
    ap (λ (m : ℕ). by_parity m (even_at L H (k / 2)) (odd_at avg n H (even_at L H) (k / 2))) (sym e)

-- a level's numbers: from place `from` to the end of the list, n by n in each of its four bands
pub record Level (xs : List ℤ) (from n : ℕ) : Type 0 where
  pub some : 1 ≤ n
  pub small : n ≤ 32
  pub len : length xs ≡ 4096
  pub fits : from + 4 * (n * n) ≡ 4096
  pub near : AllNear 67108863 xs

-- place x of row r after the row pass: the low rows, then the high rows
unfoldable pub rows_at : ℕ → (ℕ → ℤ) → ℕ → ℕ → ℤ
rows_at n f r x = ltb r n ⇒ low_at n f r x ∣ high_at n f (r - n) x

pub record Passed (n : ℕ) (f : ℕ → ℤ) (tmp : List ℤ) : Type 0 where
  pub place : (k : ℕ) → k < 2 * n * (2 * n) → at tmp k ≡ rows_at n f (k / (2 * n)) (k % (2 * n))

module _ (xs : List ℤ) (from n : ℕ) (g : Level xs from n) where
  abbrev f : ℕ → ℤ
  f = at (drop from xs)

  place_is : (i k : ℕ) → i ≡ from + k → at xs i ≡ f k
  place_is i k e = ap (at xs) e ∙ sym (get_or-drop from xs k (pos 0))

  f_near : (k : ℕ) → Near 67108863 (f k)
  f_near k = subst (Near 67108863) (place_is (from + k) k refl) (g.near.all (from + k))

  all_near : (i : ℕ) → Near 268435456 (at xs i)
  all_near i = wide_near (lit≤ tt) (g.near.all i)

  -- ---- "Rows first (LL with HL, LH with HH)"

  pub low_line : (r : ℕ) → r < n → Line xs (from + r * n + 3 * (n * n)) (from + r * n) 1 n
  low_line r q = record {
    len = g.len;
    low = λ c h. omega (arith, row_in r n n q, g.fits);
    high = λ c h. omega (arith, row_in r n n q, g.fits);
    near_low = λ c h. all_near _;
    near_high = λ c h. all_near _;
  }

  -- the high rows stand behind the low ones, LH's where HL's end
  high-at : (r : ℕ) → n ≤ r → r * n ≡ n * n + (r - n) * n
  high-at r p =
      let e : r ≡ n + (r - n) = omega arith in
      ap (λ (m : ℕ). m * n) e ∙ add-mul n (r - n) n

  pub high_line : (r : ℕ) → n ≤ r → r < 2 * n → Line xs (from + r * n) (from + r * n + n * n) 1 n
  high_line r p q = record {
    len = g.len;
    low = λ c h. omega (arith, row_in (r - n) n n (omega arith), high-at r p, g.fits);
    high = λ c h. omega (arith, row_in (r - n) n n (omega arith), high-at r p, g.fits);
    near_low = λ c h. all_near _;
    near_high = λ c h. all_near _;
  }

  pub low_is : (r x : ℕ) → r < n → x < 2 * n → line_of true n (at xs) (from + r * n + 3 * (n * n)) (from + r * n) 1 x ≡ rows_at n f r x
  unfolding rows_at avg_of
  low_is r x q j =
      case_yes (ltb r n) _ _ _ (lt-ltb r n q)
      (line_cong row_avg n n _ _ _ _ refl (λ c h. place_is _ (3 * (n * n) + (r * n + c)) (omega arith)) (λ c h. place_is _ (r * n + c) (omega arith)) x j)

  pub high_is : (r x : ℕ) → n ≤ r → x < 2 * n → line_of true n (at xs) (from + r * n) (from + r * n + n * n) 1 x ≡ rows_at n f r x
  unfolding rows_at avg_of
  high_is r x p j =
      case_no (ltb r n) _ _ _ (le-ltb r n p)
      (line_cong row_avg n n _ _ _ _ refl (λ c h. place_is _ (n * n + ((r - n) * n + c)) (omega (arith, high-at r p)))
      (λ c h. place_is _ (2 * (n * n) + ((r - n) * n + c)) (omega (arith, high-at r p))) x j)

  rows_near : (r x : ℕ) → x < 2 * n → Near 268435456 (rows_at n f r x)
  unfolding rows_at
  rows_near r x j = by (dec_lt r n)
    where
      by : Dec (r < n) → Near 268435456 (ltb r n ⇒ low_at n f r x ∣ high_at n f (r - n) x)
      by (yes h) = subst (Near 268435456) (case_yes (ltb r n) _ _ _ (lt-ltb r n h) refl)
          (wide_near {A = 67108863 + 3 * 67108863 + 1} (lit≤ tt) (line_tight row_mean n _ _ (λ c i. f_near _) (λ c i. f_near _) x j))
      by (no h) = subst (Near 268435456) (case_no (ltb r n) _ _ _ (le-ltb r n (omega arith)) refl)
          (wide_near {A = 67108863 + 3 * 67108863 + 1} (lit≤ tt) (line_tight row_mean n _ _ (λ c i. f_near _) (λ c i. f_near _) x j))

  -- ---- "then columns"

  module _ (tmp : List ℤ) (t : length tmp ≡ 4096) (p : Passed n f tmp) where
    tmp_near : (k : ℕ) → k < 2 * n * (2 * n) → Near 268435456 (at tmp k)
    tmp_near k h = subst (Near 268435456) (sym (p.place k h)) (rows_near (k / (2 * n)) (k % (2 * n)) (mod-lt k (omega (arith, g.some))))

    pub col_line : (x : ℕ) → x < 2 * n → Line tmp x (n * (2 * n) + x) (2 * n) n
    col_line x j = record {
      len = t;
      low = λ c h. omega (arith, row_in c (2 * n) (2 * n) (omega arith), g.fits);
      high = λ c h. omega (arith, row_in (n + c) (2 * n) (2 * n) (omega arith), g.fits);
      near_low = λ c h. tmp_near _ (omega (arith, row_in c (2 * n) (2 * n) (omega arith)));
      near_high = λ c h. tmp_near _ (omega (arith, row_in (n + c) (2 * n) (2 * n) (omega arith)));
    }

    cell : (i r x : ℕ) → r < 2 * n → x < 2 * n → i ≡ r * (2 * n) + x → at tmp i ≡ rows_at n f r x
    cell i r x q j e =
        ap (at tmp) e ∙ p.place (r * (2 * n) + x) (omega (arith, row_in r (2 * n) (2 * n) q))
        ∙ ap (λ (m : ℕ). rows_at n f m ((r * (2 * n) + x) % (2 * n))) (digits_div r j) ∙ ap (rows_at n f r) (digits_mod r j)

    low_cell : (x c : ℕ) → x < 2 * n → c < n → at tmp (x + 2 * n * c) ≡ low_at n f c x
    unfolding rows_at
    low_cell x c j h = cell (x + 2 * n * c) c x (omega arith) j (omega arith) ∙ sym (case_yes (ltb c n) _ _ _ (lt-ltb c n h) refl)

    high_cell : (x c : ℕ) → x < 2 * n → c < n → at tmp (n * (2 * n) + x + 2 * n * c) ≡ high_at n f c x
    unfolding rows_at
    high_cell x c j h =
        let e : n + c - n ≡ c = omega arith in
        cell (n * (2 * n) + x + 2 * n * c) (n + c) x (omega arith) j (omega arith)
        ∙ sym (case_no (ltb (n + c) n) _ _ _ (le-ltb (n + c) n (omega arith)) refl) ∙ ap (λ (m : ℕ). high_at n f m x) e

    -- what is stored at place k of the level
    pub col_is : (k : ℕ) → k < 2 * n * (2 * n) →
        line_of false n (at tmp) (k % (2 * n)) (n * (2 * n) + k % (2 * n)) (2 * n) (k / (2 * n)) ≡ at (level_from from n xs) (from + k)
    unfolding level grid avg_of
    col_is k h =
        let w : 0 < 2 * n = omega (arith, g.some) in
        let j = mod-lt k w in
        line_cong col_avg n n _ _ _ _ refl (λ c i. low_cell (k % (2 * n)) c j i) (λ c i. high_cell (k % (2 * n)) c j i) (k / (2 * n))
        ((div-lt_iff_lt-mul w).1 h)
        ∙ sym (ap (λ (m : ℕ). at (level_from from n xs) (m + k)) (sym (length-take-le from xs (omega (arith, g.fits, g.len))))
        ∙ get_or-append-add (take from xs) (level n (drop from xs)) k (pos 0) ∙ at_tab (2 * n * (2 * n)) (λ (i : ℕ). level_at n f (i / (2 * n)) (i % (2 * n)))
        k h)

  pub col_start : Done (at (level_from from n xs)) (from + 0) xs xs
  col_start = record {
    same = refl;
    done = λ k h. sym (get_or-append (take from xs) (level n (drop from xs)) (pos 0) k
        (omega (arith, length-take-le from xs (omega (arith, g.fits, g.len)))) ∙ get_or-take from xs k (pos 0) (omega arith));
    rest = λ k h. refl;
  }
