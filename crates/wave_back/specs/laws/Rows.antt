-- One turn of the row pass, on plain lists.
use Rattle.std.specs.Prelude.{◌≡◌, List, ℕ, ◌+◌, ◌*◌, ◌-◌, ◌≤◌, ◌<◌, ℤ, length, take, drop}
use Rattle.std.proofs.Common.{◌∙◌, ap, arith, below_more}
use borrow.Rule.Slice.PartMut.{put_mid}
use Rattle.whole.specs.Tab.{at, table}
use Rattle.whole.specs.laws.Tab.{at_tab, length_tab, row_in}
use Rattle.whole.specs.laws.Part.{part_length, part_at, put_below, put_in}
use Rattle.wave_back.specs.Line.{row_avg, line_at, row_at}
use Rattle.wave_back.specs.laws.Line.{line_cong}

-- the rows below r are done
abbrev pub Done : ℕ → List ℤ → List ℤ → List ℤ → ℕ → Type 0
Done n lo hi out r = (y : ℕ) → y < r → (x : ℕ) → x < 2 * n → at out (y * (2 * n) + x) ≡ row_at n (at lo) (at hi) y x

module _ (n r : ℕ) (lo hi out ys : List ℤ) (h : r < n) (el : length lo ≡ n * n) (eh : length hi ≡ n * n) (eo : length out ≡ n * (2 * n)) where
  -- the part of lo that is row r
  abbrev row_of : List ℤ → List ℤ
  row_of xs = take (r * n + n - r * n) (drop (r * n) xs)

  row_length : length (row_of lo) ≡ n
  row_length = part_length lo (r * n) (r * n + n) (omega arith) (omega (arith, row_in r n n h)) ∙ omega arith

  cell : (xs : List ℤ) (c : ℕ) → c < n → at (row_of xs) c ≡ at xs (r * n + c)
  cell xs c k = part_at xs (r * n) (r * n + n - r * n) c (omega arith)

  pub turn :
      ys ≡ table (2 * length (row_of lo)) (line_at row_avg (length (row_of lo)) (at (row_of lo)) (at (row_of hi))) → Done n lo hi out r →
      Done n lo hi (put_mid (r * (2 * n)) (r * (2 * n) + 2 * n - r * (2 * n)) out ys) (r + 1)
  turn e done =
      below_more (λ y. (x : ℕ) → x < 2 * n → at whole (y * (2 * n) + x) ≡ row_at n (at lo) (at hi) y x) r
      (λ y k x j. put_below out ys p w fits same (y * (2 * n) + x) (omega (arith, row_in y r (2 * n) k)) ∙ done y k x j)
      (λ x j. put_in out ys p w fits same x (omega arith) ∙ ap (λ (l : List ℤ). at l x) e ∙ at_tab (2 * length (row_of lo)) _ x (omega (arith, row_length))
      ∙ line_cong row_avg (length (row_of lo)) n _ _ _ _ row_length (cell lo) (cell hi) x j)
    where
      p : ℕ
      p = r * (2 * n)

      w : ℕ
      w = r * (2 * n) + 2 * n - r * (2 * n)

      whole : List ℤ
      whole = put_mid p w out ys

      fits : p + w ≤ length out
      fits = omega (arith, row_in r n (2 * n) h)

      same : length ys ≡ w
      same = ap length e ∙ length_tab (2 * length (row_of lo)) _ ∙ omega (arith, row_length)
