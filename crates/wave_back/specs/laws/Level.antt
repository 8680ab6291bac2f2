-- Laws of one level: the row pass's list, the level as the columns of it, and how far the numbers can grow.
use Rattle.std.specs.Prelude.{◌≡◌, refl, List, ◌++◌, ℕ, ◌+◌, ◌*◌, ◌-◌, ◌≤◌, ◌<◌, ℤ, pos, length, take, drop}
use Rattle.std.proofs.Common.{sym, ◌∙◌, ap, subst, append-nil, zero-add, arith, lit≤, length-take, length-drop, length-append, drop_of_length-le, take_at}
use Rattle.std.proofs.Common.{drop_at, get_or-append-add, length-take-le, get_or-take, get_or-drop}
use Rattle.std.proofs.Math.Decide.{dec_lt}
use Rattle.std.proofs.Math.ListN.{get_or-append}
use borrow.Rule.Slice.PartMut.{put_mid}
use Rattle.whole.specs.laws.Near.{Near, wide_near}
use Rattle.whole.specs.Tab.{at, grid}
use Rattle.whole.specs.laws.Tab.{at_grid, length_grid, row_in, AllNear}
use Rattle.whole.specs.laws.Part.{part_at}
use Rattle.wave_back.specs.Line.{row_avg, col_avg, row_at}
use Rattle.wave_back.specs.laws.Line.{line_cong, line_tight, row_mean, col_mean}
use Rattle.whole.specs.laws.More.{grid_cong, grid_within, append_near, nest_take, nest_drop}
use Rattle.wave_back.specs.Tile.{low_at, high_at, level_at, level, tile_back}
use Rattle.wave_back.specs.laws.Column.{col_at}

row_cong :
    (n : ℕ) (L H F G : ℕ → ℤ) → ((k : ℕ) → k < n * n → L k ≡ F k) → ((k : ℕ) → k < n * n → H k ≡ G k) → (r : ℕ) → r < n → (x : ℕ) → x < 2 * n →
    row_at n L H r x ≡ row_at n F G r x
row_cong n L H F G p q r h x j =
    line_cong row_avg n n _ _ _ _ refl (λ c i. p (r * n + c) (omega (arith, row_in r n n h))) (λ c i. q (r * n + c) (omega (arith, row_in r n n h))) x j

module _ (n : ℕ) (region : List ℤ) (one : 1 ≤ n) (er : length region ≡ 4 * (n * n)) where
  -- what stands at place k of the part from a to e
  band : (a e : ℕ) (k : ℕ) → k < e - a → at (take (e - a) (drop a region)) k ≡ at region (a + k)
  band a e k h = part_at region a (e - a) k h

  pub low_rows :
      grid n (2 * n) (row_at n (at (take (4 * (n * n) - 3 * (n * n)) (drop (3 * (n * n)) region))) (at (take (n * n - 0) (drop 0 region)))) ≡ grid n (2 * n)
      (low_at n (at region))
  low_rows =
      grid_cong n (2 * n) _ _ (omega arith)
      (row_cong n _ _ _ _ (λ k h. band (3 * (n * n)) (4 * (n * n)) k (omega arith)) (λ k h. band 0 (n * n) k (omega arith) ∙ ap (at region) (zero-add k)))

  pub high_rows :
      grid n (2 * n) (row_at n (at (take (2 * (n * n) - n * n) (drop (n * n) region))) (at (take (3 * (n * n) - 2 * (n * n)) (drop (2 * (n * n)) region))))
      ≡ grid n (2 * n) (high_at n (at region))
  high_rows =
      grid_cong n (2 * n) _ _ (omega arith)
      (row_cong n _ _ _ _ (λ k h. band (n * n) (2 * (n * n)) k (omega arith)) (λ k h. band (2 * (n * n)) (3 * (n * n)) k (omega arith)))

-- lengths of a level's parts; on plain numbers, where omega has few hypotheses to split
pub quarter : (q a k : ℕ) (xs : List ℤ) → length xs ≡ 4 * q → k ≡ q → a ≤ 3 * q → length (take k (drop a xs)) ≡ q
quarter q a k xs f g h = simp (length-take, length-drop) (omega arith)

pub second_half :
    (n : ℕ) (f tmp : List ℤ) → length f ≡ n * (2 * n) → length tmp ≡ 4 * (n * n) →
    length (take (4 * (n * n) - 2 * (n * n)) (drop (2 * (n * n)) (f ++ drop (2 * (n * n) - 0) tmp))) ≡ n * (2 * n)
second_half n f tmp ef et = simp (length-take, length-drop, length-append) (omega arith)

-- two halves, put one after the other into a list that they fill
pub halves :
    (n : ℕ) (tmp f g : List ℤ) → length tmp ≡ 4 * (n * n) → length f ≡ n * (2 * n) → length g ≡ n * (2 * n) →
    put_mid (2 * (n * n)) (4 * (n * n) - 2 * (n * n)) (f ++ drop (2 * (n * n) - 0) tmp) g ≡ f ++ g
halves n tmp f g et ef eg =
    let h = 2 * (n * n) in
    let k = 4 * (n * n) - 2 * (n * n) in
    let r = drop (h - 0) tmp in
    let e : length f ≡ h = omega arith in
    ap (λ (l : List ℤ). l ++ (g ++ drop k (drop h (f ++ r)))) (take_at f r h e)
    ∙ ap (λ (l : List ℤ). f ++ (g ++ drop k l)) (drop_at f r h e)
    ∙ ap (λ (l : List ℤ). f ++ (g ++ l)) (drop_of_length-le r {i = k} (simp length-drop (omega arith)))
    ∙ ap (λ (l : List ℤ). f ++ l) (append-nil g)

-- the columns of the row pass's list are the level
pub level_is :
    (n : ℕ) (region : List ℤ) → 1 ≤ n →
    grid (2 * n) (2 * n) (col_at n (at (grid n (2 * n) (low_at n (at region)) ++ grid n (2 * n) (high_at n (at region))))) ≡ level n region
unfolding level
level_is n region one =
    grid_cong (2 * n) (2 * n) _ _ (omega arith) (λ y i x j. line_cong col_avg n n _ _ _ _ refl (λ r h. low r h x j) (λ r h. high r h x j) y i)
  where
    f : List ℤ
    f = grid n (2 * n) (low_at n (at region))

    g : List ℤ
    g = grid n (2 * n) (high_at n (at region))

    low : (r : ℕ) → r < n → (x : ℕ) → x < 2 * n → at (f ++ g) (r * (2 * n) + x) ≡ low_at n (at region) r x
    low r h x j =
        get_or-append f g (pos 0) (r * (2 * n) + x) (omega (arith, length_grid n (2 * n) (low_at n (at region)), row_in r n (2 * n) h))
        ∙ at_grid n (2 * n) (low_at n (at region)) r x h j

    high : (r : ℕ) → r < n → (x : ℕ) → x < 2 * n → at (f ++ g) ((n + r) * (2 * n) + x) ≡ high_at n (at region) r x
    high r h x j =
        ap (at (f ++ g)) (omega (arith, length_grid n (2 * n) (low_at n (at region))))
        ∙ get_or-append-add f g (r * (2 * n) + x) (pos 0)
        ∙ at_grid n (2 * n) (high_at n (at region)) r x h j

-- the row pass makes at most 4 B + 1 of B
pub passed_near :
    {B : ℕ} (n : ℕ) (region : List ℤ) → 1 ≤ n → AllNear B region →
    AllNear (4 * B + 1) (grid n (2 * n) (low_at n (at region)) ++ grid n (2 * n) (high_at n (at region)))
passed_near {B} n region one p =
    append_near (grid n (2 * n) (low_at n (at region))) (grid n (2 * n) (high_at n (at region)))
    (grid_within n (2 * n) _ (omega arith)
    (λ y i x j. wide_near {A = B + 3 * B + 1} (omega arith) (line_tight row_mean n _ _ (λ c h. p.all _) (λ c h. p.all _) x j)))
    (grid_within n (2 * n) _ (omega arith)
    (λ y i x j. wide_near {A = B + 3 * B + 1} (omega arith) (line_tight row_mean n _ _ (λ c h. p.all _) (λ c h. p.all _) x j)))

pub length_level : (n : ℕ) (xs : List ℤ) → length (level n xs) ≡ 2 * n * (2 * n)
unfolding level
length_level n xs = length_grid (2 * n) (2 * n) _

-- one level on the end of the list from a on
abbrev pub level_from : ℕ → ℕ → List ℤ → List ℤ
level_from a n xs = take a xs ++ level n (drop a xs)

pub from_length : (a n : ℕ) (xs : List ℤ) → length xs ≡ a + 4 * (n * n) → length (level_from a n xs) ≡ length xs
from_length a n xs e = length-append (take a xs) (level n (drop a xs)) ∙ omega (arith, length-take-le a xs (omega arith), length_level n (drop a xs))

-- three levels are the tile
pub tile_is : (xs : List ℤ) → length xs ≡ 4096 → level_from 0 32 (level_from 3072 16 (level_from 3840 8 xs)) ≡ tile_back xs
unfolding tile_back
tile_is xs e =
    ap (λ (l : List ℤ). level 32 (l ++ level 16 (drop 3072 (level_from 3840 8 xs)))) (nest_take xs (level 8 (drop 3840 xs)) 3072 768 (omega arith))
    ∙ ap (λ (l : List ℤ). level 32 (take 3072 xs ++ level 16 l)) (nest_drop xs (level 8 (drop 3840 xs)) 3072 768 (omega arith))

-- a level adds at most 15 B + 5 to the bound A of its LL, where B bounds its other bands.
pub level_tight :
    {A B : ℕ} (N : ℕ) (f : ℕ → ℤ) → ((k : ℕ) → k < 3 * (N * N) → Near B (f k)) → ((k : ℕ) → k < N * N → Near A (f (3 * (N * N) + k))) → (y x : ℕ) →
    y < 2 * N → x < 2 * N → Near (A + 15 * B + 5) (level_at N f y x)
level_tight {A} {B} N f b a y x i j =
    wide_near {A = A + 3 * B + 1 + 3 * (B + 3 * B + 1) + 1} (omega arith)
    (line_tight col_mean N _ _
    (λ r h. line_tight row_mean N _ _ (λ c k. a (r * N + c) (omega (arith, row_in r N N h))) (λ c k. b (r * N + c) (omega (arith, row_in r N N h))) x j)
    (λ r h. line_tight row_mean N _ _ (λ c k. b (N * N + (r * N + c)) (omega (arith, row_in r N N h)))
    (λ c k. b (2 * (N * N) + (r * N + c)) (omega (arith, row_in r N N h))) x j) y i)

-- the bound B holds before place m, and A from there on
pub record Halves (m A B : ℕ) (xs : List ℤ) : Type 0 where
  pub first : (k : ℕ) → k < m → Near B (at xs k)
  pub rest : (k : ℕ) → Near A (at xs (m + k))

pub halves_start : {B : ℕ} {xs : List ℤ} (m : ℕ) → AllNear B xs → Halves m B B xs
halves_start m p = record { first = λ k h. p.all k; rest = λ k. p.all (m + k) }

pub from_halves :
    {A B : ℕ} (a n : ℕ) (xs : List ℤ) → 1 ≤ n → length xs ≡ a + 4 * (n * n) → Halves (a + 3 * (n * n)) A B xs →
    Halves a (A + 15 * B + 5) B (level_from a n xs)
unfolding level
from_halves {A} {B} a n xs one e p = record {
  first = λ k h.
      subst (Near B) (sym (get_or-append (take a xs) (level n (drop a xs)) (pos 0) k (omega (arith, head)) ∙ get_or-take a xs k (pos 0) h))
      (p.first k (omega arith));
  rest = λ k.
      subst (Near (A + 15 * B + 5))
      (sym (ap (λ (m : ℕ). at (level_from a n xs) (m + k)) (sym head) ∙ get_or-append-add (take a xs) (level n (drop a xs)) k (pos 0)))
      (within.all k);
}
  where
    head : length (take a xs) ≡ a
    head = length-take-le a xs (omega arith)

    low : (k : ℕ) → k < 3 * (n * n) → Near B (at (drop a xs) k)
    low k h = subst (Near B) (sym (get_or-drop a xs k (pos 0))) (p.first (a + k) (omega arith))

    high : (k : ℕ) → k < n * n → Near A (at (drop a xs) (3 * (n * n) + k))
    high k h =
        let f : a + 3 * (n * n) + k ≡ a + (3 * (n * n) + k) = omega arith in
        subst (Near A) (ap (at xs) f ∙ sym (get_or-drop a xs (3 * (n * n) + k) (pos 0))) (p.rest k)

    within : AllNear (A + 15 * B + 5) (level n (drop a xs))
    within = grid_within (2 * n) (2 * n) _ (omega arith) (λ y i x j. level_tight n (at (drop a xs)) low high y x i j)

-- where the bound B is the smaller, A is one for all
pub halves_all : {m A B C : ℕ} {xs : List ℤ} → A ≤ C → B ≤ C → Halves m A B xs → AllNear C xs
halves_all {m} {A} {B} {C} {xs} a b p = record { all = λ i. place i (dec_lt i m) }
  where
    place : (i : ℕ) → Dec (i < m) → Near C (at xs i)
    place i (yes h) = wide_near b (p.first i h)
    place i (no h) = let e : m + (i - m) ≡ i = omega arith in wide_near a (subst (λ (k : ℕ). Near A (at xs k)) e (p.rest (i - m)))

-- the three levels of a tile, one after the other: from 32,767 to 524,277, 1,015,787 and 1,507,297
module _ (xs : List ℤ) (e : length xs ≡ 4096) (p : AllNear 32767 xs) where
  pub third : Halves 3840 524277 32767 (level_from 3840 8 xs)
  third = from_halves 3840 8 xs (lit≤ tt) e (halves_start (3840 + 3 * (8 * 8)) p)

  pub second : Halves 3072 1015787 32767 (level_from 3072 16 (level_from 3840 8 xs))
  second = from_halves 3072 16 (level_from 3840 8 xs) (lit≤ tt) (from_length 3840 8 xs e ∙ e) third

  pub first : Halves 0 1507297 32767 (level_from 0 32 (level_from 3072 16 (level_from 3840 8 xs)))
  first =
      from_halves 0 32 (level_from 3072 16 (level_from 3840 8 xs)) (lit≤ tt)
      (from_length 3072 16 (level_from 3840 8 xs) (from_length 3840 8 xs e ∙ e) ∙ from_length 3840 8 xs e ∙ e) second
