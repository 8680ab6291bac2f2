-- Laws of one line, over any average that stays within the bound of its two numbers.
use Rattle.std.specs.Prelude.{◌≡◌, refl, List, ℕ, zero, suc, ◌+◌, ◌*◌, ◌-◌, ◌/◌, ◌%◌, min, ◌<◌, ℤ, pos, length, set}
use Rattle.std.proofs.Common.{sym, ◌∙◌, ap, arith, length-set}
use Rattle.whole.specs.laws.Put.{put_new, put_old}
use Rattle.whole.specs.laws.Near.{Near, add_near, sub_near, half_near, cut_near, lit_near, mul_near, wide_near, ap3}
use Rattle.whole.specs.Tab.{at, table}
use Rattle.whole.specs.laws.Tab.{is_tab}
use Rattle.wave_back.specs.Line.{row_avg, col_avg, even_z, odd_z, even_at, odd_at, line_at, by_parity}

-- the one thing that the laws ask of an average
pub record Mean (avg : ℤ → ℤ → ℤ) : Type 0 where
  pub mean : {B : ℕ} {x y : ℤ} → Near B x → Near B y → Near B (avg x y)

pub row_mean : Mean row_avg
row_mean = record { mean = λ {B} p q. wide_near (omega arith) (cut_near (add_near p q)) }

pub col_mean : Mean col_avg
col_mean = record { mean = λ {B} p q. wide_near (omega arith) (add_near (cut_near p) (cut_near q)) }

-- a function with the even and the odd places right is the line
pub line_place :
    (avg : ℤ → ℤ → ℤ) (N : ℕ) (L H : ℕ → ℤ) (f : ℕ → ℤ) → ((n : ℕ) → n < N → f (2 * n) ≡ even_at L H n) →
    ((n : ℕ) → n < N → f (2 * n + 1) ≡ odd_at avg N H (even_at L H) n) → (k : ℕ) → k < 2 * N → f k ≡ line_at avg N L H k
unfolding line_at
line_place avg N L H f p q k h = place (k % 2) refl
  where
    place : (m : ℕ) → k % 2 ≡ m → f k ≡ line_at avg N L H k
    place zero e =
        let g : k ≡ 2 * (k / 2) = omega arith in
        ap f g ∙ p (k / 2) (omega arith) ∙ ap (λ (m : ℕ). by_parity m (even_at L H (k / 2)) (odd_at avg N H (even_at L H) (k / 2))) (sym e)
    place (suc m) e =
        let g : k ≡ 2 * (k / 2) + 1 = omega arith in
        ap f g ∙ q (k / 2) (omega arith) ∙ ap (λ (m : ℕ). by_parity m (even_at L H (k / 2)) (odd_at avg N H (even_at L H) (k / 2))) (sym e)

-- and so is a list
pub line_is :
    (avg : ℤ → ℤ → ℤ) (N : ℕ) (L H : ℕ → ℤ) (x : List ℤ) → length x ≡ 2 * N → ((n : ℕ) → n < N → at x (2 * n) ≡ even_at L H n) →
    ((n : ℕ) → n < N → at x (2 * n + 1) ≡ odd_at avg N H (even_at L H) n) → x ≡ table (2 * N) (line_at avg N L H)
line_is avg N L H x e p q = is_tab (2 * N) (line_at avg N L H) x e (λ k h. line_place avg N L H (at x) p q k h)

-- how far an even place can grow
pub even_near : {B : ℕ} (L H : ℕ → ℤ) (n : ℕ) → Near B (L n) → Near B (H (n - 1)) → Near B (H n) → Near (B + (B + B + 1 + 1) / 2) (even_at L H n)
unfolding even_at
even_near L H n l g h = sub_near l (half_near (add_near (add_near g h) (lit_near (pos 1))))

-- an odd place looks at even places below N only
pub odd_cong : (avg : ℤ → ℤ → ℤ) (M N : ℕ) (H E F : ℕ → ℤ) → M ≡ N → ((m : ℕ) → m < N → E m ≡ F m) → (n : ℕ) → n < N → odd_at avg M H E n ≡ odd_at avg N H F n
unfolding odd_at
odd_cong avg M N H E F e p n h =
    ap (λ (k : ℕ). odd_z avg (H n) (E n) (E (min (n + 1) (k - 1)))) e ∙ ap3 (odd_z avg) {a = H n} refl (p n h) (p (min (n + 1) (N - 1)) (omega arith))

pub even_cong : (N : ℕ) (L H F G : ℕ → ℤ) → ((c : ℕ) → c < N → L c ≡ F c) → ((c : ℕ) → c < N → H c ≡ G c) → (n : ℕ) → n < N → even_at L H n ≡ even_at F G n
unfolding even_at
even_cong N L H F G p q n h = ap3 even_z (p n h) (q (n - 1) (omega arith)) (q n h)

-- a line looks at places below N only
pub line_cong :
    (avg : ℤ → ℤ → ℤ) (M N : ℕ) (L H F G : ℕ → ℤ) → M ≡ N → ((c : ℕ) → c < N → L c ≡ F c) → ((c : ℕ) → c < N → H c ≡ G c) → (k : ℕ) → k < 2 * N →
    line_at avg M L H k ≡ line_at avg N F G k
unfolding line_at odd_at
line_cong avg M N L H F G e p q k h =
    let b : k / 2 < N = omega arith in
    ap2 (by_parity (k % 2)) (even_cong N L H F G p q (k / 2) b)
    (odd_cong avg M N H (even_at L H) (even_at F G) e (λ m j. even_cong N L H F G p q m j) (k / 2) b
    ∙ ap3 (odd_z avg) {b = even_at F G (k / 2)} {c = even_at F G (min (k / 2 + 1) (N - 1))} (q (k / 2) b) refl refl)
  where
    ap2 : (f : ℤ → ℤ → ℤ) {a b x y : ℤ} → a ≡ x → b ≡ y → f a b ≡ f x y
    ap2 f u v = cc

-- what a turn stores, from the numbers that it read
pub odd_step :
    (avg : ℤ → ℤ → ℤ) (N : ℕ) (H E : ℕ → ℤ) (j : ℕ) {h x y z : ℤ} → z ≡ odd_z avg h x y → h ≡ H j → x ≡ E j → y ≡ E (min (j + 1) (N - 1)) →
    z ≡ odd_at avg N H E j
unfolding odd_at
odd_step avg N H E j e p q r = e ∙ ap3 (odd_z avg) p q r

pub even_step : (L H : ℕ → ℤ) (j : ℕ) {l g h z : ℤ} → z ≡ even_z l g h → l ≡ L j → g ≡ H (j - 1) → h ≡ H j → z ≡ even_at L H j
unfolding even_at
even_step L H j e p q r = e ∙ ap3 even_z p q r

-- two places more
pub record Pairs (F G : ℕ → ℤ) (j : ℕ) (l : List ℤ) : Type 0 where
  pub evens : (n : ℕ) → n < j → at l (2 * n) ≡ F n
  pub odds : (n : ℕ) → n < j → at l (2 * n + 1) ≡ G n

pub pair_put :
    (F G : ℕ → ℤ) (l : List ℤ) (j : ℕ) (u v : ℤ) → 2 * j + 1 < length l → u ≡ F j → v ≡ G j → Pairs F G j l →
    Pairs F G (j + 1) (set (set l (2 * j) u) (2 * j + 1) v)
pair_put F G l j u v b e f p = record {
  evens = put_old (λ n. 2 * n) F (set l (2 * j) u) (2 * j + 1) v (j + 1) (λ n k. omega arith)
      (put_new (λ n. 2 * n) F l j u (omega arith) (λ n k. omega arith) e p.evens);
  odds = put_new (λ n. 2 * n + 1) G (set l (2 * j) u) j v (simp length-set b) (λ n k. omega arith) f
      (put_old (λ n. 2 * n + 1) G l (2 * j) u j (λ n k. omega arith) p.odds);
}

-- how far a line can grow: the halves have bounds of their own, and only the places that are looked at count
pub line_tight :
    {avg : ℤ → ℤ → ℤ} → Mean avg → {A B : ℕ} (N : ℕ) (L H : ℕ → ℤ) → ((c : ℕ) → c < N → Near A (L c)) → ((c : ℕ) → c < N → Near B (H c)) → (k : ℕ) →
    k < 2 * N → Near (A + 3 * B + 1) (line_at avg N L H k)
unfolding line_at odd_at even_at
line_tight a {A} {B} N L H p q k h =
    let i : k / 2 < N = omega arith in
    let m : min (k / 2 + 1) (N - 1) < N = omega arith in
    by (k % 2) (wide_near (omega arith) (ev (k / 2) i))
    (wide_near (omega arith) (add_near (mul_near (lit_near (pos 2)) (q (k / 2) i)) (a.mean (ev (k / 2) i) (ev (min (k / 2 + 1) (N - 1)) m))))
  where
    ev : (n : ℕ) → n < N → Near (A + (B + B + 1 + 1) / 2) (even_at L H n)
    ev n j = let i : n - 1 < N = omega arith in sub_near (p n j) (half_near (add_near (add_near (q (n - 1) i) (q n j)) (lit_near (pos 1))))

    by : (m : ℕ) {x y : ℤ} → Near (A + 3 * B + 1) x → Near (A + 3 * B + 1) y → Near (A + 3 * B + 1) (by_parity m x y)
    by zero a b = a
    by (suc m) a b = b
