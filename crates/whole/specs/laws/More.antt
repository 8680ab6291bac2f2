-- General laws of lists by index that the wavelet wants; they could stand in whole.
use Rattle.std.specs.Prelude.{◌≡◌, List, [], ◌∷◌, ◌++◌, ℕ, zero, suc, ◌+◌, ◌*◌, ◌-◌, ◌/◌, ◌%◌, ◌≤◌, ◌<◌, ℤ, pos, length, take, drop}
use Rattle.std.proofs.Common.{sym, ◌∙◌, ap, subst, append-nil, append_assoc, zero-le, div-lt_iff_lt-mul, mod-lt, arith, length-take, length-drop}
use Rattle.std.proofs.Common.{drop_of_length-le, take_at, drop_at, take_all, take-add, length-take-le}
use Rattle.std.proofs.Math.Decide.{dec_lt}
use Rattle.std.proofs.Math.ListN.{get_or-eq_default}
use borrow.Rule.Slice.PartMut.{put_mid}
use Rattle.whole.specs.laws.Near.{Near, wide_near}
use Rattle.whole.specs.Tab.{at, table, grid}
use Rattle.whole.specs.laws.Tab.{at_tab, length_tab, at_grid, is_grid, length_grid, AllNear}

-- two grids that agree within are one
pub grid_cong : (h W : ℕ) (f g : ℕ → ℕ → ℤ) → zero < W → ((y : ℕ) → y < h → (x : ℕ) → x < W → f y x ≡ g y x) → grid h W f ≡ grid h W g
grid_cong h W f g w p = is_grid h W g (grid h W f) w (length_grid h W f) (λ y i x j. at_grid h W f y x i j ∙ p y i x j)

-- 0 past the end is near too, so a bound on the places within bounds the list
pub tab_within : {B : ℕ} (n : ℕ) (f : ℕ → ℤ) → ((k : ℕ) → k < n → Near B (f k)) → AllNear B (table n f)
tab_within {B} n f p = record { all = λ i. place i (dec_lt i n) }
  where
    place : (i : ℕ) → Dec (i < n) → Near B (at (table n f) i)
    place i (yes h) = subst (Near B) (sym (at_tab n f i h)) (p i h)
    place i (no h) =
        subst (Near B) (sym (get_or-eq_default (table n f) (pos 0) (subst (λ (m : ℕ). m ≤ i) (sym (length_tab n f)) (omega arith))))
        (record { near = zero-le })

pub grid_within : {B : ℕ} (h W : ℕ) (f : ℕ → ℕ → ℤ) → zero < W → ((y : ℕ) → y < h → (x : ℕ) → x < W → Near B (f y x)) → AllNear B (grid h W f)
unfolding grid
grid_within h W f w p = tab_within (h * W) _ (λ k q. p (k / W) ((div-lt_iff_lt-mul w).1 q) (k % W) (mod-lt k w))

pub append_near : {C : ℕ} (f g : List ℤ) → AllNear C f → AllNear C g → AllNear C (f ++ g)
append_near {C} f g a b = record { all = λ i. place f i a }
  where
    place : (f : List ℤ) (i : ℕ) → AllNear C f → Near C (at (f ++ g) i)
    place [] i h = b.all i
    place (x ∷ xs) zero h = h.all zero
    place (x ∷ xs) (suc i) h = place xs i (record { all = λ k. h.all (suc k) })

pub all_wide : {A B : ℕ} {xs : List ℤ} → A ≤ B → AllNear A xs → AllNear B xs
all_wide h p = record { all = λ i. wide_near h (p.all i) }

-- a part at the end, and what stands before it
module _ (xs ys : List ℤ) (a k : ℕ) (e : length xs ≡ a + k) where
  pub end_part : take k (drop a xs) ≡ drop a xs
  end_part = take_all k (drop a xs) (simp length-drop (omega arith))

  pub end_put : put_mid a k xs ys ≡ take a xs ++ ys
  end_put =
      ap (λ (l : List ℤ). take a xs ++ (ys ++ l)) (drop_of_length-le (drop a xs) {i = k} (simp length-drop (omega arith)))
      ∙ ap (λ (l : List ℤ). take a xs ++ l) (append-nil ys)

module _ (xs g : List ℤ) (a m : ℕ) (e : a + m ≤ length xs) where
  split : take (a + m) xs ++ g ≡ take a xs ++ (take m (drop a xs) ++ g)
  split = ap (λ (l : List ℤ). l ++ g) (take-add a m xs) ∙ append_assoc (take a xs) (take m (drop a xs)) g

  head : length (take a xs) ≡ a
  head = length-take-le a xs (omega arith)

  pub nest_take : take a (take (a + m) xs ++ g) ≡ take a xs
  nest_take = ap (take a) split ∙ take_at (take a xs) (take m (drop a xs) ++ g) a head

  pub nest_drop : drop a (take (a + m) xs ++ g) ≡ take m (drop a xs) ++ g
  nest_drop = ap (drop a) split ∙ drop_at (take a xs) (take m (drop a xs) ++ g) a head

-- a part that is the end of the list, lent, and what a function of lists put in its place
pub tail_length : (a k : ℕ) (xs : List ℤ) → length xs ≡ a + k → length (take (length xs - a) (drop a xs)) ≡ k
tail_length a k xs e = simp (length-take, length-drop) (omega arith)

pub tail_put :
    (F : List ℤ → List ℤ) (a k : ℕ) (xs ys : List ℤ) → length xs ≡ a + k → ys ≡ F (take (length xs - a) (drop a xs)) →
    put_mid a (length xs - a) xs ys ≡ take a xs ++ F (drop a xs)
tail_put F a k xs ys e p =
    let h : length xs ≡ a + (length xs - a) = omega arith in
    end_put xs ys a (length xs - a) h ∙ ap (λ (l : List ℤ). take a xs ++ l) (p ∙ ap F (end_part xs ys a (length xs - a) h))
