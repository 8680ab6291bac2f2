-- Turn by turn: what is known after some turns (`Playing`), after one more (`play_next`), and where it stops.
use Rattle.std.specs.Prelude.{ℕ, zero, suc, ◌+◌, ◌-◌, ◌≤◌, ◌<◌, ◌≡◌, refl, true, false, List, [], ◌∷◌, eqb, length, take, drop}
use Rattle.std.proofs.Common.{ap, sym, subst, ◌∙◌, true≢false, arith, le-leb, eqb-true, length-drop, take_all}
use Rattle.whole.specs.laws.Row.{passes}
use Rattle.app_text.specs.First.{first_of}
use Rattle.app_stream.specs.Pieces.{latest, Filled, same, next, Fills, Played, none, more, read, Ends, all, stop, long, PlayedTo}

-- ---- the piece

pub first_none : (piece : List ℕ) (n : ℕ) → n ≡ 0 → [] ≡ first_of piece n
unfolding first_of
first_none piece n e = rw e (passes _ _ _ _ (le-leb 0 (length piece) (omega arith)) refl)

pub fills_same : (at end : ℕ) (piece bytes : List ℕ) → bytes ≡ piece → end ≡ length bytes → at < end → Fills at piece at piece false
fills_same at end piece bytes f g h =
    record { filled = same (subst (λ (k : ℕ). at < k) (g ∙ ap length f) h); ended = λ (e : false ≡ true). absurd (true≢false (sym e)) }

pub fills_next :
    (at end n : ℕ) (piece bytes p : List ℕ) → bytes ≡ piece → end ≡ length bytes → end ≤ at → Fills at piece (at - end) (first_of p n) (eqb n 0)
fills_next at end n piece bytes p f g h =
    let l : end ≡ length piece = g ∙ ap length f in
    let m : length piece ≤ at = subst (λ (k : ℕ). k ≤ at) l h in
    record {
      filled = subst (λ (k : ℕ). Filled at piece (at - k) (first_of p n)) (sym l) (next (first_of p n) m);
      ended = λ (e : eqb n 0 ≡ true). (sym (first_none p n (eqb-true n 0 e)), m);
    }

-- bytes past their end: none; and those to the end
pub past_end : (m : List ℕ) (at : ℕ) → length m < at → take 0 m ≡ drop at m
past_end [] zero h = refl
past_end [] (suc at) h = refl
past_end (x ∷ m) zero h = absurd (omega arith)
past_end (x ∷ m) (suc at) h = past_end m at (omega arith)

pub to_end : (m : List ℕ) (at : ℕ) → take (length m - at) (drop at m) ≡ drop at m
to_end m at = take_all (length m - at) (drop at m) (rw length-drop (omega arith))

-- ---- turns

module _ {S : Type 0} (at : S → ℕ) (turn : ℕ → List ℕ → S → S) (s : S) where
  pub record Playing (t : S) (piece : List ℕ) (n : ℕ) : Type 0 where
    pub pieces : List (List ℕ)
    pub is : latest pieces ≡ piece
    pub played : Played at turn s t pieces n

  pub play_start : (piece : List ℕ) → [] ≡ piece → Playing s piece 0
  play_start piece e = record { pieces = []; is = e; played = none }

  one_more :
      (t : S) (ps : List (List ℕ)) (n k : ℕ) (piece : List ℕ) → Played at turn s t ps n → Filled (at t) (latest ps) k piece → Playing (turn k piece t) piece
      (n + 1)
  one_more t ps n _ _ p (same h) = record { pieces = ps; is = refl; played = more t ps n p h }
  one_more t ps n _ _ p (next new h) = record { pieces = new ∷ ps; is = refl; played = read t ps n new p h }

  pub play_next :
      (t u : S) (piece piece' : List ℕ) (n m k : ℕ)
      → Playing t piece n
      → Filled (at t) piece k piece'
      → u ≡ turn k piece' t
      → m ≡ n + 1
      → Playing u piece' m
  play_next t u piece piece' n m k p f e l =
      let q = one_more t p.pieces n k piece' p.played (subst (λ (x : List ℕ). Filled (at t) x k piece') (sym p.is) f) in
      subst (λ (j : ℕ). Playing u piece' j) (sym l) (subst (λ (x : S). Playing x piece' (n + 1)) (sym e) q)

  -- behind a turn the latest piece has no bytes: it was read, and the input has ended
  pub ended : (why : Type 0) (t : S) (ps : List (List ℕ)) (n : ℕ) → Played at turn s t ps n → 0 < n → latest ps ≡ [] → Ends why ps n
  ended why _ _ _ none l e = absurd (omega arith)
  ended why _ _ _ (more t ps n p h) l e = let z = ap length e in absurd (omega arith)
  ended why _ _ _ (read t ps n new p h) l e = all ps (ap (λ (x : List ℕ). x ∷ ps) e)

  pub play_ends : (why : Type 0) (t : S) (piece : List ℕ) (n : ℕ) → Playing t piece n → 0 < n → piece ≡ [] → PlayedTo at turn why s t
  play_ends why t piece n p l e =
      record { pieces = p.pieces; turns = n; played = p.played; ends = ended why t p.pieces n p.played l (p.is ∙ e) }

  pub play_stops : (why : Type 0) (t : S) (piece : List ℕ) (n : ℕ) → Playing t piece n → why → PlayedTo at turn why s t
  play_stops why t piece n p w = record { pieces = p.pieces; turns = n; played = p.played; ends = stop w }

  pub play_long : (why : Type 0) (t : S) (piece : List ℕ) (n : ℕ) → Playing t piece n → n ≡ 18446744073709551615 → PlayedTo at turn why s t
  play_long why t piece n p l = record { pieces = p.pieces; turns = n; played = p.played; ends = long l }
