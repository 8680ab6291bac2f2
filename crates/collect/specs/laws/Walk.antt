-- The walk over a call's bytes: it goes on where a part of the bytes leads, byte by byte or by as many bytes of a block as are there.
use Rattle.std.specs.Prelude.{ℕ, ◌+◌, ◌≤◌, ◌<◌, ◌≡◌, refl, Bool, true, false, List, [], ◌∷◌, ◌++◌, length, drop}
use Rattle.std.proofs.Common.{ap, ap₂, sym, ◌∙◌, true≢false, arith, drop_of_length-le, ne_eqb, lt-ltb}
use Rattle.wire.specs.Le.{patch}
use Rattle.wire.specs.laws.Le.{patch_next, patch_length}
use Rattle.whole.specs.Row.{◌⇒◌∣◌}
use Rattle.whole.specs.laws.Row.{case_yes, case_no}
use Rattle.collect.specs.declared.Collector.{Collector}
use Rattle.collect.specs.declared.Collected.{Collected}
use Rattle.collect.specs.declared.Collected.TheVariants.{More, Header, Frame, Refused}
use Rattle.collect.specs.Collect.{State, Step, HandOver, gathering, state, step, took, settled, gathered, byte, goes_on, walk, collector_fault}
use Rattle.collect.specs.laws.Byte.{Says, Right}

-- what follows a part of the bytes: the walk goes on from there, or the call has ended
unfoldable pub followed : HandOver → List ℕ → HandOver
followed r bs =
    goes_on r.step.answer ⇒ walk r.step.state r.taken bs ∣
    r

ended : (c : State) (n : ℕ) (a : Collected) → followed (took n (record { state = c; answer = a })) [] ≡ took n (record { state = c; answer = a })
unfolding followed goes_on walk ◌⇒◌∣◌
ended s n More = refl
ended s n (Header k) = refl
ended s n (Frame k) = refl
ended s n (Refused k) = refl

pub followed_none : (r : HandOver) → followed r [] ≡ r
followed_none r = ended r.step.state r.taken r.step.answer

followed_case :
    (t : Bool) (x y r : HandOver) (bs : List ℕ) → goes_on r.step.answer ≡ t → x ≡ followed y bs → (t ⇒ x ∣ r) ≡ followed (t ⇒ y ∣ r) bs
unfolding ◌⇒◌∣◌ followed
followed_case true x y r bs e q = q
followed_case false x y r bs e q = case_no _ _ _ _ e refl

pub walk_append : (s : State) (n : ℕ) (xs ys : List ℕ) → walk s n (xs ++ ys) ≡ followed (walk s n xs) ys
unfolding walk followed goes_on ◌⇒◌∣◌
walk_append s n [] ys = refl
walk_append s n (x ∷ xs) ys = followed_case (goes_on (byte s x).answer) _ _ (took (n + 1) (byte s x)) ys refl (walk_append (byte s x).state (n + 1) xs ys)

pub walk_first : (s : State) (n x : ℕ) (xs : List ℕ) → walk s n (x ∷ xs) ≡ followed (took (n + 1) (byte s x)) xs
unfolding walk followed
walk_first s n x xs = refl

pub walk_on : (c : Collector) (store xs : List ℕ) (n : ℕ) → followed (took n (step c store More)) xs ≡ walk (state c store) n xs
unfolding followed goes_on ◌⇒◌∣◌
walk_on c store xs n = refl

-- bytes that lead on, and those behind them
pub walk_through :
    (s : State) (c : Collector) (n m : ℕ) (out xs ys : List ℕ) → walk s n xs ≡ took m (step c out More) → walk s n (xs ++ ys) ≡ walk (state c out) m ys
walk_through s c n m out xs ys e = walk_append s n xs ys ∙ ap (λ (r : HandOver). followed r ys) e ∙ walk_on c out ys m

pub goes_on_from : (r : HandOver) (bs : List ℕ) → goes_on r.step.answer ≡ true → followed r bs ≡ walk r.step.state r.taken bs
unfolding followed
goes_on_from r bs e = sym (case_yes _ _ _ _ e refl)

pub stops_at : (r : HandOver) (bs : List ℕ) → goes_on r.step.answer ≡ false → followed r bs ≡ r
unfolding followed
stops_at r bs e = sym (case_no _ _ _ _ e refl)

-- ---- bytes of a block

block_byte : (s : State) (x : ℕ) → (s.collector.end ≡ 0 → ⊥) → byte s x ≡ gathered s (x ∷ [])
unfolding byte
block_byte s x z = sym (case_no _ _ _ _ (ne_eqb s.collector.end 0 z) refl)

pub settled_goes : (part held end : ℕ) (store : List ℕ) → held < end → settled part held end store ≡ step (gathering part held end) store More
unfolding settled
settled_goes p h e store l = sym (case_yes _ _ _ _ (lt-ltb h e l) refl)

pub goes_settled :
    (part held end n : ℕ) (store ys : List ℕ)
    → held < end
    → followed (took n (settled part held end store)) ys ≡ walk (state (gathering part held end) store) n ys
goes_settled p h e n store ys l = ap (λ (t : Step). followed (took n t) ys) (settled_goes p h e store l) ∙ walk_on (gathering p h e) store ys n

pub block_walk :
    (s : State) (n x : ℕ) (xs : List ℕ)
    → s.collector.held + length (x ∷ xs) ≤ s.collector.end
    → s.collector.end ≤ length s.store
    → walk s n (x ∷ xs) ≡ took (n + length (x ∷ xs)) (gathered s (x ∷ xs))
block_walk s n x [] l m =
    walk_first s n x [] ∙ ap (λ (t : Step). followed (took (n + 1) t) []) (block_byte s x (λ z. omega arith)) ∙ followed_none _
block_walk s n x (y ∷ xs) l m =
    let c = s.collector in
    let e : (c.held + 1) + length (y ∷ xs) ≡ c.held + length (x ∷ y ∷ xs) = omega arith in
    let f : (n + 1) + length (y ∷ xs) ≡ n + length (x ∷ y ∷ xs) = omega arith in
    let k = patch_length s.store (x ∷ []) c.held (omega arith) in
    walk_first s n x (y ∷ xs)
    ∙ ap (λ (t : Step). followed (took (n + 1) t) (y ∷ xs)) (block_byte s x (λ z. omega arith))
    ∙ goes_settled c.part (c.held + 1) c.end (n + 1) (patch s.store c.held (x ∷ [])) (y ∷ xs) (omega arith)
    ∙ block_walk (state (gathering c.part (c.held + 1) c.end) (patch s.store c.held (x ∷ []))) (n + 1) y xs (omega arith) (omega arith)
    ∙ ap₂ (λ (h : ℕ) (store : List ℕ). took ((n + 1) + length (y ∷ xs)) (settled c.part h c.end store)) e
    (patch_next _ _ s.store (x ∷ []) (y ∷ xs) c.held (c.held + 1) refl refl refl (omega arith))
    ∙ ap (λ (j : ℕ). took j (gathered s (x ∷ y ∷ xs))) f

pub block_part :
    (s : State) (n k : ℕ) (xs : List ℕ)
    → length xs ≡ k
    → 1 ≤ k
    → s.collector.held + k ≤ s.collector.end
    → s.collector.end ≤ length s.store
    → walk s n xs ≡ took (n + k) (gathered s xs)
block_part s n k [] e p l m = absurd (omega arith)
block_part s n k (x ∷ xs) e p l m = block_walk s n x xs (omega arith) m ∙ ap (λ (j : ℕ). took (n + j) (gathered s (x ∷ xs))) e

-- ---- where a byte or a block leads, the record takes bytes unless it refuses

says_goes : (a : Collected) (f : ℕ) → Says a f → goes_on a ≡ true → 0 ≡ f
unfolding goes_on
says_goes More f t e = t
says_goes (Header n) f t e = t
says_goes (Frame n) f t e = t
says_goes (Refused n) f t e = absurd (true≢false (sym e))

pub right_goes : (room : ℕ) (t : Step) → Right room t → goes_on t.answer ≡ true → 0 ≡ collector_fault t.state.collector (length t.state.store)
right_goes room t r e =
    says_goes t.answer _ r.says e ∙ ap (λ (n : ℕ). collector_fault t.state.collector n) (sym r.kept)

pub walk_end : (s : State) (bytes : List ℕ) (at : ℕ) → length bytes ≤ at → walk s at (drop at bytes) ≡ took at (step s.collector s.store More)
unfolding walk
walk_end s bytes at l = ap (walk s at) (drop_of_length-le bytes l)
