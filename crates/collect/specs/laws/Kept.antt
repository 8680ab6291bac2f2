-- No byte is lost and none is taken twice: what a byte hands on, and what is held after it, is what was held before it, and the byte.
use Rattle.std.specs.Prelude.{ℕ, ◌+◌, ◌≤◌, ◌<◌, ◌≡◌, refl, List, [], ◌∷◌, ◌++◌, length, take}
use Rattle.std.proofs.Common.{ap, ap₂, sym, ◌∙◌, append_assoc, append-nil, add-one, arith, length-append, take_at, length-take-le, ltb-false, eqb-true}
use Rattle.std.proofs.lemmas.Bool.{eqb-false}
use Rattle.wire.specs.Le.{patch}
use Rattle.collect.specs.Collect.{State, Step, Part, joined, head_bytes, type_of, len_of, head_fault, part_after, settled, head_done, head_byte, byte}
use Rattle.collect.specs.Collect.{collector_fault, parts_of}
use Rattle.collect.specs.laws.Made.{by_case, head_good, opened, waits, gathers}
use Rattle.collect.specs.laws.Byte.{bytes_length, bytes_joined}
use Rattle.collect.specs.Request.{flat, unhanded}

take_patch : (xs ys : List ℕ) (at n : ℕ) → length ys ≡ n → at + n ≤ length xs → take (at + n) (patch xs at ys) ≡ take at xs ++ ys
unfolding patch
take_patch xs ys at n e l =
    ap (take (at + n)) (sym (append_assoc (take at xs) ys _))
    ∙ take_at (take at xs ++ ys) _ (at + n) (length-append (take at xs) ys ∙ ap₂ ◌+◌ (length-take-le at xs (omega arith)) e)

-- a step: what it hands on, and what is held after it
abbrev pub all : Step → List ℕ
all t = flat (parts_of t) ++ unhanded t.state

settled_all : (part held end : ℕ) (store : List ℕ) → all (settled part held end store) ≡ take held store
unfolding settled flat head_bytes
settled_all p h e store =
    by_case (λ (t : Step). all t ≡ take h store) _ _ _ (λ a. append-nil (take h store))
    (λ a. by_case (λ (t : Step). all t ≡ take h store) _ _ _ (λ b. append-nil (take h store))
    (λ b. by_case (λ (t : Step). all t ≡ take h store) _ _ _
    (λ c. append-nil (take h store ++ []) ∙ append-nil (take h store)) (λ c. append-nil (take h store ++ []) ∙ append-nil (take h store))))

done_all :
    (part held head : ℕ) (store : List ℕ)
    → held ≤ length store
    → all (head_done (head_fault held head (length store)) part held head store) ≡ take held store ++ head_bytes 6 head
unfolding head_done flat
done_all p h d store l =
    by_case (λ (t : Step). all t ≡ take h store ++ head_bytes 6 d) _ _ _
    (λ e.
    let g = head_good h d (length store) (sym (eqb-true (head_fault h d (length store)) 0 e)) in
    let x = g.least in
    let y = g.fits in
    settled_all (part_after p (type_of d)) (h + 6) (h + len_of d) (patch store h (head_bytes 6 d))
    ∙ take_patch store (head_bytes 6 d) h 6 (bytes_length 6 d) (omega arith))
    (λ e. refl)

no_head : (xs : List ℕ) (head : ℕ) → xs ≡ xs ++ head_bytes 0 head
unfolding head_bytes
no_head xs d = sym (append-nil xs)

pub byte_all :
    (s : State) (b : ℕ) → 0 ≡ collector_fault s.collector (length s.store) → b < 256 → all (byte s b) ≡ unhanded s ++ (b ∷ [])
unfolding byte head_byte flat
byte_all s b f l =
    let c = s.collector in
    let o = opened c (length s.store) f in
    by_case (λ (t : Step). all t ≡ unhanded s ++ (b ∷ [])) _ _ _
    (λ e.
    let w = waits c o.good (eqb-true c.end 0 e) o.free in
    let j =
    ap (λ (n : ℕ). take c.held s.store ++ head_bytes n (joined c.head c.seen b)) (add-one c.seen)
    ∙ ap (λ (x : List ℕ). take c.held s.store ++ x) (bytes_joined c.head c.seen b w.small l)
    ∙ sym (append_assoc (take c.held s.store) (head_bytes c.seen c.head) (b ∷ [])) in
    by_case (λ (t : Step). all t ≡ unhanded s ++ (b ∷ [])) _ _ _
    (λ g. j)
    (λ g.
    let six : 6 ≡ c.seen + 1 = (let x = ltb-false (c.seen + 1) 6 g in let y = w.few in omega arith) in
    done_all c.part c.held (joined c.head c.seen b) s.store o.fits
    ∙ ap (λ (n : ℕ). take c.held s.store ++ head_bytes n (joined c.head c.seen b)) six
    ∙ j))
    (λ e.
    let g = gathers c o.good (eqb-false c.end 0 e) in
    let x = g.less in
    let y = o.ends in
    settled_all c.part (c.held + 1) c.end (patch s.store c.held (b ∷ []))
    ∙ take_patch s.store (b ∷ []) c.held 1 refl (omega arith)
    ∙ ap (λ (x : List ℕ). x ++ (b ∷ []))
    (no_head (take c.held s.store) c.head ∙ ap (λ (n : ℕ). take c.held s.store ++ head_bytes n c.head) (sym g.none)))

-- a byte that hands nothing on
pub byte_held :
    (s : State) (b : ℕ)
    → 0 ≡ collector_fault s.collector (length s.store)
    → b < 256
    → parts_of (byte s b) ≡ []
    → unhanded (byte s b).state ≡ unhanded s ++ (b ∷ [])
unfolding flat
byte_held s b f l e = ap (λ (x : List Part). flat x ++ unhanded (byte s b).state) (sym e) ∙ byte_all s b f l
