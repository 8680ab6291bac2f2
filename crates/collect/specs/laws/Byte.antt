-- What one byte does: a record that takes bytes goes on taking them unless the byte is refused, and the store keeps its length; the head's number is its bytes;
-- and no byte is lost.
use Rattle.std.specs.Prelude.{ℕ, zero, suc, ◌+◌, ◌*◌, ◌/◌, ◌%◌, ◌^◌, ◌≤◌, ◌<◌, ◌≡◌, refl, true, List, [], ◌∷◌, ◌++◌, length}
use Rattle.std.proofs.Common.{ap, ap₂, sym, ◌∙◌, subst, arith, mul_comm, mul_assoc, pow-suc, mod-eq_of_lt, pow-add, ltb-true, ltb-false, eqb-true}
use Rattle.std.proofs.Math.Nat.{div-div-eq-div-mul}
use Rattle.std.proofs.Math.Arith.{digits_lt, digits_mod}
use Rattle.std.proofs.lemmas.Bool.{eqb-false}
use Rattle.wire.specs.Le.{bytes16, bytes32, patch}
use Rattle.wire.specs.laws.Le.{patch_length}
use Rattle.whole.specs.laws.Row.{passes, stops}
use Rattle.collect.specs.declared.Collector.{Collector}
use Rattle.collect.specs.declared.Collected.{Collected}
use Rattle.wire.specs.Refusal.{refusal_number}
use Rattle.wire.specs.laws.Refusal.{number_back}
use Rattle.collect.specs.declared.Collected.TheVariants.{More, Header, Frame, Refused}
use Rattle.collect.specs.Collect.{State, Step, fresh, waiting, gathering, refusing, joined, head_bytes, type_of, len_of, head_fault, part_after, step}
use Rattle.collect.specs.Collect.{settled, head_done, head_byte, byte, collector_made, collector_fault}
use Rattle.collect.specs.laws.Made.{by_case, head_good, same_refusal, head_few, Ends, ends_on, Between, some, head_ends, Open, opened, takes, waits, gathers}
use Rattle.collect.specs.laws.Made.{made-waiting, made_refusing, made-gathering, open_fresh}

-- ---- the head's bytes

pub bytes_length : (n head : ℕ) → length (head_bytes n head) ≡ n
unfolding head_bytes
bytes_length zero d = refl
bytes_length (suc n) d = ap suc (bytes_length n (d / 256))

pub joined_small : (head seen b : ℕ) → head < 256 ^ seen → b < 256 → joined head seen b < 256 ^ (seen + 1)
unfolding joined
joined_small d n b p q =
    let a : b * 256 ^ n + d < 256 * 256 ^ n = digits_lt q p in
    let e : 256 ^ (n + 1) ≡ 256 ^ n * 256 = pow-add 256 n 1 in
    let f : 256 ^ n * b ≡ b * 256 ^ n = mul_comm (256 ^ n) b in
    let g : 256 ^ n * 256 ≡ 256 * 256 ^ n = mul_comm (256 ^ n) 256 in
    omega arith

-- a byte more: the bytes so far, and it
pub bytes_joined : (head seen b : ℕ) → head < 256 ^ seen → b < 256 → head_bytes (suc seen) (joined head seen b) ≡ head_bytes seen head ++ (b ∷ [])
unfolding head_bytes joined
bytes_joined d zero b p q = let e : (d + 256 ^ zero * b) % 256 ≡ b = omega arith in ap (λ (x : ℕ). x ∷ []) e
bytes_joined d (suc n) b p q =
    let e : 256 ^ suc n ≡ 256 * 256 ^ n = pow-suc 256 n ∙ mul_comm (256 ^ n) 256 in
    let f : 256 ^ suc n * b ≡ 256 * (256 ^ n * b) = ap (λ (x : ℕ). x * b) e ∙ mul_assoc 256 (256 ^ n) b in
    let g : (d + 256 ^ suc n * b) % 256 ≡ d % 256 = omega arith in
    let h : (d + 256 ^ suc n * b) / 256 ≡ d / 256 + 256 ^ n * b = omega arith in
    ap₂ (λ (x y : ℕ). x ∷ head_bytes (suc n) y) g h ∙ ap (λ (x : List ℕ). d % 256 ∷ x) (bytes_joined (d / 256) n b (omega arith) q)

-- the six bytes as a type and a blockLen are written
pub six_bytes : (head : ℕ) → bytes16 (type_of head) ++ bytes32 (len_of head) ≡ head_bytes 6 head
unfolding bytes16 bytes32 head_bytes
six_bytes d =
    let a : d % 65536 % 256 ≡ d % 256 = omega arith in
    let x : d / 256 ≡ d / 65536 * 256 + d % 65536 / 256 = omega arith in
    let y : d % 65536 / 256 < 256 = omega arith in
    let b : d % 65536 / 256 % 256 ≡ d / 256 % 256 = mod-eq_of_lt y ∙ sym (digits_mod (d / 65536) y) ∙ ap (λ (v : ℕ). v % 256) (sym x) in
    let c : d / 65536 ≡ d / 256 / 256 = sym (div-div-eq-div-mul d 256 256) in
    let e : d / 65536 / 65536 ≡ d / 256 / 256 / 256 / 256 = sym (div-div-eq-div-mul (d / 65536) 256 256) ∙ ap (λ (v : ℕ). v / 256 / 256) c in
    let f : d / 65536 / 16777216 ≡ d / 256 / 256 / 256 / 256 / 256 = sym (div-div-eq-div-mul (d / 65536) 65536 256) ∙ ap (λ (v : ℕ). v / 256) e in
    cc

-- ---- what is answered, and the record behind it

-- a refusal is the record's from then on; after any other answer it takes bytes
abbrev pub Says : Collected → ℕ → Type 0
Says More fault = 0 ≡ fault
Says (Header n) fault = 0 ≡ fault
Says (Frame n) fault = 0 ≡ fault
Says (Refused refusal) fault = (refusal_number refusal ≡ fault) × (0 ≡ refusal_number refusal → ⊥)

pub record Right (room : ℕ) (t : Step) : Type 0 where
  pub good : true ≡ collector_made t.state.collector
  pub says : Says t.answer (collector_fault t.state.collector room)
  pub kept : length t.state.store ≡ room

-- a step to a record that takes bytes
takes_on :
    (c : Collector) (store : List ℕ) (a : Collected)
    → (0 ≡ collector_fault c (length store) → Says a (collector_fault c (length store)))
    → Open c (length store)
    → Right (length store) (step c store a)
takes_on c store a f o = record { good = o.good; says = f (takes c (length store) o); kept = refl }

open_waiting :
    (part held seen head room : ℕ) → seen < 6 → head < 256 ^ seen → Between part held → held ≤ room → Open (waiting part held seen head) room
open_waiting p h n d room l m b k = record { good = made-waiting p h n d l m b; free = refl; fits = k; ends = omega arith }

open_gathering : (part held end room : ℕ) → 6 ≤ held → held < end → Ends part held end → end ≤ room → Open (gathering part held end) room
open_gathering p h e room l m k n = record { good = made-gathering p h e l m k; free = refl; fits = omega arith; ends = n }

refusing_says :
    (number part held head room : ℕ)
    → true ≡ collector_made (refusing number part held head)
    → (0 ≡ number → ⊥)
    → number ≡ collector_fault (refusing number part held head) room
unfolding collector_fault
refusing_says n p h d room m z = passes _ _ _ _ (sym m) (stops _ _ _ (λ q. z (sym q)) refl)

pub settled_right :
    (part held end : ℕ) (store : List ℕ)
    → 6 ≤ held
    → held ≤ length store
    → end ≤ length store
    → Ends part held end
    → Right (length store) (settled part held end store)
unfolding settled
settled_right p h e store l m n k =
    by_case (Right (length store)) _ _ _
    (λ a. takes_on _ store More (λ q. q) (open_gathering p h e (length store) l (ltb-true h e a) k n))
    (λ a. by_case (Right (length store)) _ _ _
    (λ b. takes_on _ store More (λ q. q) (open_waiting p h 0 0 (length store) (omega arith) (omega arith) (some (eqb-true p 3 b) l) m))
    (λ b. by_case (Right (length store)) _ _ _
    (λ c. takes_on fresh store (Header h) (λ q. q) (open_fresh (length store)))
    (λ c. takes_on fresh store (Frame h) (λ q. q) (open_fresh (length store)))))

pub done_right :
    (part held head : ℕ) (store : List ℕ)
    → head < 281474976710656
    → Between part held
    → held ≤ length store
    → Right (length store) (head_done (head_fault held head (length store)) part held head store)
unfolding head_done
done_right p h d store l b m =
    by_case (Right (length store)) _ _ _
    (λ e.
    let g = head_good h d (length store) (sym (eqb-true (head_fault h d (length store)) 0 e)) in
    let x = g.least in
    let y = g.fits in
    let n = patch_length store (head_bytes 6 d) h (let z = bytes_length 6 d in omega arith) in
    subst (λ (r : ℕ). Right r (settled (part_after p (type_of d)) (h + 6) (h + len_of d) (patch store h (head_bytes 6 d)))) n
    (settled_right (part_after p (type_of d)) (h + 6) (h + len_of d) (patch store h (head_bytes 6 d)) (omega arith) (omega arith) (omega arith)
    (head_ends p h (type_of d) (len_of d) b (omega arith))))
    (λ e.
    let n = eqb-false (head_fault h d (length store)) 0 e in
    let z : 0 ≡ head_fault h d (length store) → ⊥ = λ q. n (sym q) in
    let r = made_refusing (head_fault h d (length store)) p h d (same_refusal h d (length store) z) l b in
    let k = number_back (head_fault h d (length store)) (omega (arith, z)) (head_few h d (length store)) in
    record { good = r; says = (k ∙ refusing_says (head_fault h d (length store)) p h d (length store) r z, λ q. z (q ∙ k)); kept = refl })

-- after a byte
pub byte_right :
    (s : State) (b : ℕ) → 0 ≡ collector_fault s.collector (length s.store) → b < 256 → Right (length s.store) (byte s b)
unfolding byte head_byte
byte_right s b f l =
    let c = s.collector in
    let o = opened c (length s.store) f in
    by_case (Right (length s.store)) _ _ _
    (λ e.
    let w = waits c o.good (eqb-true c.end 0 e) o.free in
    let j = joined_small c.head c.seen b w.small l in
    by_case (Right (length s.store)) _ _ _
    (λ g. takes_on _ s.store More (λ q. q)
    (open_waiting c.part c.held (c.seen + 1) (joined c.head c.seen b) (length s.store) (ltb-true (c.seen + 1) 6 g) j w.place o.fits))
    (λ g.
    let six : c.seen + 1 ≡ 6 = (let x = ltb-false (c.seen + 1) 6 g in let y = w.few in omega arith) in
    done_right c.part c.held (joined c.head c.seen b) s.store
    (subst (λ (n : ℕ). joined c.head c.seen b < 256 ^ n) six j) w.place o.fits))
    (λ e.
    let g = gathers c o.good (eqb-false c.end 0 e) in
    let x = g.least in
    let y = g.less in
    let z = o.ends in
    let n = patch_length s.store (b ∷ []) c.held (omega arith) in
    subst (λ (r : ℕ). Right r (settled c.part (c.held + 1) c.end (patch s.store c.held (b ∷ [])))) n
    (settled_right c.part (c.held + 1) c.end (patch s.store c.held (b ∷ [])) (omega arith) (omega arith) (omega arith)
    (ends_on c.part c.held c.end 1 g.kind)))
