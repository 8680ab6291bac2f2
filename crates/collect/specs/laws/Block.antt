-- Whole heads and whole blocks: where their bytes lead from between blocks.
use Rattle.std.specs.Prelude.{ℕ, zero, suc, ◌+◌, ◌*◌, ◌/◌, ◌%◌, ◌^◌, ◌≤◌, ◌<◌, ◌≡◌, refl, Bool, true, false, List, [], ◌∷◌, ◌++◌, leb, length}
use Rattle.std.proofs.Common.{ap, ap₂, sym, ◌∙◌, append_assoc, mul_assoc, mul-add, mul-zero, add-zero, zero-add, pow-suc, arith, length-append, pow-add, eq-eqb}
use Rattle.std.proofs.Common.{ne_eqb, le-ltb}
use Rattle.wire.specs.Le.{bytes16, bytes32, patch}
use Rattle.wire.specs.laws.Le.{patch_length, patch_none, patch_next}
use Rattle.whole.specs.Row.{◌⇒◌∣◌}
use Rattle.whole.specs.laws.Row.{case_yes, case_no}
use Rattle.collect.specs.declared.Collector.{Collector}
use Rattle.collect.specs.declared.Collected.{Collected}
use Rattle.collect.specs.declared.Collected.TheVariants.{More, Header, Frame}
use Rattle.collect.specs.Collect.{HandOver, in_frame, at_end, waiting, fresh, gathering, joined, head_bytes, type_of, len_of, head_fault, part_after, state}
use Rattle.collect.specs.Collect.{step, took, settled, gathered, head_done, byte, goes_on, walk, collect_of}
use Rattle.collect.specs.laws.Made.{good_head, takes, open_fresh}
use Rattle.collect.specs.laws.Byte.{bytes_length, bytes_joined, six_bytes}
use Rattle.collect.specs.laws.Walk.{followed, followed_none, walk_append, walk_first, walk_on, walk_through, stops_at, goes_settled, block_part}
use Rattle.collect.specs.laws.Code.{head_waits, head_judged}
use Rattle.collect.specs.laws.Cut.{open_call}
use Rattle.collect.specs.Request.{Block, block_bytes, blocks_of, frame_bytes, Known, Inner}

-- ---- a head's bytes, from where so many of them are there

digits : (w d : ℕ) → w * (d % 256) + w * 256 * (d / 256) ≡ w * d
digits w d =
    let e : d % 256 + 256 * (d / 256) ≡ d = omega arith in
    ap (λ (x : ℕ). w * (d % 256) + x) (mul_assoc w 256 (d / 256)) ∙ sym (mul-add w (d % 256) (256 * (d / 256))) ∙ ap (λ (x : ℕ). w * x) e

pub walk_none : (c : Collector) (store : List ℕ) (n : ℕ) → walk (state c store) n [] ≡ took n (step c store More)
unfolding walk
walk_none c store n = refl

small_rest : (k d : ℕ) → d < 256 ^ suc k → d / 256 < 256 ^ k
small_rest k d l = let e : 256 ^ suc k ≡ 256 ^ k * 256 = pow-suc 256 k in omega arith

pub head_walk :
    (k j part held e d n : ℕ) (store : List ℕ)
    → j + k < 6
    → d < 256 ^ k
    → walk (state (waiting part held j e) store) n (head_bytes k d) ≡ took (n + k) (step (waiting part held (j + k) (e + 256 ^ j * d)) store More)
unfolding head_bytes joined
head_walk zero j p h e d n store l m =
    let z : 0 ≡ d = omega arith in
    let a : e ≡ e + 256 ^ j * d = sym (add-zero e) ∙ ap (λ (x : ℕ). e + x) (sym (mul-zero (256 ^ j))) ∙ ap (λ (x : ℕ). e + 256 ^ j * x) z in
    walk_none (waiting p h j e) store n
    ∙ ap₂ (λ (x y : ℕ). took x (step (waiting p h y e) store More)) (sym (add-zero n)) (sym (add-zero j))
    ∙ ap (λ (x : ℕ). took (n + 0) (step (waiting p h (j + 0) x) store More)) a
head_walk (suc k) j p h e d n store l m =
    let b : 256 ^ (j + 1) ≡ 256 ^ j * 256 = pow-add 256 j 1 in
    let x : (j + 1) + k ≡ j + suc k = omega arith in
    let y : (n + 1) + k ≡ n + suc k = omega arith in
    let g = digits (256 ^ j) d in
    let z : (e + 256 ^ j * (d % 256)) + 256 ^ (j + 1) * (d / 256) ≡ e + 256 ^ j * d = rw b (omega arith) in
    walk_first (state (waiting p h j e) store) n (d % 256) (head_bytes k (d / 256))
    ∙ ap (λ (r : HandOver). followed r (head_bytes k (d / 256)))
    (sym (head_waits (state (waiting p h j e) store) (d % 256) (e + 256 ^ j * (d % 256)) (n + 1) refl (omega arith) refl))
    ∙ walk_on (waiting p h (j + 1) (e + 256 ^ j * (d % 256))) store (head_bytes k (d / 256)) (n + 1)
    ∙ head_walk k (j + 1) p h (e + 256 ^ j * (d % 256)) (d / 256) (n + 1) store (omega arith) (small_rest k d m)
    ∙ ap₂ (λ (u v : ℕ). took u (step (waiting p h v ((e + 256 ^ j * (d % 256)) + 256 ^ (j + 1) * (d / 256))) store More)) y x
    ∙ ap (λ (u : ℕ). took (n + suc k) (step (waiting p h (j + suc k) u) store More)) z

-- all six: the head is judged
pub head_whole :
    (part held d n : ℕ) (store : List ℕ)
    → d < 281474976710656
    → walk (state (waiting part held 0 0) store) n (head_bytes 6 d) ≡ took (n + 6) (head_done (head_fault held d (length store)) part held d store)
unfolding joined
head_whole p h d n store l =
    let low = d % 1099511627776 in
    let high = d / 1099511627776 in
    let e : low + 1099511627776 * high ≡ d = omega arith in
    let f : 0 + 256 ^ 0 * low ≡ low = omega arith in
    let g : (n + 5) + 1 ≡ n + 6 = omega arith in
    let s = state (waiting p h 5 low) store in
    ap (walk (state (waiting p h 0 0) store) n) (ap (head_bytes 6) (sym e) ∙ bytes_joined low 5 high (omega arith) (omega arith))
    ∙ walk_append (state (waiting p h 0 0) store) n (head_bytes 5 low) (high ∷ [])
    ∙ ap (λ (r : HandOver). followed r (high ∷ [])) (head_walk 5 0 p h 0 low n store (omega arith) (omega arith))
    ∙ ap (λ (x : ℕ). followed (took (n + 5) (step (waiting p h 5 x) store More)) (high ∷ [])) f
    ∙ walk_on (waiting p h 5 low) store (high ∷ []) (n + 5)
    ∙ walk_first s (n + 5) high []
    ∙ followed_none (took ((n + 5) + 1) (byte s high))
    ∙ sym (head_judged s high d ((n + 5) + 1) _ refl (omega arith) (sym e) refl)
    ∙ ap (λ (x : ℕ). took x (head_done (head_fault h d (length store)) p h d store)) g

-- ---- a good head and bytes behind it

-- a block of a type and a blockLen, behind what is gathered
pub record Fits (held kind size room : ℕ) : Type 0 where
  pub low : 0xCCC0 ≤ kind
  pub high : kind ≤ 0xCCC7
  pub least : 6 ≤ size
  pub small : size < 4294967296
  pub fits : held + size ≤ room

abbrev pub head_of : ℕ → ℕ → ℕ
head_of kind size = kind + 65536 * size

pub head_type : (kind size : ℕ) → kind < 65536 → type_of (head_of kind size) ≡ kind
head_type kind size l = omega arith

pub head_len : (kind size : ℕ) → kind < 65536 → len_of (head_of kind size) ≡ size
head_len kind size l = omega arith

-- its six bytes
pub head-bytes : (kind size : ℕ) → kind < 65536 → bytes16 kind ++ bytes32 size ≡ head_bytes 6 (head_of kind size)
head-bytes kind size l =
    ap₂ (λ (x y : ℕ). bytes16 x ++ bytes32 y) (sym (head_type kind size l)) (sym (head_len kind size l)) ∙ six_bytes (head_of kind size)

block_good : (held kind size room : ℕ) → Fits held kind size room → 0 ≡ head_fault held (head_of kind size) room
block_good h kind size room b =
    let l = b.low in
    let m = b.high in
    let e = head_type kind size (omega arith) in
    let f = head_len kind size (omega arith) in
    let n = b.least in
    let o = b.fits in
    good_head h (head_of kind size) room (record { low = omega arith; high = omega arith; least = omega arith; fits = omega arith })

done_block :
    (part held kind size : ℕ) (store : List ℕ)
    → Fits held kind size (length store)
    → head_done (head_fault held (head_of kind size) (length store)) part held (head_of kind size) store
    ≡ settled (part_after part kind) (held + 6) (held + size) (patch store held (head_bytes 6 (head_of kind size)))
unfolding head_done
done_block p h kind size store b =
    let k : kind < 65536 = omega (arith, b.high) in
    sym (case_yes _ _ _ _ (eq-eqb (head_fault h (head_of kind size) (length store)) 0 (sym (block_good h kind size (length store) b))) refl)
    ∙ ap₂ (λ (x y : ℕ). settled (part_after p x) (h + 6) (h + y) (patch store h (head_bytes 6 (head_of kind size))))
    (head_type kind size k) (head_len kind size k)

-- more bytes of it, fewer than are left or as many
settled_on :
    (part held end n : ℕ) (store xs : List ℕ)
    → held + length xs ≤ end
    → end ≤ length store
    → followed (took n (settled part held end store)) xs ≡ took (n + length xs) (settled part (held + length xs) end (patch store held xs))
settled_on p h e n store [] l m =
    followed_none (took n (settled p h e store))
    ∙ ap₂ (λ (x y : ℕ). took x (settled p y e store)) (sym (add-zero n)) (sym (add-zero h))
    ∙ ap (λ (x : List ℕ). took (n + 0) (settled p (h + 0) e x)) (patch_none store h)
settled_on p h e n store (x ∷ xs) l m =
    goes_settled p h e n store (x ∷ xs) (omega arith) ∙ block_part (state (gathering p h e) store) n (length (x ∷ xs)) (x ∷ xs) refl (omega arith) l m

pub block_begun :
    (part held kind size n : ℕ) (store xs : List ℕ)
    → Fits held kind size (length store)
    → 6 + length xs ≤ size
    → walk (state (waiting part held 0 0) store) n (head_bytes 6 (head_of kind size) ++ xs)
    ≡ took ((n + 6) + length xs)
    (gathered (state (gathering (part_after part kind) (held + 6) (held + size)) (patch store held (head_bytes 6 (head_of kind size)))) xs)
block_begun p h kind size n store xs b l =
    let d = head_of kind size in
    let small = b.small in
    let high = b.high in
    let fits = b.fits in
    let least = b.least in
    let k = patch_length store (head_bytes 6 d) h (let z = bytes_length 6 d in omega arith) in
    walk_append (state (waiting p h 0 0) store) n (head_bytes 6 d) xs
    ∙ ap (λ (r : HandOver). followed r xs) (head_whole p h d n store (omega arith) ∙ ap (took (n + 6)) (done_block p h kind size store b))
    ∙ settled_on (part_after p kind) (h + 6) (h + size) (n + 6) (patch store h (head_bytes 6 d)) xs (omega arith) (omega arith)

-- ---- whole blocks

block_is : (b : Block) → Known b → block_bytes b ≡ head_bytes 6 (head_of b.kind (6 + length b.body)) ++ b.body
unfolding block_bytes
block_is b k = ap (λ (x : List ℕ). x ++ b.body) (head-bytes b.kind (6 + length b.body) (omega (arith, k.high)))

block_size : (b : Block) → length (block_bytes b) ≡ 6 + length b.body
unfolding block_bytes bytes16 bytes32
block_size b = length-append (bytes16 b.kind ++ bytes32 (6 + length b.body)) b.body

block_whole :
    (part held n : ℕ) (store : List ℕ) (b : Block)
    → Known b
    → held + length (block_bytes b) ≤ length store
    → walk (state (waiting part held 0 0) store) n (block_bytes b)
    ≡ took (n + length (block_bytes b))
    (settled (part_after part b.kind) (held + length (block_bytes b)) (held + length (block_bytes b)) (patch store held (block_bytes b)))
block_whole p h n store b k l =
    let size = 6 + length b.body in
    let d = head_of b.kind size in
    let z = block_size b in
    let fits : Fits h b.kind size (length store) = record { low = k.low; high = k.high; least = omega arith; small = k.small; fits = omega arith } in
    let x : (n + 6) + length b.body ≡ n + length (block_bytes b) = omega arith in
    let y : (h + 6) + length b.body ≡ h + length (block_bytes b) = omega arith in
    let w : h + size ≡ h + length (block_bytes b) = omega arith in
    ap (walk (state (waiting p h 0 0) store) n) (block_is b k)
    ∙ block_begun p h b.kind size n store b.body fits (omega arith)
    ∙ ap₂ (λ (u : ℕ) (v : List ℕ). took u (settled (part_after p b.kind) ((h + 6) + length b.body) (h + size) v)) x
    (patch_next _ _ store (head_bytes 6 d) b.body h (h + 6) refl refl (ap (λ (u : ℕ). h + u) (sym (bytes_length 6 d))) (omega arith)
    ∙ ap (patch store h) (sym (block_is b k)))
    ∙ ap₂ (λ (u v : ℕ). took (n + length (block_bytes b)) (settled (part_after p b.kind) u v (patch store h (block_bytes b)))) y w

-- ---- a block alone, and a whole frame

pub settled_waits :
    (part held end : ℕ) (store : List ℕ) → end ≤ held → part ≡ in_frame → settled part held end store ≡ step (waiting in_frame held 0 0) store More
unfolding settled
settled_waits p h e store l q =
    sym (case_no _ _ _ _ (le-ltb h e l) (case_yes _ _ _ _ (eq-eqb p 3 q) refl)) ∙ ap (λ (x : ℕ). step (waiting x h 0 0) store More) q

settled_end : (held : ℕ) (store : List ℕ) → settled at_end held held store ≡ step fresh store (Frame held)
unfolding settled ◌⇒◌∣◌
settled_end h store = sym (case_no _ _ _ _ (le-ltb h h (omega arith)) refl)

settled_alone : (t : Bool) (held : ℕ) (store : List ℕ) → settled (t ⇒ 1 ∣ 2) held held store ≡ step fresh store (t ⇒ Header held ∣ Frame held)
unfolding settled ◌⇒◌∣◌
settled_alone true h store = sym (case_no _ _ _ _ (le-ltb h h (omega arith)) refl)
settled_alone false h store = sym (case_no _ _ _ _ (le-ltb h h (omega arith)) refl)

part_alone : (kind : ℕ) → (kind ≡ 0xCCC4 → ⊥) → part_after 0 kind ≡ (leb kind 0xCCC3 ⇒ 1 ∣ 2)
unfolding part_after ◌⇒◌∣◌
part_alone k z = sym (case_no _ _ _ _ (ne_eqb k 0xCCC4 z) refl)

part_inner : (kind : ℕ) → (kind ≡ 0xCCC5 → ⊥) → part_after 3 kind ≡ 3
unfolding part_after ◌⇒◌∣◌
part_inner k z = sym (case_no _ _ _ _ (ne_eqb k 0xCCC5 z) refl)

hands_alone : (t : Bool) (n : ℕ) → goes_on (t ⇒ Header n ∣ Frame n) ≡ false
unfolding ◌⇒◌∣◌
hands_alone true n = refl
hands_alone false n = refl

-- a part that is handed on, whatever follows it
handed_whole :
    (store out xs more : List ℕ) (a : Collected)
    → goes_on a ≡ false
    → walk (state fresh store) 0 xs ≡ took (length xs) (step fresh out a)
    → collect_of (state fresh store) (xs ++ more) ≡ took (length xs) (step fresh out a)
handed_whole store out xs more a g e =
    open_call (state fresh store) (xs ++ more) (takes fresh (length store) (open_fresh (length store)))
    ∙ walk_append (state fresh store) 0 xs more
    ∙ ap (λ (r : HandOver). followed r more) e
    ∙ stops_at (took (length xs) (step fresh out a)) more g

pub alone_handed :
    (store more : List ℕ) (b : Block)
    → Known b
    → (b.kind ≡ 0xCCC4 → ⊥)
    → length (block_bytes b) ≤ length store
    → collect_of (state fresh store) (block_bytes b ++ more)
    ≡ took (length (block_bytes b))
    (step fresh (patch store 0 (block_bytes b)) (leb b.kind 0xCCC3 ⇒ Header (length (block_bytes b)) ∣ Frame (length (block_bytes b))))
alone_handed store more b k z l =
    let n = length (block_bytes b) in
    let out = patch store 0 (block_bytes b) in
    handed_whole store out (block_bytes b) more _ (hands_alone (leb b.kind 0xCCC3) n)
    (block_whole 0 0 0 store b k (omega arith)
    ∙ ap (λ (x : ℕ). took x (settled (part_after 0 b.kind) x x out)) (zero-add n)
    ∙ ap (took n) (ap (λ (x : ℕ). settled x n n out) (part_alone b.kind z) ∙ settled_alone (leb b.kind 0xCCC3) n out))

inner_block :
    (held n : ℕ) (store : List ℕ) (b : Block)
    → Known b
    → (b.kind ≡ 0xCCC5 → ⊥)
    → held + length (block_bytes b) ≤ length store
    → walk (state (waiting 3 held 0 0) store) n (block_bytes b)
    ≡ took (n + length (block_bytes b)) (step (waiting 3 (held + length (block_bytes b)) 0 0) (patch store held (block_bytes b)) More)
inner_block h n store b k z l =
    block_whole 3 h n store b k l
    ∙ ap (took (n + length (block_bytes b)))
    (settled_waits (part_after 3 b.kind) _ (h + length (block_bytes b)) (patch store h (block_bytes b)) (omega arith) (part_inner b.kind z))

inner_blocks :
    (held n : ℕ) (store : List ℕ) (bs : List Block)
    → Inner bs
    → held + length (blocks_of bs) ≤ length store
    → walk (state (waiting 3 held 0 0) store) n (blocks_of bs)
    ≡ took (n + length (blocks_of bs)) (step (waiting 3 (held + length (blocks_of bs)) 0 0) (patch store held (blocks_of bs)) More)
unfolding blocks_of
inner_blocks h n store [] i l =
    walk_none (waiting 3 h 0 0) store n
    ∙ ap₂ (λ (x y : ℕ). took x (step (waiting 3 y 0 0) store More)) (sym (add-zero n)) (sym (add-zero h))
    ∙ ap (λ (x : List ℕ). took (n + 0) (step (waiting 3 (h + 0) 0 0) x More)) (patch_none store h)
inner_blocks h n store (b ∷ bs) i l =
    let u = length (block_bytes b) in
    let v = length (blocks_of bs) in
    let w = length-append (block_bytes b) (blocks_of bs) in
    let one = patch store h (block_bytes b) in
    let k = patch_length store (block_bytes b) h (omega arith) in
    let x : (n + u) + v ≡ n + length (block_bytes b ++ blocks_of bs) = omega arith in
    let y : (h + u) + v ≡ h + length (block_bytes b ++ blocks_of bs) = omega arith in
    walk_through (state (waiting 3 h 0 0) store) _ n _ _ (block_bytes b) (blocks_of bs) (inner_block h n store b i.0 i.1.0 (omega arith))
    ∙ inner_blocks (h + u) (n + u) one bs i.1.1 (omega arith)
    ∙ ap₂ (λ (p q : ℕ). took p (step (waiting 3 q 0 0) (patch one (h + u) (blocks_of bs)) More)) x y
    ∙ ap (λ (p : List ℕ). took (n + length (block_bytes b ++ blocks_of bs)) (step (waiting 3 (h + length (block_bytes b ++ blocks_of bs)) 0 0) p More))
    (patch_next one _ store (block_bytes b) (blocks_of bs) h (h + u) refl refl refl (omega arith))

abbrev begins : List ℕ → Block
begins body = record { kind = 0xCCC4; body = body }

abbrev closes : List ℕ → Block
closes body = record { kind = 0xCCC5; body = body }

known : (kind : ℕ) (body : List ℕ) → 0xCCC0 ≤ kind → kind ≤ 0xCCC7 → 6 + length body < 4294967296 → Known (record { kind = kind; body = body })
known k body l m s = record { low = l; high = m; small = s }

begin_walk :
    (store first : List ℕ)
    → 6 + length first < 4294967296
    → length (block_bytes (begins first)) ≤ length store
    → walk (state fresh store) 0 (block_bytes (begins first))
    ≡ took (length (block_bytes (begins first))) (step (waiting 3 (length (block_bytes (begins first))) 0 0) (patch store 0 (block_bytes (begins first))) More)
unfolding part_after ◌⇒◌∣◌
begin_walk store first s l =
    let b = begins first in
    let n = length (block_bytes b) in
    let out = patch store 0 (block_bytes b) in
    block_whole 0 0 0 store b (known 0xCCC4 first (omega arith) (omega arith) s) (omega arith)
    ∙ ap (λ (x : ℕ). took x (settled 3 x x out)) (zero-add n)
    ∙ ap (took n) (settled_waits 3 n n out (omega arith) refl)

end_walk :
    (held : ℕ) (store last : List ℕ)
    → 6 + length last < 4294967296
    → held + length (block_bytes (closes last)) ≤ length store
    → walk (state (waiting 3 held 0 0) store) held (block_bytes (closes last))
    ≡ took (held + length (block_bytes (closes last)))
    (step fresh (patch store held (block_bytes (closes last))) (Frame (held + length (block_bytes (closes last)))))
unfolding part_after ◌⇒◌∣◌
end_walk h store last s l =
    let b = closes last in
    let n = h + length (block_bytes b) in
    block_whole 3 h h store b (known 0xCCC5 last (omega arith) (omega arith) s) l ∙ ap (took n) (settled_end n (patch store h (block_bytes b)))

pub frame_handed :
    (store more first last : List ℕ) (bs : List Block)
    → 6 + length first < 4294967296
    → Inner bs
    → 6 + length last < 4294967296
    → length (frame_bytes first bs last) ≤ length store
    → collect_of (state fresh store) (frame_bytes first bs last ++ more)
    ≡ took (length (frame_bytes first bs last)) (step fresh (patch store 0 (frame_bytes first bs last)) (Frame (length (frame_bytes first bs last))))
unfolding frame_bytes
frame_handed store more first last bs f i g l =
    let b = block_bytes (begins first) in
    let m = blocks_of bs in
    let e = block_bytes (closes last) in
    let u = length-append b (m ++ e) in
    let v = length-append m e in
    let one = patch store 0 b in
    let two = patch one (length b) m in
    let k = patch_length store b 0 (omega arith) in
    let j = patch_length one m (length b) (omega arith) in
    let n : (length b + length m) + length e ≡ length (b ++ (m ++ e)) = omega arith in
    let d : length b ≡ 0 + length b = omega arith in
    let h : length b + length m ≡ 0 + length (b ++ m) = (let w = length-append b m in omega arith) in
    handed_whole store (patch store 0 (b ++ (m ++ e))) (b ++ (m ++ e)) more (Frame (length (b ++ (m ++ e)))) refl
    (walk_through (state fresh store) _ 0 _ _ b (m ++ e) (begin_walk store first f (omega arith))
    ∙ walk_through (state (waiting 3 (length b) 0 0) one) _ (length b) _ _ m e (inner_blocks (length b) (length b) one bs i (omega arith))
    ∙ end_walk (length b + length m) two last g (omega arith)
    ∙ ap₂ (λ (x : ℕ) (y : List ℕ). took x (step fresh y (Frame x))) n
    (patch_next two _ store (b ++ m) e 0 (length b + length m) (patch_next one two store b m 0 (length b) refl refl d (omega arith)) refl h (omega arith)
    ∙ ap (patch store 0) (append_assoc b m e)))
