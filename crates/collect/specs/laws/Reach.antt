-- Every record that is taken can be made: bytes that lead to it from a fresh one, in one call.
use Rattle.std.specs.Prelude.{ℕ, zero, suc, ◌+◌, ◌-◌, ◌*◌, ◌/◌, ◌%◌, ◌^◌, ◌≤◌, ◌<◌, ◌≡◌, refl, true, List, [], ◌∷◌, ◌++◌, length, replicate}
use Rattle.std.proofs.Common.{ap, ap₂, sym, ◌∙◌, subst, inl, inr, arith}
use Rattle.std.proofs.Math.Decide.{dec_lt, ℕ_discrete}
use Rattle.std.proofs.lemmas.List.{length-replicate}
use Rattle.wire.specs.Le.{patch}
use Rattle.wire.specs.laws.Le.{patch_length}
use Rattle.whole.specs.Row.{◌⇒◌∣◌}
use Rattle.collect.specs.declared.Collector.{Collector}
use Rattle.collect.specs.declared.Collected.TheVariants.{More}
use Rattle.collect.specs.Collect.{HandOver, in_frame, waiting, fresh, gathering, refusing, head_bytes, head_fault, part_after, state, step, took, settled}
use Rattle.collect.specs.Collect.{collector_made, walk}
use Rattle.collect.specs.laws.Made.{head_good, none_good, same_refusal, Ends, begin, later, alone, Between, none, some, takes, open_fresh, Heads}
use Rattle.collect.specs.laws.Made.{heads, no_refusal, some_refusal, gathers, same_waiting, same_refusing, same_gathering}
use Rattle.collect.specs.laws.Byte.{bytes_length}
use Rattle.collect.specs.laws.Block.{Fits, head_of, settled_waits, walk_none, head_walk, head_whole, block_begun}
use Rattle.collect.specs.laws.Walk.{walk_through, settled_goes}
use Rattle.collect.specs.laws.Code.{done_bad}
use Rattle.collect.specs.laws.Cut.{open_call}
use Rattle.collect.specs.Request.{Bytes, Reached}

-- ---- lists of bytes

bytes_cons : (x : ℕ) (xs : List ℕ) → x < 256 → Bytes xs → Bytes (x ∷ xs)
bytes_cons x xs l h zero = l
bytes_cons x xs l h (suc i) = h i

bytes_append : (a b : List ℕ) → Bytes a → Bytes b → Bytes (a ++ b)
bytes_append [] b f g = g
bytes_append (x ∷ a) b f g = bytes_cons x (a ++ b) (f 0) (bytes_append a b (λ i. f (suc i)) g)

bytes_none : Bytes []
bytes_none i = omega arith

bytes_head : (k d : ℕ) → Bytes (head_bytes k d)
unfolding head_bytes
bytes_head zero d = bytes_none
bytes_head (suc k) d = bytes_cons (d % 256) (head_bytes k (d / 256)) (omega arith) (bytes_head k (d / 256))

bytes_zeros : (k : ℕ) → Bytes (replicate k 0)
bytes_zeros zero = bytes_none
bytes_zeros (suc k) = bytes_cons 0 (replicate k 0) (omega arith) (bytes_zeros k)

-- ---- bytes that lead from a fresh record to another, over a store of so many bytes

record Led (c : Collector) (room : ℕ) : Type 0 where
  pub first : List ℕ
  pub store : List ℕ
  pub bytes : List ℕ
  pub n : ℕ
  pub small : Bytes bytes
  pub kept : length store ≡ room
  pub walked : walk (state fresh first) 0 bytes ≡ took n (step c store More)

led_fresh : (room : ℕ) → Led fresh room
led_fresh room =
    record {
      first = replicate room 0;
      store = replicate room 0;
      bytes = [];
      n = 0;
      small = bytes_none;
      kept = length-replicate room 0;
      walked = walk_none fresh (replicate room 0) 0;
    }

led_walk : {c : Collector} {room : ℕ} (l : Led c room) (xs : List ℕ) → walk (state fresh l.first) 0 (l.bytes ++ xs) ≡ walk (state c l.store) l.n xs
led_walk {c} l xs = walk_through (state fresh l.first) c 0 l.n l.store l.bytes xs l.walked

led_on :
    {c : Collector} {room : ℕ} (d : Collector) (l : Led c room) (xs out : List ℕ) (m : ℕ)
    → Bytes xs
    → length out ≡ room
    → walk (state c l.store) l.n xs ≡ took m (step d out More)
    → Led d room
led_on d l xs out m b k e =
    record {
      first = l.first;
      store = out;
      bytes = l.bytes ++ xs;
      n = m;
      small = bytes_append l.bytes xs l.small b;
      kept = k;
      walked = led_walk l xs ∙ e;
    }

-- through a head that waits
led_head : (part held seen head room : ℕ) → seen < 6 → head < 256 ^ seen → Led (waiting part held 0 0) room → Led (waiting part held seen head) room
led_head p h n d room l m w =
    let e : 0 + n ≡ n = omega arith in
    let f : 0 + 256 ^ 0 * d ≡ d = omega arith in
    led_on (waiting p h n d) w (head_bytes n d) w.store (w.n + n) (bytes_head n d) w.kept
    (head_walk n 0 p h 0 d w.n w.store (omega arith) m ∙ ap₂ (λ (x y : ℕ). took (w.n + n) (step (waiting p h x y) w.store More)) e f)

-- through a block, or some of it
led_block :
    (part held kind size k room : ℕ) (c : Collector)
    → Fits held kind size room
    → 6 + k ≤ size
    → ((store : List ℕ) → settled (part_after part kind) ((held + 6) + k) (held + size) store ≡ step c store More)
    → Led (waiting part held 0 0) room
    → Led c room
led_block p h kind size k room c b l e w =
    let d = head_of kind size in
    let xs : List ℕ = replicate k 0 in
    let z : length xs ≡ k = length-replicate k 0 in
    let one = patch w.store h (head_bytes 6 d) in
    let two = patch one (h + 6) xs in
    let fits = b.fits in
    let kept = w.kept in
    let m = patch_length w.store (head_bytes 6 d) h (let y = bytes_length 6 d in omega arith) in
    let n = patch_length one xs (h + 6) (omega arith) in
    led_on c w (head_bytes 6 d ++ xs) two ((w.n + 6) + length xs) (bytes_append (head_bytes 6 d) xs (bytes_head 6 d) (bytes_zeros k)) (omega arith)
    (block_begun p h kind size w.n w.store xs (subst (Fits h kind size) (sym kept) b) (omega arith)
    ∙ ap (λ (x : ℕ). took ((w.n + 6) + length xs) (settled (part_after p kind) ((h + 6) + x) (h + size) two)) z
    ∙ ap (took ((w.n + 6) + length xs)) (e two))

-- a frame's begin block, and then blocks of six bytes
led_frames : (k r room : ℕ) → r < 6 → (6 + r) + 6 * k ≤ room → Led (waiting in_frame ((6 + r) + 6 * k) 0 0) room
unfolding part_after ◌⇒◌∣◌
led_frames zero r room l m =
    let a : (0 + 6) + r ≡ (6 + r) + 6 * 0 = omega arith in
    led_block 0 0 0xCCC4 (6 + r) r room _
    (record { low = omega arith; high = omega arith; least = omega arith; small = omega arith; fits = omega arith }) (omega arith)
    (λ store. settled_waits 3 ((0 + 6) + r) (0 + (6 + r)) store (omega arith) refl ∙ ap (λ (x : ℕ). step (waiting 3 x 0 0) store More) a) (led_fresh room)
led_frames (suc k) r room l m =
    let h = (6 + r) + 6 * k in
    let a : (h + 6) + 0 ≡ (6 + r) + 6 * suc k = omega arith in
    led_block 3 h 0xCCC6 6 0 room _
    (record { low = omega arith; high = omega arith; least = omega arith; small = omega arith; fits = omega arith }) (omega arith)
    (λ store. settled_waits 3 ((h + 6) + 0) (h + 6) store (omega arith) refl ∙ ap (λ (x : ℕ). step (waiting 3 x 0 0) store More) a)
    (led_frames k r room l (omega arith))

led_between : (part held room : ℕ) → Between part held → held ≤ room → Led (waiting part held 0 0) room
led_between p h room (none a b) l = subst (λ (c : Collector). Led c room) (ap₂ (λ (x y : ℕ). waiting x y 0 0) (sym a) (sym b)) (led_fresh room)
led_between p h room (some a b) l =
    let e : (6 + h % 6) + 6 * (h / 6 - 1) ≡ h = omega arith in
    subst (λ (c : Collector). Led c room) (ap₂ (λ (x y : ℕ). waiting x y 0 0) (sym a) e) (led_frames (h / 6 - 1) (h % 6) room (omega arith) (omega arith))

-- ---- a block under way

-- behind what is gathered, so many bytes of it
led_part :
    (part held kind size k room to : ℕ)
    → Fits held kind size room
    → 6 + k < size
    → part_after part kind ≡ to
    → Led (waiting part held 0 0) room
    → Led (gathering to ((held + 6) + k) (held + size)) room
led_part p h kind size k room q b l e w =
    led_block p h kind size k room _ b (omega arith)
    (λ store.
    settled_goes (part_after p kind) ((h + 6) + k) (h + size) store (omega arith)
    ∙ ap (λ (x : ℕ). step (gathering x ((h + 6) + k) (h + size)) store More) e) w

-- at the store's start
led_first :
    (part kind held end : ℕ)
    → 0xCCC0 ≤ kind
    → kind ≤ 0xCCC7
    → part_after 0 kind ≡ part
    → 6 ≤ held
    → held < end
    → end < 4294967296
    → Led (gathering part held end) (held + end)
led_first p kind h e l m q n o c =
    let x : (0 + 6) + (h - 6) ≡ h = omega arith in
    let y : 0 + e ≡ e = omega arith in
    subst (λ (c : Collector). Led c (h + e)) (ap₂ (gathering p) x y)
    (led_part 0 0 kind e (h - 6) (h + e) p (record { low = l; high = m; least = omega arith; small = c; fits = omega arith }) (omega arith) q
    (led_fresh (h + e)))

-- in a frame, with its head just taken
led_later :
    (part kind held end : ℕ)
    → 0xCCC0 ≤ kind
    → kind ≤ 0xCCC7
    → part_after 3 kind ≡ part
    → 12 ≤ held
    → held < end
    → end - held < 4294967290
    → Led (gathering part held end) (held + end)
led_later p kind h e l m q n o c =
    let x : ((h - 6) + 6) + 0 ≡ h = omega arith in
    let y : (h - 6) + ((e - h) + 6) ≡ e = omega arith in
    subst (λ (c : Collector). Led c (h + e)) (ap₂ (gathering p) x y)
    (led_part 3 (h - 6) kind ((e - h) + 6) 0 (h + e) p
    (record { low = l; high = m; least = omega arith; small = omega arith; fits = omega arith }) (omega arith) q
    (led_between 3 (h - 6) (h + e) (some refl (omega arith)) (omega arith)))

led_ends : (part held end : ℕ) → 6 ≤ held → held < end → Ends part held end → Led (gathering part held end) (held + end)
unfolding part_after ◌⇒◌∣◌
led_ends p h e l m (begin a b c) = led_first p 0xCCC4 h e (omega arith) (omega arith) (sym a) l m c
led_ends p h e l m (later (inl a) b c) = led_later p 0xCCC6 h e (omega arith) (omega arith) (sym a) b m c
led_ends p h e l m (later (inr a) b c) = led_later p 0xCCC5 h e (omega arith) (omega arith) (sym a) b m c
led_ends p h e l m (alone a b c) = by (dec_lt p 2)
  where
    by : Dec (p < 2) → Led (gathering p h e) (h + e)
    by (yes q) = led_first p 0xCCC0 h e (omega arith) (omega arith) (let z : 1 ≡ p = omega arith in z) l m c
    by (no q) = led_first p 0xCCC7 h e (omega arith) (omega arith) (let z : 2 ≡ p = omega arith in z) l m c

-- ---- every made record

led_reached : {c : Collector} {room : ℕ} → Led c room → Reached c
led_reached l =
    record {
      store = l.first;
      bytes = l.bytes;
      small = l.small;
      is = ap (λ (r : HandOver). r.step.state.collector)
          (open_call (state fresh l.first) l.bytes (takes fresh (length l.first) (open_fresh (length l.first))) ∙ l.walked);
    }

-- with a refused head, over a store that is full with what is gathered
refused_reached : (part held head : ℕ) → Between part held → head < 281474976710656 → Reached (refusing (head_fault 0 head 0) part held head)
refused_reached p h d b l =
    let w = led_between p h h b (omega arith) in
    let k = w.kept in
    let room = length w.store in
    let z : 0 ≡ head_fault h d room → ⊥ = (λ q. let g = head_good h d room q in let x = g.least in let y = g.fits in omega arith) in
    let e = same_refusal h d room z in
    record {
      store = w.first;
      bytes = w.bytes ++ head_bytes 6 d;
      small = bytes_append w.bytes (head_bytes 6 d) w.small (bytes_head 6 d);
      is = ap (λ (r : HandOver). r.step.state.collector)
          (open_call (state fresh w.first) (w.bytes ++ head_bytes 6 d) (takes fresh (length w.first) (open_fresh (length w.first)))
          ∙ led_walk w (head_bytes 6 d)
          ∙ head_whole p h d w.n w.store l
          ∙ sym (done_bad (head_fault 0 d 0) (head_fault h d room) p h d (w.n + 6) w.store (sym e) (λ q. none_good d (sym q))));
    }

head_reached : (c : Collector) → c.end ≡ 0 → Heads c → Dec (c.seen < 6) → Reached c
head_reached c e h (yes l) =
    subst Reached (same_waiting c e (h.number ∙ sym (no_refusal c.seen c.head l)))
    (led_reached (led_head c.part c.held c.seen c.head c.held l h.small (led_between c.part c.held c.held h.place (omega arith))))
head_reached c e h (no l) =
    let six : c.seen ≡ 6 = (let x = h.few in omega arith) in
    subst Reached (same_refusing c (head_fault 0 c.head 0) e six (h.number ∙ sym (some_refusal c.seen c.head (omega arith))))
    (refused_reached c.part c.held c.head h.place (subst (λ (n : ℕ). c.head < 256 ^ n) six h.small))

pub made_by_call : (c : Collector) → true ≡ collector_made c → Reached c
made_by_call c m = by (ℕ_discrete c.end 0)
  where
    by : Dec (c.end ≡ 0) → Reached c
    by (yes e) = head_reached c e (heads c m e) (dec_lt c.seen 6)
    by (no z) =
        let g = gathers c m z in
        subst Reached (same_gathering c g) (led_reached (led_ends c.part c.held c.end g.least g.less g.kind))
