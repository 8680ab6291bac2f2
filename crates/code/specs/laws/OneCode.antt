-- One code for one list: 01's demands on the component reader, for both modes and every input. `code mode zs` is the code of the list zs.
-- (01 is this project's scope document, 02 its change requests, 001 is MS-RDPRFX: README, "What 01 is".)
use Rattle.std.specs.Prelude.{ℕ, zero, suc, ◌≤◌, ◌<◌, ◌≡◌, Bool, List, [], ◌∷◌, ◌++◌, map, ltb, eqb, ℤ, drop, replicate}
use Rattle.std.proofs.Math.Path.{refl, sym, ap}
use Rattle.std.proofs.Common.{subst, ◌∙◌, append-nil, arith, lt-ltb, le-leb, ltb-true, eq-eqb, drop_at}
use Rattle.std.proofs.Math.Bool.{true, false}
use Rattle.std.proofs.Math.ListN.{length}
use Rattle.std.proofs.lemmas.List.{length-map, length-replicate}
use Rattle.whole.specs.laws.Tab.{AllNear}
use Rattle.whole.specs.Row.{◌!◌⨾◌}
use Rattle.whole.specs.laws.Row.{held, passes}
use Rattle.bits.specs.Bits.{bits_of}
use Rattle.bits.specs.Bytes.{Written}
use Rattle.bits.specs.laws.Bytes.{Bytes, written_once}
use Rattle.wire.specs.Mode.{is_mode}
use Rattle.code.specs.Fold.{fold_z, unfold_z}
use Rattle.code.specs.laws.Fold.{map_unfold, map_fold, range_fold, fold_range}
use Rattle.code.specs.Code.{code_of, InRange}
use Rattle.code.specs.ReadList.{whole, read_list}
use Rattle.code.specs.laws.List.{read_back, prefix_free, Taken}
use Rattle.code.specs.Read.{reading_number, reading_bits, no_ones, clean, end_reading, end_list, code_reading, code_list, shell_fault, reading, read_fault}
use Rattle.code.specs.Read.{read_bits, decoded, read_into, ComponentRead}
use Rattle.code.specs.laws.Read.{accepted, accepted_list, accepted_taken, passed, read_number, into_decoded, shell_goes}
use Rattle.code.specs.declared.read.Reading.{Reading}
use Rattle.code.specs.declared.read.Reading.TheVariants.{Done, Tail}
use Rattle.code.specs.OneCode.{code, Listed, Call, Exactly}

-- ---- bits of which none is 1

no-ones : (bs : List Bool) → no_ones bs ≡ true → bs ≡ replicate (length bs) false
unfolding no_ones
no-ones [] h = refl
no-ones (true ∷ bs) h = let z : ◌≡◌ {A = ℕ} 0 1 = cc in absurd (omega arith)
no-ones (false ∷ bs) h = ap (λ (l : List Bool). false ∷ l) (no-ones bs h)

ones_no : (n : ℕ) → no_ones (replicate n false) ≡ true
unfolding no_ones
ones_no zero = refl
ones_no (suc n) = ones_no n

clean_is : (bs : List Bool) → clean bs ≡ true → (length bs < 8) × (bs ≡ replicate (length bs) false)
unfolding clean
clean_is bs h =
    let e = held (ltb (length bs) 8) false (no_ones bs) true (λ q. let z : ◌≡◌ {A = ℕ} 0 1 = cc in omega arith) (sym h) in
    (ltb-true (length bs) 8 e.0, no-ones bs (sym e.1))

is_clean : (pad : ℕ) → pad < 8 → clean (replicate pad false) ≡ true
unfolding clean
is_clean pad h = sym (passes _ _ _ _ (lt-ltb (length (replicate pad false)) 8 (omega (arith, length-replicate pad false))) (sym (ones_no pad)))

-- ---- (b) any bits behind a code: the reader reports that code's length, and the tail decides between 0 and 11

module _ (mode : ℕ) (s : List ℕ) (before zs : List ℤ) (c : Call mode s before) (l : Listed zs) (rest : List Bool) (e : bits_of s ≡ code mode zs ++ rest) where
  shell_zero : shell_fault mode (length before) (length s) ≡ 0
  unfolding shell_fault
  shell_zero =
      sym (passes _ _ _ _ c.allowed (passes _ _ _ _ (eq-eqb (length before) 4096 c.room) (passes _ _ _ _ (le-leb (length s) 65535 c.small) refl)))

  walked : read_list (eqb mode 4) 4096 (bits_of s) ≡ whole (map fold_z zs) (length (code mode zs))
  walked =
      let n : 4096 ≡ length (map fold_z zs) = sym (length-map zs fold_z ∙ l.len) in
      ap (λ (k : ℕ). read_list (eqb mode 4) k (bits_of s)) n ∙ ap (λ (b : List Bool). read_list (eqb mode 4) (length (map fold_z zs)) b) e
      ∙ read_back (eqb mode 4) (map fold_z zs) rest (range_fold zs l.range)

  tail_is : clean (drop (length (code mode zs)) (bits_of s)) ≡ clean rest
  tail_is = ap (λ (b : List Bool). clean (drop (length (code mode zs)) b)) e ∙ ap clean (drop_at (code mode zs) rest (length (code mode zs)) refl)

  pub behind : reading mode (length before) s ≡ (clean rest ! Tail (length (code mode zs)) ⨾ Done (length (code mode zs)))
  unfolding reading code_reading end_reading
  behind =
      sym (shell_goes (shell_fault mode (length before) (length s)) (code_reading (eqb mode 4) s) shell_zero) ∙ ap (end_reading (bits_of s)) walked ∙
      ap (λ (b : Bool). b ! Tail (length (code mode zs)) ⨾ Done (length (code mode zs))) tail_is

  pub behind_bits : read_bits mode (length before) s ≡ length (code mode zs)
  unfolding read_bits reading_bits ◌!◌⨾◌
  behind_bits = ap reading_bits behind ∙ go (clean rest)
    where
      go : (b : Bool) → reading_bits (b ! Tail (length (code mode zs)) ⨾ Done (length (code mode zs))) ≡ length (code mode zs)
      go true = refl
      go false = refl

  pub behind_number : read_fault mode (length before) s ≡ (clean rest ! 11 ⨾ 0)
  unfolding read_fault reading_number ◌!◌⨾◌
  behind_number = ap reading_number behind ∙ go (clean rest)
    where
      go : (b : Bool) → reading_number (b ! Tail (length (code mode zs)) ⨾ Done (length (code mode zs))) ≡ (b ! 11 ⨾ 0)
      go true = refl
      go false = refl

  -- and the list is zs, unless there is a tail
  pub behind_list : clean rest ≡ true → read_into mode s before ≡ zs
  unfolding read_into decoded code_list end_list
  behind_list t =
      sym (passes _ _ _ _ (eq-eqb _ 0 shell_zero) refl) ∙ ap (end_list (bits_of s)) walked ∙ sym (passes _ _ _ _ (tail_is ∙ t) refl) ∙ map_unfold zs

pub exactly_answers :
    (mode : ℕ) (s : List ℕ) (before zs : List ℤ) → Exactly mode s before zs →
    (reading mode (length before) s ≡ Done (length (code mode zs))) × (read_into mode s before ≡ zs)
exactly_answers mode s before zs e =
    let k = is_clean e.bytes.pad e.bytes.few in (
      behind mode s before zs e.call e.list (replicate e.bytes.pad false) e.bytes.bits ∙ sym (passes _ _ _ _ k refl),
      behind_list mode s before zs e.call e.list (replicate e.bytes.pad false) e.bytes.bits k,
    )

pub answers_exactly :
    (mode : ℕ) (s : List ℕ) (before zs : List ℤ) → read_fault mode (length before) s ≡ 0 → read_into mode s before ≡ zs → Exactly mode s before zs
answers_exactly mode s before zs f r =
    let a = accepted mode (length before) s (sym f) in
    let p = passed mode (length before) (length s) a.shell in
    let z : zs ≡ map unfold_z a.xs = sym r ∙ into_decoded mode s before (sym f) ∙ accepted_list mode (length before) s a in
    go a.xs a.at z (accepted_taken mode (length before) s a) (clean_is (drop a.at (bits_of s)) a.tail)
    (record { allowed = p.known; room = p.full; small = p.small })
  where
    go :
        (xs : List ℕ) (at : ℕ) → zs ≡ map unfold_z xs → Taken (eqb mode 4) 4096 (bits_of s) xs at →
        (length (drop at (bits_of s)) < 8) × (drop at (bits_of s) ≡ replicate (length (drop at (bits_of s))) false) → Call mode s before →
        Exactly mode s before zs
    go xs at z t k c =
        let x : xs ≡ map fold_z zs = sym (map_fold xs) ∙ ap (map fold_z) (sym z) in
        record {
          call = c;
          list = record { len = ap length z ∙ length-map xs unfold_z ∙ t.len; range = fold_range zs (subst InRange x t.range) };
          bytes =
              record {
                pad = length (drop at (bits_of s));
                few = k.0;
                bits = t.bits ∙ ap (λ (b : List Bool). code_of (eqb mode 4) xs ++ b) k.1 ∙ ap
                    (λ (y : List ℕ). code_of (eqb mode 4) y ++ replicate (length (drop at (bits_of s))) false) x;
              };
        }

-- the bytes of a list's code are read as that list: what a frame's reader makes of a frame that our writer wrote
pub written_decoded :
    (mode : ℕ) (s : List ℕ) (zs : List ℤ) → is_mode mode ≡ true → length s ≤ 65535 → Listed zs → Written s (code mode zs) →
    (read_fault mode 4096 s ≡ 0) × (decoded mode s ≡ zs)
unfolding read_fault reading_number
written_decoded mode s zs m h l w =
    let a = exactly_answers mode s zs zs (record { call = record { allowed = m; room = l.len; small = h }; list = l; bytes = w }) in
    let f : read_fault mode (length zs) s ≡ 0 = ap reading_number a.0 in
    (ap (λ (n : ℕ). read_fault mode n s) (sym l.len) ∙ f, sym (into_decoded mode s zs (sym f)) ∙ a.1)

-- 4,096 numbers within 32,767, in the form of the crate whole
pub near_listed : (zs : List ℤ) → length zs ≡ 4096 → AllNear 32767 zs → Listed zs
near_listed zs l a = record { len = l; range = λ i. (a.all i).near }

-- the same of any reader that keeps the promise
module _ (mode : ℕ) (s : List ℕ) (before after : List ℤ) (r : Reading) (p : ComponentRead mode s before after r) where
  pub done_if : (zs : List ℤ) → Exactly mode s before zs → (r ≡ Done (length (code mode zs))) × (after ≡ zs)
  done_if zs e = let a = exactly_answers mode s before zs e in (p.answer ∙ a.0, p.list ∙ a.1)

  pub done_only_if : reading_number r ≡ 0 → Exactly mode s before after
  done_only_if e = answers_exactly mode s before after (sym (read_number mode s before after r p) ∙ e) (sym p.list)

-- ---- (c) one code for one list, and one list of bytes for one code

-- if one list's code is the start of another's, they are the same list
pub start_once : (mode : ℕ) (xs ys : List ℤ) (r : List Bool) → Listed xs → Listed ys → code mode xs ++ r ≡ code mode ys → xs ≡ ys
start_once mode xs ys r p q e =
    let l : length (map fold_z xs) ≡ length (map fold_z ys) = length-map xs fold_z ∙ p.len ∙ sym (length-map ys fold_z ∙ q.len) in
    let f : map fold_z xs ≡ map fold_z ys =
    prefix_free (eqb mode 4) (map fold_z xs) (map fold_z ys) r [] l (range_fold xs p.range) (range_fold ys q.range)
    (e ∙ sym (append-nil (code mode ys))) in
    sym (map_unfold xs) ∙ ap (map unfold_z) f ∙ map_unfold ys

pub bytes_once : (mode : ℕ) (s t : List ℕ) (zs : List ℤ) → Bytes s → Bytes t → Written s (code mode zs) → Written t (code mode zs) → s ≡ t
bytes_once mode s t zs = written_once s t (code mode zs)

-- ---- (d) two answers, and two lists, that meet the promise for the same input are equal
pub read_once :
    (mode : ℕ) (s : List ℕ) (before a b : List ℤ) (r q : Reading) → ComponentRead mode s before a r → ComponentRead mode s before b q → (r ≡ q) × (a ≡ b)
read_once mode s before a b r q x y = (x.answer ∙ sym y.answer, x.list ∙ sym y.list)
