-- What means a list, both ways. How a list came to be meant (`how`) gives its form (`means_form`), and a form gives the list (`form_means`): 01's bytes by the
-- reader's own laws; FreeRDP's since the reader says 11 of them and takes all but the last; the sample's since what 01 reads is never the code of a list with
-- -1 behind it and zero bits (`not_own`: that would be the code of a list with a zero behind it, and no code of 4,097 values is the start of another).
use Prim.Native.Nat.{ℕ, zero, suc, ◌+◌, ◌-◌, ◌%◌, ◌≤◌, ◌<◌}
use Rattle.std.specs.Prelude.{◌≡◌, Bool, ◌⊎◌, ltb, leb, eqb, ℤ, take, drop, get_or}
use Rattle.std.proofs.Math.Path.{refl, sym, ap, subst}
use Rattle.std.proofs.Common.{◌∙◌, arith, lt-ltb, le-ltb, ltb-true, leb-true, le-leb, eqb-true, eq-eqb, ne_eqb, length-take, take-suc, take_all, take_at}
use Rattle.std.proofs.Common.{drop_at}
use Rattle.std.proofs.Math.Bool.{true, false}
use Rattle.std.proofs.Math.Logic.{inl, inr}
use mathlib.Core.List.{List, [], ◌∷◌, ◌++◌, map, append-nil, append_assoc}
use Rattle.std.proofs.Math.ListN.{length, replicate, length-append, length-map}
use Rattle.std.proofs.lemmas.List.{length-replicate, replicate-append-replicate, get_or_at}
use Rattle.whole.specs.Row.{◌!◌⨾◌, ◌⇒◌∣◌}
use Rattle.whole.specs.laws.Row.{held, passes, fails, case_yes, case_no}
use Rattle.wire.specs.Mode.{is_mode}
use Rattle.bits.specs.Bits.{bits_of, num_bits}
use Rattle.bits.specs.Bytes.{Written}
use Rattle.bits.specs.laws.Bytes.{Bytes}
use Rattle.bits.specs.laws.Pen.{bits_of_append}
use Rattle.code.specs.Fold.{fold_z, unfold_z}
use Rattle.code.specs.laws.Fold.{map_unfold, map_fold, range_fold, fold_range}
use Rattle.code.specs.Code.{code_of, InRange}
use Rattle.code.specs.ReadList.{Walked, whole, bad, read_list}
use Rattle.code.specs.laws.List.{read_back, taken, prefix_free}
use Rattle.code.specs.Read.{no_ones, clean, shell_fault, read_fault, read_bits, reading_bits, decoded}
use Rattle.code.specs.laws.Read.{Passed, passed, into_decoded, decoded_length}
use Rattle.code.specs.OneCode.{code, Listed, Exactly}
use Rattle.code.specs.laws.OneCode.{behind_number, written_decoded, exactly_answers, answers_exactly}
use Rattle.code_write.specs.Write.{bytes_of}
use Rattle.code_write.specs.laws.Write.{bytes_written, bytes_only}
use Rattle.tidy_code.specs.Sent.{surplus, one_more, sent, Form, means, unclear, ends_zero, all_but, padded_meant, longer_meant}
use Rattle.tidy_code.specs.Sent.{surplus_meant, others_meant, meant_by}
use Rattle.tidy_code.specs.laws.Behind.{zero_behind}

pub apart : {zs : List ℤ} → means zs ≡ unclear → ⊥
apart e = let z : ◌≡◌ {A = ℕ} 0 1 = cc in omega arith

pub means_list : {xs zs : List ℤ} → means xs ≡ means zs → xs ≡ zs
means_list e = cc

-- ---- how a list came to be meant

pub data How (s mode : ℕ) (b : List ℕ) (zs : List ℤ) : Type 0 where
  own : read_fault mode 4096 b ≡ 0 → zs ≡ decoded mode b → How s mode b zs
  padded :
      s ≡ 1 → ends_zero b ≡ true → read_fault mode 4096 (all_but b) ≡ 0 → 5 ≤ read_bits mode 4096 (all_but b) % 8 → zs ≡ decoded mode (all_but b) →
      How s mode b zs
  longer :
      s ≡ 2 → ends_zero b ≡ true → (xs : List ℕ) (at : ℕ) → read_list (eqb mode 4) 4097 (bits_of (all_but b)) ≡ whole xs at →
      clean (drop at (bits_of (all_but b))) ≡ true → get_or xs 4096 0 ≡ 1 → zs ≡ map unfold_z (take 4096 xs) → How s mode b zs

module _ (mode : ℕ) (b : List ℕ) (zs : List ℤ) (o : ends_zero b ≡ true) where
  by_longer : (w : Walked) → read_list (eqb mode 4) 4097 (bits_of (all_but b)) ≡ w → means zs ≡ longer_meant (bits_of (all_but b)) w → How 2 mode b zs
  unfolding longer_meant
  by_longer (bad r) q e = absurd (apart e)
  by_longer (whole xs at) q e =
      let c = held (clean (drop at (bits_of (all_but b)))) unclear _ (means zs) apart e in
      let g = held (eqb (get_or xs 4096 0) 1) unclear _ (means zs) apart c.1 in
      longer refl o xs at q c.0 (eqb-true (get_or xs 4096 0) 1 g.0) (means_list g.1)

  by_surplus : (s : ℕ) → means zs ≡ surplus_meant s mode (all_but b) → How s mode b zs
  unfolding surplus_meant padded_meant
  by_surplus zero e = absurd (apart e)
  by_surplus (suc zero) e =
      let f = held (eqb (read_fault mode 4096 (all_but b)) 0) unclear _ (means zs) apart e in
      let g = held (leb 5 (read_bits mode 4096 (all_but b) % 8)) unclear _ (means zs) apart f.1 in
      padded refl o (eqb-true (read_fault mode 4096 (all_but b)) 0 f.0) (leb-true 5 (read_bits mode 4096 (all_but b) % 8) g.0) (means_list g.1)
  by_surplus (suc (suc zero)) e = by_longer (read_list (eqb mode 4) 4097 (bits_of (all_but b))) refl e
  by_surplus (suc (suc (suc s))) e = absurd (apart e)

pub how : (s mode : ℕ) (b : List ℕ) (zs : List ℤ) → meant_by s mode b ≡ means zs → Passed mode 4096 (length b) × How s mode b zs
unfolding meant_by others_meant ◌⇒◌∣◌
how s mode b zs e =
    let a = held (eqb (shell_fault mode 4096 (length b)) 0) unclear _ (means zs) apart (sym e) in
    (passed mode 4096 (length b) (sym (eqb-true (shell_fault mode 4096 (length b)) 0 a.0)), go (eqb (read_fault mode 4096 b) 0) refl a.1)
  where
    go : (t : Bool) → eqb (read_fault mode 4096 b) 0 ≡ t → means zs ≡ (t ⇒ means (decoded mode b) ∣ others_meant s mode b) → How s mode b zs
    go true f e = own (eqb-true (read_fault mode 4096 b) 0 f) (means_list e)
    go false f e = let h = held (ends_zero b) unclear _ (means zs) apart e in by_surplus mode b zs h.0 s h.1

-- ---- a last byte 00

pub ends-zero : (b : List ℕ) → ends_zero b ≡ true → (b ≡ all_but b ++ (0 ∷ [])) × (length (all_but b) + 1 ≡ length b)
unfolding ends_zero
ends-zero b e =
    let h = held (ltb 0 (length b)) false _ true (λ q. let z : ◌≡◌ {A = ℕ} 0 1 = cc in omega arith) (sym e) in
    let n : 0 < length b = ltb-true 0 (length b) h.0 in
    let z : get_or b (length b - 1) 0 ≡ 0 = eqb-true (get_or b (length b - 1) 0) 0 (sym h.1) in
    let m : suc (length b - 1) ≡ length b = omega arith in (
      sym (take_all (suc (length b - 1)) b (omega arith)) ∙ take-suc b (length b - 1) 0 (omega arith) ∙ ap (λ (x : ℕ). all_but b ++ (x ∷ [])) z,
      omega (arith, length-take (length b - 1) b),
    )

pub zero_ends : (w : List ℕ) → (ends_zero (w ++ (0 ∷ [])) ≡ true) × (all_but (w ++ (0 ∷ [])) ≡ w)
unfolding ends_zero
zero_ends w =
    let l = length-append w (0 ∷ []) in
    let n : length (w ++ (0 ∷ [])) - 1 ≡ length w = omega arith in (
      sym (passes _ _ _ _ (lt-ltb 0 (length (w ++ (0 ∷ []))) (omega arith))
          (sym (eq-eqb _ 0 (get_or_at w 0 [] 0 (length (w ++ (0 ∷ [])) - 1) (sym n))))),
      take_at w (0 ∷ []) (length (w ++ (0 ∷ [])) - 1) (sym n),
    )

zero_byte : (w : List ℕ) → bits_of (w ++ (0 ∷ [])) ≡ bits_of w ++ replicate 8 false
unfolding bits_of num_bits
zero_byte w = bits_of_append w (0 ∷ [])

-- ---- bits of which none is 1

no-ones : (bs : List Bool) → no_ones bs ≡ true → bs ≡ replicate (length bs) false
unfolding no_ones
no-ones [] h = refl
no-ones (true ∷ bs) h = let z : ◌≡◌ {A = ℕ} 0 1 = cc in absurd (omega arith)
no-ones (false ∷ bs) h = ap (λ (l : List Bool). false ∷ l) (no-ones bs h)

ones_no : (n : ℕ) → no_ones (replicate n false) ≡ true
unfolding no_ones
ones_no zero = refl
ones_no (suc n) = ones_no n

pub clean_is : (bs : List Bool) → clean bs ≡ true → (length bs < 8) × (bs ≡ replicate (length bs) false)
unfolding clean
clean_is bs h =
    let e = held (ltb (length bs) 8) false (no_ones bs) true (λ q. let z : ◌≡◌ {A = ℕ} 0 1 = cc in omega arith) (sym h) in
    (ltb-true (length bs) 8 e.0, no-ones bs (sym e.1))

is_clean : (pad : ℕ) → pad < 8 → clean (replicate pad false) ≡ true
unfolding clean
is_clean pad h = sym (passes _ _ _ _ (lt-ltb (length (replicate pad false)) 8 (omega (arith, length-replicate pad false))) (sym (ones_no pad)))

many_not : (bs : List Bool) → 8 ≤ length bs → clean bs ≡ false
unfolding clean
many_not bs h = sym (fails _ _ _ _ (le-ltb (length bs) 8 h) refl)

-- ---- what the panel takes

pub taken_exactly : (mode : ℕ) (b : List ℕ) → read_fault mode 4096 b ≡ 0 → Exactly mode b (decoded mode b) (decoded mode b)
taken_exactly mode b e =
    let f : read_fault mode (length (decoded mode b)) b ≡ 0 = ap (λ (n : ℕ). read_fault mode n b) (decoded_length mode 4096 b (sym e)) ∙ e in
    answers_exactly mode b (decoded mode b) (decoded mode b) f (into_decoded mode b (decoded mode b) (sym f))

pub taken_bits : (mode : ℕ) (b : List ℕ) → read_fault mode 4096 b ≡ 0 → read_bits mode 4096 b ≡ length (code mode (decoded mode b))
unfolding read_bits reading_bits
taken_bits mode b e =
    ap (λ (n : ℕ). read_bits mode n b) (sym (decoded_length mode 4096 b (sym e)))
    ∙ ap reading_bits (exactly_answers mode b (decoded mode b) (decoded mode b) (taken_exactly mode b e)).0

-- ---- the list with -1 behind it, folded

pub fold_snoc : (zs : List ℤ) → map fold_z (one_more zs) ≡ map fold_z zs ++ (1 ∷ [])
unfolding fold_z
fold_snoc [] = refl
fold_snoc (z ∷ zs) = ap (λ (l : List ℕ). fold_z z ∷ l) (fold_snoc zs)

range_snoc : (xs : List ℕ) → InRange xs → (v : ℕ) → v ≤ 65534 → InRange (xs ++ (v ∷ []))
range_snoc [] r v h zero = h
range_snoc [] r v h (suc i) = omega arith
range_snoc (x ∷ xs) r v h zero = r 0
range_snoc (x ∷ xs) r v h (suc i) = range_snoc xs (λ j. r (suc j)) v h i

range_take : (n : ℕ) (xs : List ℕ) → InRange xs → InRange (take n xs)
range_take zero xs r i = omega arith
range_take (suc n) [] r i = omega arith
range_take (suc n) (x ∷ xs) r zero = r 0
range_take (suc n) (x ∷ xs) r (suc i) = range_take n xs (λ j. r (suc j)) i

-- the code of a list with -1 behind it, and then zero bits, is nothing that 01 reads
module _ (rlgr3 : Bool) (xs ys : List ℕ) (l : length xs ≡ length ys) (r : InRange xs) (q : InRange ys) where
  pub last_apart : (a b : ℕ) → code_of rlgr3 (xs ++ (1 ∷ [])) ++ replicate a false ≡ code_of rlgr3 ys ++ replicate b false → ⊥
  last_apart a b e =
      let z = zero_behind rlgr3 ys in
      let m : ℕ = z.0 in
      let X = code_of rlgr3 (xs ++ (1 ∷ [])) in
      let Y = code_of rlgr3 ys in
      let d : b + m ≡ m + b = omega arith in
      let c : replicate b false ++ replicate m false ≡ replicate m false ++ replicate b false =
      replicate-append-replicate b m false ∙ ap (λ (n : ℕ). replicate n false) d ∙ sym (replicate-append-replicate m b false) in
      let f : X ++ (replicate a false ++ replicate m false) ≡ code_of rlgr3 (ys ++ (0 ∷ [])) ++ replicate b false =
      sym (append_assoc X (replicate a false) (replicate m false)) ∙ ap (λ (t : List Bool). t ++ replicate m false) e
      ∙ append_assoc Y (replicate b false) (replicate m false) ∙ ap (λ (t : List Bool). Y ++ t) c
      ∙ sym (append_assoc Y (replicate m false) (replicate b false)) ∙ ap (λ (t : List Bool). t ++ replicate b false) (sym z.1) in
      let s : xs ++ (1 ∷ []) ≡ ys ++ (0 ∷ []) =
      prefix_free rlgr3 (xs ++ (1 ∷ [])) (ys ++ (0 ∷ [])) (replicate a false ++ replicate m false) (replicate b false)
      (omega (arith, length-append xs (1 ∷ []), length-append ys (0 ∷ []))) (range_snoc xs r 1 (omega arith)) (range_snoc ys q 0 (omega arith)) f in
      let v : ◌≡◌ {A = ℕ} 1 0 =
      sym (get_or_at xs 1 [] 0 (length xs) refl) ∙ ap (λ (t : List ℕ). get_or t (length xs) 0) s ∙ get_or_at ys 0 [] 0 (length xs) (sym l) in
      omega arith

pub not_own : (mode : ℕ) (zs : List ℤ) (w : List ℕ) → Listed zs → Written w (code mode (one_more zs)) → read_fault mode 4096 (w ++ (0 ∷ [])) ≡ 0 → ⊥
not_own mode zs w l t e =
    let x = taken_exactly mode (w ++ (0 ∷ [])) e in
    let ys = map fold_z (decoded mode (w ++ (0 ∷ []))) in
    let n : length (map fold_z zs) ≡ length ys =
    length-map zs fold_z ∙ l.len ∙ sym (length-map (decoded mode (w ++ (0 ∷ []))) fold_z ∙ x.list.len) in
    let f : code_of (eqb mode 4) (map fold_z zs ++ (1 ∷ [])) ++ replicate (t.pad + 8) false ≡ code_of (eqb mode 4) ys ++ replicate x.bytes.pad false =
    ap (λ (c : List Bool). code_of (eqb mode 4) (map fold_z zs ++ (1 ∷ [])) ++ c) (sym (replicate-append-replicate t.pad 8 false))
    ∙ sym (append_assoc (code_of (eqb mode 4) (map fold_z zs ++ (1 ∷ []))) (replicate t.pad false) (replicate 8 false))
    ∙ ap (λ (xs : List ℕ). (code_of (eqb mode 4) xs ++ replicate t.pad false) ++ replicate 8 false) (sym (fold_snoc zs))
    ∙ ap (λ (c : List Bool). c ++ replicate 8 false) (sym t.bits) ∙ sym (zero_byte w) ∙ x.bytes.bits in
    last_apart (eqb mode 4) (map fold_z zs) ys n (range_fold zs l.range) (range_fold (decoded mode (w ++ (0 ∷ []))) x.list.range)
    (t.pad + 8) x.bytes.pad f

-- ---- from what is meant to its form

front_bytes : (w r : List ℕ) → Bytes (w ++ r) → Bytes w
front_bytes [] r h i = omega arith
front_bytes (x ∷ w) r h zero = h 0
front_bytes (x ∷ w) r h (suc i) = front_bytes w r (λ j. h (suc j)) i

-- what 4,097 values that end with -1 say of the list before it
pub record Longer (mode : ℕ) (w : List ℕ) (zs : List ℤ) : Type 0 where
  pub list : Listed zs
  pub bytes : Written w (code mode (one_more zs))

pub longer_is :
    (mode : ℕ) (w : List ℕ) (xs : List ℕ) (at : ℕ) (zs : List ℤ) → read_list (eqb mode 4) 4097 (bits_of w) ≡ whole xs at → clean (drop at (bits_of w)) ≡ true →
    get_or xs 4096 0 ≡ 1 → zs ≡ map unfold_z (take 4096 xs) → Longer mode w zs
longer_is mode w xs at zs q c g z =
    let t = taken (eqb mode 4) 4097 (bits_of w) xs at q in
    let k = clean_is (drop at (bits_of w)) c in
    let f : map fold_z zs ≡ take 4096 xs = ap (map fold_z) z ∙ map_fold (take 4096 xs) in
    let y : xs ≡ map fold_z (one_more zs) =
    sym (take_all 4097 xs (omega (arith, t.len))) ∙ take-suc xs 4096 0 (omega (arith, t.len)) ∙ ap (λ (v : ℕ). take 4096 xs ++ (v ∷ [])) g
    ∙ ap (λ (l : List ℕ). l ++ (1 ∷ [])) (sym f) ∙ sym (fold_snoc zs) in
    record {
      list = record {
        len = ap length z ∙ length-map (take 4096 xs) unfold_z ∙ omega (arith, length-take 4096 xs, t.len);
        range = fold_range zs (subst InRange (sym f) (range_take 4096 xs t.range));
      };
      bytes = record {
        pad = length (drop at (bits_of w));
        few = k.0;
        bits = t.bits ∙ ap (λ (c : List Bool). code_of (eqb mode 4) xs ++ c) k.1
            ∙ ap (λ (l : List ℕ). code_of (eqb mode 4) l ++ replicate (length (drop at (bits_of w))) false) y;
      };
    }

surplus_some : (n : ℕ) → 5 ≤ n % 8 → surplus n ≡ 0 ∷ []
unfolding surplus ◌⇒◌∣◌
surplus_some n h = rw (le-leb 5 (n % 8) h)

module _ (mode : ℕ) (b : List ℕ) (zs : List ℤ) (h : Bytes b) (p : Passed mode 4096 (length b)) where
  how_form : (s : ℕ) → How s mode b zs → Form s mode b zs
  unfolding sent
  how_form s (own f z) =
      let x = taken_exactly mode b f in
      record {
        allowed = p.known;
        small = p.small;
        list = subst Listed (sym z) x.list;
        bytes = inl (bytes_only mode (decoded mode b) b h x.bytes ∙ ap (bytes_of mode) (sym z));
      }
  how_form s (padded q o f n z) =
      let w = all_but b in
      let x = taken_exactly mode w f in
      let e = ends-zero b o in
      let y : w ≡ bytes_of mode zs = bytes_only mode (decoded mode w) w (front_bytes w (0 ∷ []) (subst Bytes e.0 h)) x.bytes ∙ ap (bytes_of mode) (sym z) in
      let k : surplus (length (code mode zs)) ≡ 0 ∷ [] =
      surplus_some (length (code mode zs)) (omega (arith, n, ap (λ (c : List ℤ). length (code mode c)) z, taken_bits mode w f)) in
      let g : b ≡ sent 1 mode zs = e.0 ∙ ap (λ (l : List ℕ). l ++ (0 ∷ [])) y ∙ ap (λ (l : List ℕ). bytes_of mode zs ++ l) (sym k) in
      record {
        allowed = p.known;
        small = p.small;
        list = subst Listed (sym z) x.list;
        bytes = inr (g ∙ ap (λ (t : ℕ). sent t mode zs) (sym q));
      }
  how_form s (longer q o xs at r c g z) =
      let w = all_but b in
      let e = ends-zero b o in
      let x = longer_is mode w xs at zs r c g z in
      let y : w ≡ bytes_of mode (one_more zs) = bytes_only mode (one_more zs) w (front_bytes w (0 ∷ []) (subst Bytes e.0 h)) x.bytes in
      let k : b ≡ sent 2 mode zs = e.0 ∙ ap (λ (l : List ℕ). l ++ (0 ∷ [])) y in
      record { allowed = p.known; small = p.small; list = x.list; bytes = inr (k ∙ ap (λ (t : ℕ). sent t mode zs) (sym q)) }

pub means_form : (s mode : ℕ) (b : List ℕ) (zs : List ℤ) → Bytes b → meant_by s mode b ≡ means zs → Form s mode b zs
means_form s mode b zs h e = let a = how s mode b zs e in how_form mode b zs h a.0 s a.1

-- ---- and back

shell_good : (mode : ℕ) (b : List ℕ) → is_mode mode ≡ true → length b ≤ 65535 → eqb (shell_fault mode 4096 (length b)) 0 ≡ true
unfolding shell_fault
shell_good mode b m h = eq-eqb _ 0 (sym (passes _ _ _ _ m (passes _ _ _ _ refl (passes _ _ _ _ (le-leb (length b) 65535 h) refl))))

module _ (s mode : ℕ) (b : List ℕ) (zs : List ℤ) (m : is_mode mode ≡ true) (h : length b ≤ 65535) where
  pub own_means : read_fault mode 4096 b ≡ 0 → decoded mode b ≡ zs → meant_by s mode b ≡ means zs
  unfolding meant_by
  own_means f d = sym (passes _ _ _ _ (shell_good mode b m h) (case_yes _ _ _ _ (eq-eqb _ 0 f) (ap means (sym d))))

  others_means : (read_fault mode 4096 b ≡ 0 → ⊥) → ends_zero b ≡ true → surplus_meant s mode (all_but b) ≡ means zs → meant_by s mode b ≡ means zs
  unfolding meant_by others_meant
  others_means f o q = sym (passes _ _ _ _ (shell_good mode b m h) (case_no _ _ _ _ (ne_eqb _ 0 f) (passes _ _ _ _ o (sym q))))

  bytes_mean : Listed zs → b ≡ bytes_of mode zs → meant_by s mode b ≡ means zs
  bytes_mean l e =
      let w = written_decoded mode b zs m h l (subst (λ (t : List ℕ). Written t (code mode zs)) (sym e) (bytes_written mode zs)) in
      own_means w.0 w.1

-- a surplus byte is an 11
pub surplus_eleven :
    (mode : ℕ) (zs : List ℤ) (w : List ℕ) → is_mode mode ≡ true → length (w ++ (0 ∷ [])) ≤ 65535 → Listed zs → Written w (code mode zs) →
    read_fault mode 4096 (w ++ (0 ∷ [])) ≡ 11
unfolding ◌!◌⨾◌
surplus_eleven mode zs w m h l t =
    let rest = replicate t.pad false ++ replicate 8 false in
    let e : bits_of (w ++ (0 ∷ [])) ≡ code mode zs ++ rest =
    zero_byte w ∙ ap (λ (c : List Bool). c ++ replicate 8 false) t.bits ∙ append_assoc (code mode zs) (replicate t.pad false) (replicate 8 false) in
    let k : clean rest ≡ false = many_not rest (omega (arith, length-append (replicate t.pad false) (replicate 8 false))) in
    ap (λ (n : ℕ). read_fault mode n (w ++ (0 ∷ []))) (sym l.len)
    ∙ behind_number mode (w ++ (0 ∷ [])) zs zs (record { allowed = m; room = l.len; small = h }) l rest e
    ∙ ap (λ (c : Bool). c ! 11 ⨾ 0) k

module _ (mode : ℕ) (zs : List ℤ) (m : is_mode mode ≡ true) (l : Listed zs) where
  padded_means : length (bytes_of mode zs ++ (0 ∷ [])) ≤ 65535 → 5 ≤ length (code mode zs) % 8 → meant_by 1 mode (bytes_of mode zs ++ (0 ∷ [])) ≡ means zs
  unfolding surplus_meant padded_meant
  padded_means h n =
      let w = bytes_of mode zs in
      let t = bytes_written mode zs in
      let o = zero_ends w in
      let e : read_fault mode 4096 (w ++ (0 ∷ [])) ≡ 11 = surplus_eleven mode zs w m h l t in
      let d = written_decoded mode w zs m (omega (arith, length-append w (0 ∷ []))) l t in
      let k : read_bits mode 4096 w ≡ length (code mode zs) = taken_bits mode w d.0 ∙ ap (λ (c : List ℤ). length (code mode c)) d.1 in
      let g : surplus_meant 1 mode w ≡ means zs =
      sym (passes _ _ _ _ (eq-eqb _ 0 d.0) (passes _ _ _ _ (le-leb 5 (read_bits mode 4096 w % 8) (omega (arith, n, k))) (ap means (sym d.1)))) in
      others_means 1 mode (w ++ (0 ∷ [])) zs m h (λ z. omega arith) o.0 (ap (surplus_meant 1 mode) o.1 ∙ g)

  longer_means : length (bytes_of mode (one_more zs) ++ (0 ∷ [])) ≤ 65535 → meant_by 2 mode (bytes_of mode (one_more zs) ++ (0 ∷ [])) ≡ means zs
  unfolding surplus_meant longer_meant
  longer_means h =
      let w = bytes_of mode (one_more zs) in
      let t = bytes_written mode (one_more zs) in
      let o = zero_ends w in
      let F = map fold_z zs in
      let n : length F ≡ 4096 = length-map zs fold_z ∙ l.len in
      let k : 4097 ≡ length (F ++ (1 ∷ [])) = omega (arith, length-append F (1 ∷ [])) in
      let B : bits_of w ≡ code_of (eqb mode 4) (F ++ (1 ∷ [])) ++ replicate t.pad false =
      t.bits ∙ ap (λ (x : List ℕ). code_of (eqb mode 4) x ++ replicate t.pad false) (fold_snoc zs) in
      let q : read_list (eqb mode 4) 4097 (bits_of w) ≡ whole (F ++ (1 ∷ [])) (length (code_of (eqb mode 4) (F ++ (1 ∷ [])))) =
      ap (λ (j : ℕ). read_list (eqb mode 4) j (bits_of w)) k ∙ ap (read_list (eqb mode 4) (length (F ++ (1 ∷ [])))) B
      ∙ read_back (eqb mode 4) (F ++ (1 ∷ [])) (replicate t.pad false) (range_snoc F (range_fold zs l.range) 1 (omega arith)) in
      let c : clean (drop (length (code_of (eqb mode 4) (F ++ (1 ∷ [])))) (bits_of w)) ≡ true =
      ap (λ (x : List Bool). clean (drop (length (code_of (eqb mode 4) (F ++ (1 ∷ [])))) x)) B
      ∙ ap clean (drop_at (code_of (eqb mode 4) (F ++ (1 ∷ []))) (replicate t.pad false) _ refl) ∙ is_clean t.pad t.few in
      let g : surplus_meant 2 mode w ≡ means zs =
      ap (longer_meant (bits_of w)) q
      ∙ sym (passes _ _ _ _ c (passes _ _ _ _ (eq-eqb _ 1 (get_or_at F 1 [] 0 4096 n))
      (ap means (sym (ap (map unfold_z) (take_at F (1 ∷ []) 4096 n) ∙ map_unfold zs))))) in
      others_means 2 mode (w ++ (0 ∷ [])) zs m h (not_own mode zs w l t) o.0 (ap (surplus_meant 2 mode) o.1 ∙ g)

surplus_none : (n : ℕ) → leb 5 (n % 8) ≡ false → surplus n ≡ []
unfolding surplus ◌⇒◌∣◌
surplus_none n h = rw h

pub form_means : (s mode : ℕ) (b : List ℕ) (zs : List ℤ) → Form s mode b zs → meant_by s mode b ≡ means zs
unfolding sent
form_means s mode b zs f = go f.bytes
  where
    own_bytes : b ≡ bytes_of mode zs → meant_by s mode b ≡ means zs
    own_bytes e = bytes_mean s mode b zs f.allowed f.small f.list e

    one_sent : (t : Bool) → leb 5 (length (code mode zs) % 8) ≡ t → b ≡ bytes_of mode zs ++ surplus (length (code mode zs)) → meant_by 1 mode b ≡ means zs
    one_sent true k e =
        let g : b ≡ bytes_of mode zs ++ (0 ∷ []) =
        e ∙ ap (λ (l : List ℕ). bytes_of mode zs ++ l) (surplus_some (length (code mode zs)) (leb-true 5 _ k)) in
        ap (meant_by 1 mode) g ∙ padded_means mode zs f.allowed f.list (omega (arith, ap length g, f.small)) (leb-true 5 _ k)
    one_sent false k e =
        bytes_mean 1 mode b zs f.allowed f.small f.list
        (e ∙ ap (λ (l : List ℕ). bytes_of mode zs ++ l) (surplus_none (length (code mode zs)) k) ∙ append-nil (bytes_of mode zs))

    by_sent : (n : ℕ) → s ≡ n → b ≡ sent n mode zs → meant_by n mode b ≡ means zs
    by_sent zero q e = bytes_mean 0 mode b zs f.allowed f.small f.list e
    by_sent (suc zero) q e = one_sent (leb 5 (length (code mode zs) % 8)) refl e
    by_sent (suc (suc zero)) q e = ap (meant_by 2 mode) e ∙ longer_means mode zs f.allowed f.list (omega (arith, ap length e, f.small))
    by_sent (suc (suc (suc n))) q e = bytes_mean (suc (suc (suc n))) mode b zs f.allowed f.small f.list e

    go : (b ≡ bytes_of mode zs) ⊎ (b ≡ sent s mode zs) → meant_by s mode b ≡ means zs
    go (inl e) = own_bytes e
    go (inr e) = by_sent s refl e
