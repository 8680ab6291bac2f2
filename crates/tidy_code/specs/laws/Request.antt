-- What is promised of a tidied code, proved: what means a list is one of its two forms and nothing else (laws/Form), so that two lists share no form; and the
-- code of the list meant is never longer than what came, since the sample's form is the code of one value more (`one_behind`).
use Rattle.std.specs.Prelude.{ℕ, ◌*◌, ◌≤◌, ◌≡◌, refl, Bool, false, ◌⊎◌, List, [], ◌∷◌, ◌++◌, map, eqb, ℤ, length, replicate}
use Rattle.std.proofs.Common.{sym, ◌∙◌, inl, inr, arith, length-append}
use Rattle.std.proofs.Math.Path.{ap, subst}
use Rattle.whole.specs.Among.{Among, among}
use Rattle.whole.specs.laws.Among.{said}
use Rattle.bits.specs.Bytes.{Written}
use Rattle.bits.specs.laws.Bit.{length_bits_of}
use Rattle.bits.specs.laws.Bytes.{Bytes}
use Rattle.code.specs.Fold.{fold_z}
use Rattle.code.specs.Code.{code_of}
use Rattle.code.specs.Read.{read_fault, decoded}
use Rattle.code.specs.OneCode.{code, Listed}
use Rattle.code.specs.laws.OneCode.{written_decoded}
use Rattle.code_write.specs.Write.{bytes_of}
use Rattle.code_write.specs.laws.Write.{bytes_written, bytes_bytes, bytes_length, bytes_only}
use Rattle.tidy_code.specs.Sent.{one_more, sent, Form, Meant, means, unclear, all_but, meant_by, tidied_by, tidy_code}
use Rattle.tidy_code.specs.Request.{TidyCodes}
use Rattle.tidy_code.specs.laws.Behind.{one_behind}
use Rattle.tidy_code.specs.laws.Cases.{zeros_one, zeros_two}
use Rattle.tidy_code.specs.laws.Form.{means_list, How, own, padded, longer, how, ends-zero, taken_exactly, fold_snoc, longer_is}
use Rattle.tidy_code.specs.laws.Form.{means_form, own_means, surplus_eleven, form_means}

-- ---- the forms

one_list : (s mode : ℕ) (b : List ℕ) (zs zs' : List ℤ) → Form s mode b zs → Form s mode b zs' → zs ≡ zs'
one_list s mode b zs zs' f g = means_list (sym (form_means s mode b zs f) ∙ form_means s mode b zs' g)

one_form :
    (s mode : ℕ) (b b' : List ℕ) (zs : List ℤ) → Form s mode b zs → Form s mode b' zs → (b ≡ bytes_of mode zs → ⊥) → (b' ≡ bytes_of mode zs → ⊥) → b ≡ b'
one_form s mode b b' zs f g n n' = other b n f.bytes ∙ sym (other b' n' g.bytes)
  where
    other : (c : List ℕ) → (c ≡ bytes_of mode zs → ⊥) → (c ≡ bytes_of mode zs) ⊎ (c ≡ sent s mode zs) → c ≡ sent s mode zs
    other c n (inl e) = absurd (n e)
    other c n (inr e) = e

-- ---- whatever is meant

-- the bits of a list's code, and how many bytes they take
written_few : (mode : ℕ) (w : List ℕ) (c : List Bool) → Written w c → length c ≤ 8 * length w
written_few mode w c t = omega (arith, ap length t.bits, length-append c (replicate t.pad false), length_bits_of w)

module _ (s mode : ℕ) (b : List ℕ) (zs : List ℤ) (m : meant_by s mode b ≡ means zs) where
  pub meant_listed : Listed zs
  meant_listed = go (how s mode b zs m).1
    where
      go : How s mode b zs → Listed zs
      go (own f z) = subst Listed (sym z) (taken_exactly mode b f).list
      go (padded q o f n z) = subst Listed (sym z) (taken_exactly mode (all_but b) f).list
      go (longer q o xs at r c g z) = (longer_is mode (all_but b) xs at zs r c g z).list

  code_few : length (code mode zs) ≤ 8 * length b
  code_few = go (how s mode b zs m).1
    where
      list_few : (w : List ℕ) → read_fault mode 4096 w ≡ 0 → zs ≡ decoded mode w → length (code mode zs) ≤ 8 * length w
      list_few w f z =
          omega (arith, written_few mode w (code mode (decoded mode w)) (taken_exactly mode w f).bytes, ap (λ (c : List ℤ). length (code mode c)) z)

      go : How s mode b zs → length (code mode zs) ≤ 8 * length b
      go (own f z) = list_few b f z
      go (padded q o f n z) = omega (arith, list_few (all_but b) f z, (ends-zero b o).1)
      go (longer q o xs at r c g z) =
          let x = longer_is mode (all_but b) xs at zs r c g z in
          let k : length (code mode (one_more zs)) ≡ length (code_of (eqb mode 4) (map fold_z zs ++ (1 ∷ []))) =
          ap (λ (l : List ℕ). length (code_of (eqb mode 4) l)) (fold_snoc zs) in
          omega (arith, written_few mode (all_but b) (code mode (one_more zs)) x.bytes, k, one_behind (eqb mode 4) (map fold_z zs), (ends-zero b o).1)

  pub meant_few : length (bytes_of mode zs) ≤ length b
  meant_few = omega (arith, code_few, bytes_length mode zs)

  pub is_code : tidy_code s mode b ≡ bytes_of mode zs
  unfolding tidy_code tidied_by
  is_code = ap (tidied_by mode b) m

  same_list : (read_fault mode 4096 (tidy_code s mode b) ≡ 0) × (decoded mode (tidy_code s mode b) ≡ zs)
  same_list =
      let p = (how s mode b zs m).0 in
      subst (λ (t : List ℕ). (read_fault mode 4096 t ≡ 0) × (decoded mode t ≡ zs)) (sym is_code)
      (written_decoded mode (bytes_of mode zs) zs p.known (omega (arith, meant_few, p.small)) meant_listed (bytes_written mode zs))

pub others_kept : (s mode : ℕ) (b : List ℕ) → meant_by s mode b ≡ unclear → tidy_code s mode b ≡ b
unfolding tidy_code tidied_by
others_kept s mode b e = ap (tidied_by mode b) e

-- ---- codes that the panel takes

good_means : (s mode : ℕ) (b : List ℕ) → read_fault mode 4096 b ≡ 0 → meant_by s mode b ≡ means (decoded mode b)
good_means s mode b e = let x = taken_exactly mode b e in own_means s mode b (decoded mode b) x.call.allowed x.call.small e refl

good_kept : (s mode : ℕ) (b : List ℕ) → Bytes b → read_fault mode 4096 b ≡ 0 → tidy_code s mode b ≡ b
good_kept s mode b h e =
    is_code s mode b (decoded mode b) (good_means s mode b e) ∙ sym (bytes_only mode (decoded mode b) b h (taken_exactly mode b e).bytes)

strict : (mode : ℕ) (b : List ℕ) → Bytes b → tidy_code 0 mode b ≡ b
strict mode b h = go (meant_by 0 mode b) refl
  where
    own_only : (zs : List ℤ) → How 0 mode b zs → read_fault mode 4096 b ≡ 0
    own_only zs (own f z) = f
    own_only zs (padded q o f n z) = absurd (omega arith)
    own_only zs (longer q o xs at r c g z) = absurd (omega arith)

    go : (m : Meant) → meant_by 0 mode b ≡ m → tidy_code 0 mode b ≡ b
    go unclear e = others_kept 0 mode b e
    go (means zs) e = good_kept 0 mode b h (own_only zs (how 0 mode b zs e).1)

-- ---- all bytes

pub never_longer : (s mode : ℕ) (b : List ℕ) → length (tidy_code s mode b) ≤ length b
never_longer s mode b = go (meant_by s mode b) refl
  where
    go : (m : Meant) → meant_by s mode b ≡ m → length (tidy_code s mode b) ≤ length b
    go unclear e = omega (arith, ap length (others_kept s mode b e))
    go (means zs) e = omega (arith, ap length (is_code s mode b zs e), meant_few s mode b zs e)

once : (s mode : ℕ) (b : List ℕ) → tidy_code s mode (tidy_code s mode b) ≡ tidy_code s mode b
once s mode b = go (meant_by s mode b) refl
  where
    go : (m : Meant) → meant_by s mode b ≡ m → tidy_code s mode (tidy_code s mode b) ≡ tidy_code s mode b
    go unclear e = ap (tidy_code s mode) (others_kept s mode b e)
    go (means zs) e = good_kept s mode (tidy_code s mode b) (subst Bytes (sym (is_code s mode b zs e)) (bytes_bytes mode zs)) (same_list s mode b zs e).0

-- ---- which numbers the panel has for what means a list

module _ (s mode : ℕ) (b : List ℕ) (zs : List ℤ) (m : meant_by s mode b ≡ means zs) where
  of_these_kinds : (s ≡ 2 → ⊥) → Among (0 ∷ 11 ∷ []) (read_fault mode 4096 b)
  unfolding among
  of_these_kinds n = go (how s mode b zs m).1
    where
      zero_kind : read_fault mode 4096 b ≡ 0 → Among (0 ∷ 11 ∷ []) (read_fault mode 4096 b)
      zero_kind e = subst (Among (0 ∷ 11 ∷ [])) (sym e) (said refl)

      go : How s mode b zs → Among (0 ∷ 11 ∷ []) (read_fault mode 4096 b)
      go (own f z) = zero_kind f
      go (padded q o f k z) =
          let x = taken_exactly mode (all_but b) f in
          let e = ends-zero b o in
          let p = (how s mode b zs m).0 in
          let r : read_fault mode 4096 b ≡ 11 =
          ap (read_fault mode 4096) e.0
          ∙ surplus_eleven mode (decoded mode (all_but b)) (all_but b) p.known (omega (arith, ap length e.0, p.small)) x.list x.bytes in
          subst (Among (0 ∷ 11 ∷ [])) (sym r) (said refl)
      go (longer q o xs at r c g z) = absurd (n q)

pub tidy_codes : TidyCodes
tidy_codes = record {
  means_form = means_form;
  form_means = form_means;
  one_list = one_list;
  one_form = one_form;
  strict = strict;
  good_kept = good_kept;
  good_means = good_means;
  meant_listed = meant_listed;
  same_list = same_list;
  is_code = is_code;
  never_longer = never_longer;
  others_kept = others_kept;
  of_these_kinds = of_these_kinds;
  once = λ s mode b h. once s mode b;
  zeros_one = zeros_one;
  zeros_two = zeros_two;
}
