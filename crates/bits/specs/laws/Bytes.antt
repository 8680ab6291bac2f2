-- Bits as bytes: padded with zeros to a whole byte, in one way only.
use Rattle.std.specs.Prelude.{ℕ, suc, ◌^◌, ◌<◌, ◌≡◌, refl, Bool, false, List, [], ◌∷◌, ◌++◌, length, drop, take, get_or, replicate}
use Rattle.std.proofs.Common.{sym, ap, ap₂, ◌∙◌, arith, mod-eq_of_lt, length-append, take_at, drop_at}
use Rattle.std.proofs.lemmas.List.{length-replicate}
use Rattle.bits.specs.Bits.{num_bits, bits_of, num_of}
use Rattle.bits.specs.laws.Bit.{length_num_bits, length_bits_of, num_put, got_v}
use Rattle.bits.specs.Bytes.{Written}

abbrev pub Bytes : List ℕ → Type 0
Bytes s = (i : ℕ) → get_or s i 0 < 256

pub num_bits_inj : (k a b : ℕ) → a < 2 ^ k → b < 2 ^ k → num_bits k a ≡ num_bits k b → a ≡ b
num_bits_inj k a b ha hb e =
    let p = got_v (sym (num_put k a 0 0 []) ∙ ap (λ (l : List Bool). num_of k 0 0 (l ++ [])) e ∙ num_put k b 0 0 []) in
    omega (arith, p, mod-eq_of_lt ha, mod-eq_of_lt hb)

pub bits_of_inj : (s t : List ℕ) → Bytes s → Bytes t → bits_of s ≡ bits_of t → s ≡ t
unfolding bits_of
bits_of_inj [] [] hs ht e = refl
bits_of_inj [] (y ∷ t) hs ht e = absurd (omega (arith, ap length e, length-append (num_bits 8 y) (bits_of t), length_num_bits 8 y))
bits_of_inj (x ∷ s) [] hs ht e = absurd (omega (arith, ap length e, length-append (num_bits 8 x) (bits_of s), length_num_bits 8 x))
bits_of_inj (x ∷ s) (y ∷ t) hs ht e =
    let a : num_bits 8 x ≡ num_bits 8 y =
    sym (take_at (num_bits 8 x) (bits_of s) 8 (length_num_bits 8 x)) ∙ ap (λ (l : List Bool). take 8 l) e
    ∙ take_at (num_bits 8 y) (bits_of t) 8 (length_num_bits 8 y) in
    let b : bits_of s ≡ bits_of t =
    sym (drop_at (num_bits 8 x) (bits_of s) 8 (length_num_bits 8 x)) ∙ ap (λ (l : List Bool). drop 8 l) e
    ∙ drop_at (num_bits 8 y) (bits_of t) 8 (length_num_bits 8 y) in
    ap₂ (λ (z : ℕ) (l : List ℕ). z ∷ l) (num_bits_inj 8 x y (hs 0) (ht 0) a) (bits_of_inj s t (λ i. hs (suc i)) (λ i. ht (suc i)) b)

-- the bytes of some bits are one list
pub written_once : (s t : List ℕ) (bs : List Bool) → Bytes s → Bytes t → Written s bs → Written t bs → s ≡ t
written_once s t bs hs ht p q =
    let e : p.pad ≡ q.pad =
    omega (
      arith,
      ap length p.bits,
      ap length q.bits,
      length-append bs (replicate p.pad false),
      length-append bs (replicate q.pad false),
      length-replicate p.pad false,
      length-replicate q.pad false,
      length_bits_of s,
      length_bits_of t,
      p.few,
      q.few,
    ) in
    bits_of_inj s t hs ht (p.bits ∙ ap (λ (n : ℕ). bs ++ replicate n false) e ∙ sym q.bits)
