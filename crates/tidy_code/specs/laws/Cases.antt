-- Instances, by computation: 4,096 zeros as FreeRDP and as the sample's encoder write them, in both modes.
use Rattle.std.specs.Prelude.{ℕ, zero, suc, ◌≡◌, refl, true, List, [], ◌∷◌, ◌++◌, ℤ, pos, length, get_or, replicate}
use Rattle.std.proofs.Common.{sym, ap, ap₂, inr, arith}
use Rattle.std.proofs.lemmas.List.{length-replicate}
use Rattle.whole.specs.Row.{◌⇒◌∣◌}
use Rattle.wire.specs.Mode.{is_mode}
use Rattle.wire.specs.laws.Mode.{is_1, is_4}
use Rattle.bits.specs.Bits.{bits_of, num_bits}
use Rattle.bits.specs.Bytes.{Written}
use Rattle.bits.specs.laws.Bytes.{Bytes}
use Rattle.code.specs.Fold.{fold_z}
use Rattle.code.specs.Code.{code_of, code_f, item_of, item_bits, item_used, item_kp, item_krp, zeros_of, run_bits, kr_after}
use Rattle.code.specs.OneCode.{code, Listed}
use Rattle.code.specs.Cases.{Both}
use Rattle.code.specs.laws.Cases.{cases}
use Rattle.code_write.specs.Write.{bytes_of}
use Rattle.code_write.specs.laws.Write.{bytes_only}
use Rattle.code_write.specs.laws.Cases.{write_cases}
use Rattle.tidy_code.specs.Sent.{surplus, one_more, sent, means, meant_by}
use Rattle.tidy_code.specs.laws.Form.{form_means}

abbrev zeros : List ℤ
zeros = replicate 4096 (pos 0)

zero_at : (n i : ℕ) → get_or (replicate n (pos 0)) i (pos 0) ≡ pos 0
zero_at zero i = refl
zero_at (suc n) zero = refl
zero_at (suc n) (suc i) = zero_at n i

zeros_listed : Listed zeros
zeros_listed = record { len = length-replicate 4096 (pos 0); range = λ i. rw (zero_at 4096 i) (omega arith) }

-- ---- FreeRDP's: 21 bits, and 21 mod 8 is 5

surplus_21 : (n : ℕ) → n ≡ 21 → surplus n ≡ 0 ∷ []
unfolding surplus ◌⇒◌∣◌
surplus_21 n e = rw e

one : (mode : ℕ) → is_mode mode ≡ true → bytes_of mode zeros ≡ 0x00 ∷ 0x00 ∷ 0x00 ∷ [] → length (code mode zeros) ≡ 21 →
    meant_by 1 mode (0x00 ∷ 0x00 ∷ 0x00 ∷ 0x00 ∷ []) ≡ means zeros
unfolding sent
one mode m b n =
    let e : sent 1 mode zeros ≡ 0x00 ∷ 0x00 ∷ 0x00 ∷ 0x00 ∷ [] = ap₂ (λ (x y : List ℕ). x ++ y) b (surplus_21 (length (code mode zeros)) n) in
    form_means 1 mode (0x00 ∷ 0x00 ∷ 0x00 ∷ 0x00 ∷ []) zeros (record { allowed = m; small = omega arith; list = zeros_listed; bytes = inr (sym e) })

pub zeros_one : Both (λ mode. meant_by 1 mode (0x00 ∷ 0x00 ∷ 0x00 ∷ 0x00 ∷ []) ≡ means zeros)
zeros_one = (one 1 is_1 write_cases.zeros.0.bytes cases.zeros_bits.0, one 4 is_4 write_cases.zeros.1.bytes cases.zeros_bits.1)

-- ---- the sample's: 20 full runs, then the zeros that are left and -1: 34 bits

written_1 : Written (0x00 ∷ 0x00 ∷ 0x08 ∷ 0x09 ∷ 0x00 ∷ []) (code 1 (one_more zeros))
unfolding code_of code_f item_of item_bits item_used item_kp item_krp zeros_of fold_z run_bits kr_after bits_of num_bits
written_1 = record { pad = 6; few = omega arith; bits = refl }

written_4 : Written (0x00 ∷ 0x00 ∷ 0x08 ∷ 0x09 ∷ 0x00 ∷ []) (code 4 (one_more zeros))
unfolding code_of code_f item_of item_bits item_used item_kp item_krp zeros_of fold_z run_bits kr_after bits_of num_bits
written_4 = record { pad = 6; few = omega arith; bits = refl }

five : Bytes (0x00 ∷ 0x00 ∷ 0x08 ∷ 0x09 ∷ 0x00 ∷ [])
five zero = omega arith
five (suc zero) = omega arith
five (suc (suc zero)) = omega arith
five (suc (suc (suc zero))) = omega arith
five (suc (suc (suc (suc zero)))) = omega arith
five (suc (suc (suc (suc (suc i))))) = omega arith

two : (mode : ℕ) → is_mode mode ≡ true → Written (0x00 ∷ 0x00 ∷ 0x08 ∷ 0x09 ∷ 0x00 ∷ []) (code mode (one_more zeros)) →
    meant_by 2 mode (0x00 ∷ 0x00 ∷ 0x08 ∷ 0x09 ∷ 0x00 ∷ 0x00 ∷ []) ≡ means zeros
unfolding sent
two mode m w =
    let e : 0x00 ∷ 0x00 ∷ 0x08 ∷ 0x09 ∷ 0x00 ∷ 0x00 ∷ [] ≡ sent 2 mode zeros =
    ap (λ (x : List ℕ). x ++ (0 ∷ [])) (bytes_only mode (one_more zeros) (0x00 ∷ 0x00 ∷ 0x08 ∷ 0x09 ∷ 0x00 ∷ []) five w) in
    form_means 2 mode (0x00 ∷ 0x00 ∷ 0x08 ∷ 0x09 ∷ 0x00 ∷ 0x00 ∷ []) zeros (record { allowed = m; small = omega arith; list = zeros_listed; bytes = inr e })

pub zeros_two : Both (λ mode. meant_by 2 mode (0x00 ∷ 0x00 ∷ 0x08 ∷ 0x09 ∷ 0x00 ∷ 0x00 ∷ []) ≡ means zeros)
zeros_two = (two 1 is_1 written_1, two 4 is_4 written_4)
