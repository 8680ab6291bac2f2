-- 01's (p) cases of the component code, on the writer's side, in one statement: the bytes written, 0 where they have room, 13 with one byte less.
-- (01 is this project's scope document, 02 its change requests, 001 is MS-RDPRFX: README, "What 01 is".)
use Rattle.std.specs.Prelude.{ℕ, zero, suc, ◌<◌, ◌≡◌, refl, List, [], ◌∷◌, ℤ, pos, negsuc, length}
use Rattle.std.proofs.Common.{sym, ap, ◌∙◌, arith}
use Rattle.std.proofs.lemmas.List.{length-replicate}
use Rattle.std.proofs.lemmas.Bool.{lt-leb}
use Rattle.whole.specs.laws.Row.{fails, goes_on}
use Rattle.bits.specs.laws.Bytes.{Bytes}
use Rattle.code.specs.Read.{read_fault, reading_number}
use Rattle.code.specs.OneCode.{Exactly}
use Rattle.code.specs.laws.OneCode.{answers_exactly}
use Rattle.code.specs.Cases.{Both, first, Coded}
use Rattle.code.specs.laws.Cases.{cases}
use Rattle.code_write.specs.Write.{bytes_of, write_fault}
use Rattle.code_write.specs.laws.Write.{bytes_only, is_range, is_fine, is_called}
use Rattle.code_write.specs.laws.Once.{writes_done}
use Rattle.code_write.specs.Cases.{CodeSent, WriteCases}

full : (x : ℤ) → length (first x) ≡ 4096
full x = ap suc (length-replicate 4095 (pos 0))

accepted : (mode : ℕ) (s : List ℕ) (x : ℤ) → Coded mode s (first x) → Exactly mode s (first x) (first x)
unfolding read_fault reading_number
accepted mode s x c =
    answers_exactly mode s (first x) (first x) (ap (λ (n : ℕ). read_fault mode n s) (full x) ∙ ap reading_number c.answer) (c.list (first x) (full x))

sent : (mode : ℕ) (s : List ℕ) (x : ℤ) → Bytes s → Coded mode s (first x) → CodeSent mode s (first x)
unfolding write_fault
sent mode s x b c =
    let zs = first x in
    let e : bytes_of mode zs ≡ s = sym (bytes_only mode zs s b c.written) in
    let n = ap length e in
    let g = accepted mode s x c in
    record {
      bytes = e;
      done = writes_done mode zs (length s) (record { allowed = g.call.allowed; list = g.list; small = omega (arith, g.call.small); fits = omega arith });
      short =
          λ room k.
          sym
          (goes_on _ _ _ (sym (is_called mode (length zs) (record { allowed = g.call.allowed; long = g.list.len })))
          (goes_on _ _ _ (sym (is_fine mode zs (record { range = is_range zs g.list.range; small = omega (arith, g.call.small) })))
          (fails _ _ _ _ (lt-leb (length (bytes_of mode zs)) room (omega arith)) refl)));
    }

both_sent : (s : List ℕ) (x : ℤ) → Bytes s → Both (λ mode. Coded mode s (first x)) → Both (λ mode. CodeSent mode s (first x))
both_sent s x b c = (sent 1 s x b c.0, sent 4 s x b c.1)

no_bytes : Bytes []
no_bytes i = omega arith

more_bytes : (x : ℕ) (s : List ℕ) → x < 256 → Bytes s → Bytes (x ∷ s)
more_bytes x s h b zero = h
more_bytes x s h b (suc i) = b i

three : Bytes (0x00 ∷ 0x00 ∷ 0x00 ∷ [])
three = more_bytes 0x00 (0x00 ∷ 0x00 ∷ []) (omega arith) (more_bytes 0x00 (0x00 ∷ []) (omega arith) (more_bytes 0x00 [] (omega arith) no_bytes))

pub write_cases : WriteCases
write_cases = record {
  zeros = both_sent _ (pos 0) three cases.zeros;
  plus = both_sent _ (pos 1) (more_bytes 0x80 (0x00 ∷ 0x00 ∷ 0x00 ∷ []) (omega arith) three) cases.plus;
  minus = both_sent _ (negsuc 0) (more_bytes 0xA0 (0x00 ∷ 0x00 ∷ 0x00 ∷ []) (omega arith) three) cases.minus;
}
