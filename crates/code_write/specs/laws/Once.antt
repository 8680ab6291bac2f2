-- The component writer writes just the code: what its bytes are to the reader, and that its promise leaves one answer and one output.
-- Assumes nothing.
use Rattle.std.specs.Prelude.{ℕ, zero, suc, ◌≤◌, ◌<◌, ◌≡◌, refl, Bool, true, List, map, leb, eqb, ℤ, length, take, drop, Result}
use Rattle.std.proofs.Common.{sym, ap, ◌∙◌, arith, le-leb, leb-true, length-append}
use Rattle.std.proofs.lemmas.List.{length-map}
use Rattle.whole.specs.laws.Row.{held, passes, goes_on, both}
use Rattle.wire.specs.Mode.{is_mode}
use Rattle.wire.specs.Refusal.{number_of, count_of}
use Rattle.wire.specs.laws.Wrote.{wrote_bytes, wrote_once}
use Rattle.wire.specs.declared.Refusal.{Refusal}
use Rattle.bits.specs.laws.Bytes.{Bytes}
use Rattle.code.specs.Code.{code_of, code_f, item_of, item_bits, item_used, item_kp, item_krp}
use Rattle.code.specs.laws.Code.{code_item}
use Rattle.code.specs.Fold.{fold_z}
use Rattle.code.specs.declared.element.Item.{Item}
use Rattle.code.specs.declared.element.Item.TheVariants.{Full, Run, Single, Twin}
use Rattle.code_write.specs.laws.Item.{size_full, size_single, size_twin, size_run}
use Rattle.code.specs.Read.{reading, read_fault, read_into, ComponentRead}
use Rattle.code.specs.OneCode.{code, Listed, Exactly}
use Rattle.code.specs.laws.OneCode.{exactly_answers, answers_exactly}
use Rattle.code.specs.declared.read.Reading.{Reading}
use Rattle.code.specs.declared.read.Reading.TheVariants.{Done as Read}
use Rattle.code_write.specs.Write.{bytes_of, write_fault, ComponentWritten}
use Rattle.code_write.specs.laws.Write.{bytes_written, bytes_length, bytes_only, range_is, is_range, fine, is_fine, called, is_called}

-- ---- (a) the writer is done exactly on its conditions

-- a mode of the two, 4,096 numbers in range, at most 65,535 bytes, and room for them
pub record Writes (mode : ℕ) (zs : List ℤ) (room : ℕ) : Type 0 where
  pub allowed : is_mode mode ≡ true
  pub list : Listed zs
  pub small : length (bytes_of mode zs) ≤ 65535
  pub fits : length (bytes_of mode zs) ≤ room

pub writes_done : (mode : ℕ) (zs : List ℤ) (room : ℕ) → Writes mode zs room → write_fault mode zs room ≡ 0
unfolding write_fault
writes_done mode zs room w =
    sym (goes_on _ _ _ (sym (is_called mode (length zs) (record { allowed = w.allowed; long = w.list.len })))
    (goes_on _ _ _ (sym (is_fine mode zs (record { range = is_range zs w.list.range; small = w.small })))
    (passes _ _ _ _ (le-leb (length (bytes_of mode zs)) room w.fits) refl)))

pub done_writes : (mode : ℕ) (zs : List ℤ) (room : ℕ) → write_fault mode zs room ≡ 0 → Writes mode zs room
unfolding write_fault
done_writes mode zs room e =
    let a = both _ _ (sym e) in
    let b = both _ _ a.1 in
    let c = called mode (length zs) a.0 in
    let f = fine mode zs b.0 in
    let r = held (leb (length (bytes_of mode zs)) room) 13 0 0 (λ z. omega arith) b.1 in
    record {
      allowed = c.allowed;
      list = record { len = c.long; range = range_is zs f.range };
      small = f.small;
      fits = leb-true (length (bytes_of mode zs)) room r.0;
    }

-- ---- (b) what is written is read back as the list, and what is read is what would be written

pub written_exactly : (mode : ℕ) (zs before : List ℤ) (room : ℕ) → Writes mode zs room → length before ≡ 4096 → Exactly mode (bytes_of mode zs) before zs
written_exactly mode zs before room w l =
    record { call = record { allowed = w.allowed; room = l; small = w.small }; list = w.list; bytes = bytes_written mode zs }

pub written_read :
    (mode : ℕ) (zs before : List ℤ) (room : ℕ) → Writes mode zs room → length before ≡ 4096 →
    (reading mode (length before) (bytes_of mode zs) ≡ Read (length (code mode zs))) × (read_into mode (bytes_of mode zs) before ≡ zs)
written_read mode zs before room w l = exactly_answers mode (bytes_of mode zs) before zs (written_exactly mode zs before room w l)

-- bytes that the reader takes are those of the list it hands back
pub read_written : (mode : ℕ) (s : List ℕ) (before : List ℤ) → Bytes s → read_fault mode (length before) s ≡ 0 → s ≡ bytes_of mode (read_into mode s before)
read_written mode s before h e = bytes_only mode (read_into mode s before) s h (answers_exactly mode s before (read_into mode s before) e refl).bytes

-- any writer that keeps its promise and says 0 has written those bytes (`wrote_bytes`), and any reader that keeps its own hands the list back
pub writer_reader :
    (mode : ℕ) (zs before after : List ℤ) (out out' : List ℕ) (r : Result ℕ Refusal) (q : Reading) →
    ComponentWritten mode zs out out' r → number_of r ≡ 0 → length before ≡ 4096 → ComponentRead mode (take (count_of r) out') before after q →
    (q ≡ Read (length (code mode zs))) × (after ≡ zs)
writer_reader mode zs before after out out' r q w e l p =
    let b = wrote_bytes _ (bytes_of mode zs) out out' r w e in
    let t = written_read mode zs before (length out) (done_writes mode zs (length out) (sym w.number ∙ e)) l in
    (p.answer ∙ ap (reading mode (length before)) b ∙ t.0, p.list ∙ ap (λ (s : List ℕ). read_into mode s before) b ∙ t.1)

-- ---- (c) two answers, and two outputs, that meet the promise for the same input are equal

some_bits : (kp krp : ℕ) (it : Item) → 0 < length (item_bits kp krp it)
some_bits kp krp Full = omega (arith, size_full kp krp Full refl)
some_bits kp krp (Run z v) = omega (arith, size_run kp krp (Run z v) z v refl)
some_bits kp krp (Single v) = omega (arith, size_single kp krp (Single v) v refl)
some_bits kp krp (Twin a b) = omega (arith, size_twin kp krp (Twin a b) a b refl)

some_code : (f : ℕ) (rlgr3 : Bool) (kp krp : ℕ) (l : List ℕ) → 0 < f → 0 < length l → 0 < length (code_f f rlgr3 kp krp l)
some_code zero rlgr3 kp krp l h k = absurd (omega arith)
some_code (suc f) rlgr3 kp krp l h k =
    let it = item_of rlgr3 kp l in
    omega (
      arith,
      ap length (code_item f rlgr3 kp krp l k),
      length-append (item_bits kp krp it) (code_f f rlgr3 (item_kp kp it) (item_krp krp it) (drop (item_used kp it) l)),
      some_bits kp krp it,
    )

-- no list's code is empty, so a done answer says a length that no refusal says
some_bytes : (mode : ℕ) (zs : List ℤ) → length zs ≡ 4096 → 0 < length (bytes_of mode zs)
unfolding code_of
some_bytes mode zs l =
    let n = length-map zs fold_z in
    omega (arith, bytes_length mode zs, some_code (length (map fold_z zs)) (eqb mode 4) 8 8 (map fold_z zs) (omega arith) (omega arith))

some_written : (mode : ℕ) (zs : List ℤ) (room : ℕ) → write_fault mode zs room ≡ 0 → 0 < length (bytes_of mode zs)
some_written mode zs room e = some_bytes mode zs (done_writes mode zs room e).list.len

pub write_once :
    (mode : ℕ) (zs : List ℤ) (out a b : List ℕ) (r q : Result ℕ Refusal) →
    ComponentWritten mode zs out a r → ComponentWritten mode zs out b q → (r ≡ q) × (a ≡ b)
write_once mode zs out a b r q x y = wrote_once _ _ out a b r q (some_written mode zs (length out)) x y
