-- Laws of the writer: what holds where it refuses nothing, its bytes as they are put, and their number.
-- Assumes nothing.
use Rattle.std.specs.Prelude.{ℕ, ◌≤◌, ◌≡◌, refl, true, false, Ok, List, [], ◌∷◌, ◌++◌, length}
use Rattle.std.proofs.Common.{ap, sym, ◌∙◌, append_assoc, arith, leb-true, length-append}
use Rattle.whole.specs.laws.Row.{held, both, case_yes, case_no}
use Rattle.wire.specs.Le.{bytes16, patch, written}
use Rattle.wire.specs.laws.Le.{patch_next, patch_front}
use Rattle.wire.specs.Mode.{is_mode}
use Rattle.wire.specs.Wrote.{Wrote}
use Rattle.wire.specs.laws.Wrote.{done}
use Rattle.bands.specs.Bands.{is_good, QuantGood}
use Rattle.bands.specs.laws.Band.{good_set}
use Rattle.quants.specs.Quants.{quant_bytes, same}
use Rattle.quants.specs.laws.Quants.{set_five}
use Rattle.settings.specs.Settings.{settings_fault, version_record, one_record, two_record, settings_of, size_of, write_fault}
use Rattle.settings.specs.declared.Settings.{Settings}

-- ---- what holds where nothing is refused

pub record Fine (s : Settings) : Type 0 where
  pub luma : is_good s.quants.luma.v ≡ true
  pub chroma : is_good s.quants.chroma.v ≡ true
  pub mode : is_mode s.mode ≡ true

pub fine : (s : Settings) → 0 ≡ settings_fault s → Fine s
unfolding settings_fault
fine s e =
    let a = held _ _ _ _ (λ q. omega arith) e in
    let b = held _ _ _ _ (λ q. omega arith) a.1 in
    let c = held _ _ _ _ (λ q. omega arith) b.1 in
    record { luma = a.0; chroma = b.0; mode = c.0 }

pub record Writable (s : Settings) (room : ℕ) : Type 0 where
  pub luma : QuantGood s.quants.luma.v
  pub chroma : QuantGood s.quants.chroma.v
  pub fits : size_of s ≤ room

pub writable : (s : Settings) (room : ℕ) → 0 ≡ write_fault s room → Writable s room
unfolding write_fault
writable s room e =
    let p = both _ _ e in
    let f = fine s p.0 in
    let r = held _ _ _ _ (λ q. omega arith) p.1 in
    record { luma = good_set _ f.luma; chroma = good_set _ f.chroma; fits = leb-true (size_of s) room r.0 }

-- ---- the bytes, by what the sets are

pub size_one : (s : Settings) → same s.quants ≡ true → 10 ≡ size_of s
unfolding size_of
size_one s e = case_yes _ _ _ _ e refl

pub size_two : (s : Settings) → same s.quants ≡ false → 15 ≡ size_of s
unfolding size_of
size_two s e = case_no _ _ _ _ e refl

pub of_one : (s : Settings) → same s.quants ≡ true → settings_of s ≡ version_record 1 ++ one_record s.quants.luma.v s.mode
unfolding settings_of
of_one s e = sym (case_yes _ _ _ _ e refl)

pub of_two : (s : Settings) → same s.quants ≡ false →
    settings_of s ≡ version_record 2 ++ two_record s.quants.luma.v s.quants.chroma.v s.mode
unfolding settings_of
of_two s e = sym (case_no _ _ _ _ e refl)

-- how long the bodies are, and the whole
pub one_body : (q : List ℕ) (mode : ℕ) → length q ≡ 10 → length (quant_bytes q ++ (mode ∷ [])) ≡ 6
one_body q mode l = omega (arith, length-append (quant_bytes q) (mode ∷ []), set_five q l)

pub two_body : (luma chroma : List ℕ) (mode : ℕ) → length luma ≡ 10 → length chroma ≡ 10 → length (quant_bytes luma ++ (quant_bytes chroma ++ (mode ∷ []))) ≡ 11
two_body luma chroma mode l k =
    omega (arith, length-append (quant_bytes luma) (quant_bytes chroma ++ (mode ∷ [])), set_five luma l, one_body chroma mode k)

one_long : (q : List ℕ) (mode : ℕ) → length q ≡ 10 → 10 ≡ length (version_record 1 ++ one_record q mode)
unfolding version_record one_record bytes16
one_long q mode l = omega (arith, one_body q mode l)

two_long : (luma chroma : List ℕ) (mode : ℕ) → length luma ≡ 10 → length chroma ≡ 10 → 15 ≡ length (version_record 2 ++ two_record luma chroma mode)
unfolding version_record two_record bytes16
two_long luma chroma mode l k = omega (arith, two_body luma chroma mode l k)

-- ---- as they are put

pub front_put : (o x y z : List ℕ) (version kind : ℕ) → 4 ≤ length o → x ≡ patch o 0 (0 ∷ []) → y ≡ patch x 1 (bytes16 version) → z ≡ patch y 3 (kind ∷ []) →
    z ≡ patch o 0 (version_record version ++ (kind ∷ []))
unfolding version_record bytes16
front_put o x y z version kind h p q r =
    patch_next y z o (0 ∷ bytes16 version) (kind ∷ []) 0 3 (patch_next x y o (0 ∷ []) (bytes16 version) 0 1 p q refl (omega arith)) r refl (omega arith)

pub one_put : (o x y z q : List ℕ) (mode : ℕ) → length q ≡ 10 → x ≡ patch o 0 (version_record 1 ++ (1 ∷ [])) → y ≡ patch x 4 (quant_bytes q) →
    z ≡ patch y 9 (mode ∷ []) → z ≡ written (version_record 1 ++ one_record q mode) o
unfolding version_record one_record bytes16
one_put o x y z q mode l p e r =
    let n = set_five q l in
    patch_next y z o ((version_record 1 ++ (1 ∷ [])) ++ quant_bytes q) (mode ∷ []) 0 9
    (patch_next x y o (version_record 1 ++ (1 ∷ [])) (quant_bytes q) 0 4 p e refl (omega arith)) r (omega arith) (omega arith)
    ∙ patch_front o (version_record 1 ++ one_record q mode)

pub two_put : (o w x y z luma chroma : List ℕ) (mode : ℕ) → length luma ≡ 10 → length chroma ≡ 10 → w ≡ patch o 0 (version_record 2 ++ (2 ∷ [])) →
    x ≡ patch w 4 (quant_bytes luma) → y ≡ patch x 9 (quant_bytes chroma) → z ≡ patch y 14 (mode ∷ []) →
    z ≡ written (version_record 2 ++ two_record luma chroma mode) o
unfolding version_record two_record bytes16
two_put o w x y z luma chroma mode l k p e f r =
    let n = set_five luma l in
    let m = set_five chroma k in
    let a = patch_next w x o (version_record 2 ++ (2 ∷ [])) (quant_bytes luma) 0 4 p e refl (omega arith) in
    let b = patch_next x y o _ (quant_bytes chroma) 0 9 a f (omega arith) (omega arith) in
    patch_next y z o _ (mode ∷ []) 0 14 b r (omega (arith, length-append (quant_bytes luma) (quant_bytes chroma))) (omega arith)
    ∙ (rw (append_assoc (quant_bytes luma) (quant_bytes chroma) (mode ∷ [])) (patch_front o (version_record 2 ++ two_record luma chroma mode)))

-- ---- the ways out of a writer that is done

module _ (s : Settings) (out out' : List ℕ) (fault : 0 ≡ write_fault s (length out)) (l : length s.quants.luma.v ≡ 10) where
  pub wrote_one : same s.quants ≡ true → out' ≡ written (version_record 1 ++ one_record s.quants.luma.v s.mode) out →
      Wrote (write_fault s (length out)) (settings_of s) out out' (Ok 10)
  wrote_one e w =
      done _ 10 (settings_of s) out out' fault (one_long s.quants.luma.v s.mode l ∙ ap length (sym (of_one s e)))
      (w ∙ ap (λ (bytes : List ℕ). written bytes out) (sym (of_one s e)))

  pub wrote_two : same s.quants ≡ false → length s.quants.chroma.v ≡ 10 →
      out' ≡ written (version_record 2 ++ two_record s.quants.luma.v s.quants.chroma.v s.mode) out →
      Wrote (write_fault s (length out)) (settings_of s) out out' (Ok 15)
  wrote_two e k w =
      done _ 15 (settings_of s) out out' fault (two_long s.quants.luma.v s.quants.chroma.v s.mode l k ∙ ap length (sym (of_two s e)))
      (w ∙ ap (λ (bytes : List ℕ). written bytes out) (sym (of_two s e)))
