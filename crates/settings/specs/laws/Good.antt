-- What a reader gives: settings with nothing to refuse, and one of few numbers.
-- Assumes nothing.
use Rattle.std.specs.Prelude.{ℕ, zero, suc, ◌*◌, ◌≤◌, ◌≡◌, refl, Bool, true, false, Option, Some, None, List, [], ◌∷◌, eqb, length, get_or, take, drop}
use Rattle.std.proofs.Common.{subst, arith, eq-eqb, ne_eqb, length-drop, length-take-le}
use Rattle.std.proofs.Math.Decide.{ℕ_discrete}
use Rattle.whole.specs.Row.{◌⇒◌∣◌}
use Rattle.whole.specs.Among.{among, Among}
use Rattle.whole.specs.laws.Among.{numbers, said, among_then, each, among_most}
use Rattle.whole.specs.laws.Row.{both, case_yes, case_no, case_not}
use Rattle.wire.specs.Refusal.{refusal_of}
use Rattle.bands.specs.Bands.{quant_of}
use Rattle.settings.specs.Settings.{Reading, settings, why_of, Refused, store_number, given, start, body_of, settings_fault, settings_in, front_fault}
use Rattle.settings.specs.Settings.{bytes_fault, record_fault, after, last_or}
use Rattle.settings.specs.Settings.{ended, unless, walk, read_settings, GoodSettings}
use Rattle.settings.specs.laws.Read.{body_in, body_1, body_2, why_pos, number_of_why}
use Rattle.settings.specs.declared.Settings.{Settings}
use Rattle.settings.specs.declared.read.State.{State}

-- ---- a record with nothing to refuse says good settings

quant_long : (bs : List ℕ) → length (quant_of bs) ≡ 2 * length bs
unfolding quant_of
quant_long [] = refl
quant_long (b ∷ bs) = omega (arith, quant_long bs)

ten : (bs : List ℕ) → 5 ≤ length bs → length (quant_of (take 5 bs)) ≡ 10
ten bs h = omega (arith, quant_long (take 5 bs), length-take-le 5 bs h)

record Tens (s : Settings) : Type 0 where
  pub luma : length s.quants.luma.v ≡ 10
  pub chroma : length s.quants.chroma.v ≡ 10

tens : (kind : ℕ) (body : List ℕ) → (kind ≡ 0 → ⊥) → body_of kind ≤ length body → Tens (settings_in kind body)
unfolding settings_in
tens kind body d h = by (ℕ_discrete kind 1)
  where
    by : Dec (kind ≡ 1) → Tens (settings_in kind body)
    by (yes e) =
        let t = ten body (omega (arith, body_1 kind e)) in
        subst Tens (case_yes (eqb kind 1) _ _ (settings (quant_of (take 5 body)) (quant_of (take 5 body)) (get_or body 5 0)) (eq-eqb kind 1 e) refl)
        (record { luma = t; chroma = t })
    by (no e) =
        let l = body_2 kind d e in
        subst Tens (case_no (eqb kind 1) _ _ (settings (quant_of (take 5 body)) (quant_of (take 5 (drop 5 body))) (get_or body 10 0)) (ne_eqb kind 1 e) refl)
        (record { luma = ten body (omega arith); chroma = ten (drop 5 body) (omega (arith, length-drop 5 body)) })

-- a setting that was said is good
SaidOf : Option Settings → Type 0
SaidOf (Some t) = GoodSettings t
SaidOf None = Unit

Said : State → Type 0
Said s = SaidOf s.last

good_in : (newest version kind : ℕ) (body : List ℕ) → (kind ≡ 0 → ⊥) → 0 ≡ record_fault newest version kind body → GoodSettings (settings_in kind body)
unfolding record_fault bytes_fault
good_in newest version kind body d e =
    let p = both _ _ e in
    let t = tens kind body d (body_in version kind (length body) p.0) in
    record { luma = t.luma; chroma = t.chroma; fine = case_not (eqb kind 0) _ _ _ (ne_eqb kind 0 d) p.1 }

said_after : (newest kind : ℕ) (s : State) (body : List ℕ) → Said s → 0 ≡ record_fault newest s.version kind body → Said (after s kind body)
unfolding after Said SaidOf
said_after newest kind s body h e = by (ℕ_discrete kind 0)
  where
    by : Dec (kind ≡ 0) → Said (after s kind body)
    by (yes z) = subst Said (case_yes (eqb kind 0) _ _ _ (eq-eqb kind 0 z) refl) h
    by (no z) = subst Said (case_no (eqb kind 0) _ _ _ (ne_eqb kind 0 z) refl) (good_in newest s.version kind body z e)

-- ---- the whole walk

end_row : (a : Bool) (t : Option Settings) → SaidOf t → store_number (a ⇒ Refused 1 ∣ last_or t) ≡ 0 → GoodSettings (given (a ⇒ Refused 1 ∣ last_or t))
unfolding ◌⇒◌∣◌ last_or SaidOf
end_row true t h e = absurd (why_pos (why_of 1) e)
end_row false (Some t) h e = h
end_row false None h e = absurd (why_pos (why_of 15) e)

good_end : (s : State) → Said s → store_number (ended s) ≡ 0 → GoodSettings (given (ended s))
unfolding ended Said
good_end s h e = end_row (eqb s.version 0) s.last h e

good_unless : (n : ℕ) (r : Reading) → (0 ≡ n → store_number r ≡ 0 → GoodSettings (given r)) → store_number (unless n r) ≡ 0 → GoodSettings (given (unless n r))
unfolding unless
good_unless zero r h e = h refl e
good_unless (suc n) r h e = absurd (why_pos (why_of (suc n)) e)

good_walk : (newest : ℕ) (s : State) (skip : ℕ) (bs : List ℕ) → Said s → store_number (walk newest s skip bs) ≡ 0 → GoodSettings (given (walk newest s skip bs))
unfolding walk
good_walk newest s skip [] h e = good_end s h e
good_walk newest s zero (kind ∷ rest) h e =
    good_unless (record_fault newest s.version kind rest) (walk newest (after s kind rest) (body_of kind) rest)
    (λ z. good_walk newest (after s kind rest) (body_of kind) rest (said_after newest kind s rest h z)) e
good_walk newest s (suc skip) (b ∷ rest) h e = good_walk newest s skip rest h e

pub given_good : (newest : ℕ) (m : List ℕ) → store_number (read_settings newest m) ≡ 0 → GoodSettings (given (read_settings newest m))
unfolding read_settings Said SaidOf
given_good newest m e = good_walk newest start 0 m tt e

-- ---- the numbers

abbrev pub answers : List ℕ
answers = 0 ∷ 1 ∷ 3 ∷ 5 ∷ 7 ∷ 12 ∷ 14 ∷ 15 ∷ []

front_among : (version kind left : ℕ) → Among answers (front_fault version kind left)
unfolding front_fault among
front_among version kind left = search numbers

bytes_among : (newest kind : ℕ) (body : List ℕ) → Among answers (bytes_fault newest kind body)
unfolding bytes_fault settings_fault among
bytes_among newest kind body = search numbers

end_among : (a : Bool) (t : Option Settings) → Among answers (store_number (a ⇒ Refused 1 ∣ last_or t))
unfolding ◌⇒◌∣◌ among last_or why_of refusal_of
end_among true t = said refl
end_among false (Some t) = said refl
end_among false None = said refl

-- the number of one of these answers is that of its refusal
small : (n : ℕ) → Among answers n → n ≤ 15
unfolding each
small n a = among_most 15 a refl

-- the fault of a record is one of them
fault_among : (newest version kind : ℕ) (body : List ℕ) → Among answers (record_fault newest version kind body)
unfolding record_fault
fault_among newest version kind body = among_then _ _ (front_among version kind (length body)) (bytes_among newest kind body)

pub fault_most : (newest version kind : ℕ) (body : List ℕ) → record_fault newest version kind body ≤ 15
fault_most newest version kind body = small _ (fault_among newest version kind body)

unless_among : (n : ℕ) (r : Reading) → Among answers n → Among answers (store_number r) → Among answers (store_number (unless n r))
unfolding unless
unless_among zero r p q = q
unless_among (suc n) r p q = rw (number_of_why (suc n) (omega arith) (small (suc n) p)) p

walk_among : (newest : ℕ) (s : State) (skip : ℕ) (bs : List ℕ) → Among answers (store_number (walk newest s skip bs))
unfolding walk ended
walk_among newest s skip [] = end_among (eqb s.version 0) s.last
walk_among newest s zero (kind ∷ rest) =
    unless_among _ _ (fault_among newest s.version kind rest) (walk_among newest (after s kind rest) (body_of kind) rest)
walk_among newest s (suc skip) (b ∷ rest) = walk_among newest s skip rest

pub read_among : (newest : ℕ) (m : List ℕ) → Among answers (store_number (read_settings newest m))
unfolding read_settings
read_among newest m = walk_among newest start 0 m
