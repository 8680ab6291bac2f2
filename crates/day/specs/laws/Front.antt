-- With the collector in front: the parts, and so the day, do not depend on how the bytes are cut between resets.
use Rattle.std.specs.Prelude.{ℕ, ◌≡◌, refl, Bool, true, false, List, [], ◌∷◌, ◌++◌, map, get_or}
use Rattle.wire.specs.declared.Refusal.{Refusal}
use Rattle.std.proofs.Common.{sym, ap, ap₂, subst, ◌∙◌}
use Rattle.whole.specs.Row.{◌⇒◌∣◌}
use Rattle.collect.specs.declared.Collected.{Collected}
use Rattle.collect.specs.declared.Collected.TheVariants.{Refused}
use Rattle.collect.specs.Collect.{Part, collect_of, handed_on, parts_of}
use Rattle.collect.specs.Collect as Collect
use Rattle.collect.specs.laws.Request.{request_one}
use Rattle.day.specs.Day.{State, Call, Asked, ask_header, ask_frame, asked, answered}
use Rattle.day.specs.Front.{Gathered, no_stretch, stretch, SameBytes, AllBytes, Gathers, part_of, lists_of, CollectedDay, Collects}
use Rattle.day.specs.laws.Once.{once, can_be_made}

pub refusal_no_call : (k : Collect.State) (bs : List ℕ) (r : Refusal) → (collect_of k bs).step.answer ≡ Refused r → parts_of (collect_of k bs).step ≡ []
refusal_no_call k bs n e = ap (λ (a : Collected). handed_on a (collect_of k bs).step.state.store) e

-- ---- the collector's day

-- from a state or one that is equal to it
moved : {k l m : Collect.State} {pss : List (List (List ℕ))} {hs : List Part} → k ≡ l → Gathered k pss hs m → Gathered l pss hs m
moved {m = m} {pss} {hs} e g = subst (λ (x : Collect.State). Gathered x pss hs m) e g

pub however_cut :
    (k l m : Collect.State) (pss qss : List (List (List ℕ))) (hs ks : List Part)
    → Gathered k pss hs l
    → Gathered k qss ks m
    → SameBytes pss qss
    → AllBytes pss
    → (hs ≡ ks) × (l ≡ m)
however_cut k l m [] [] hs ks no_stretch no_stretch e b = (refl, refl)
however_cut k l m [] (qs ∷ qss) hs ks no_stretch (stretch h y) e b = absurd e
however_cut k l m (ps ∷ pss) [] hs ks (stretch g x) no_stretch e b = absurd e
however_cut k l m (ps ∷ pss) (qs ∷ qss) hs ks (stretch g x) (stretch h y) e b =
    let p = request_one.however_cut g h e.0 b.0 in
    let q = however_cut _ l m pss qss _ _ x (moved (sym p.1) y) e.1 b.1 in
    (ap₂ (λ (a c : List Part). a ++ c) p.0 q.0, q.1)

pub can_be_gathered : (k : Collect.State) (pss : List (List (List ℕ))) → AllBytes pss → Gathers k pss
can_be_gathered k [] b = record { parts = []; end = k; gathered = no_stretch }
can_be_gathered k (ps ∷ pss) b =
    let p = request_one.can_be_given (Collect.state Collect.fresh k.store) ps b.0 in
    let q = can_be_gathered p.end pss b.1 in
    record { parts = p.parts ++ q.parts; end = q.end; gathered = stretch p.given q.gathered }

-- ---- the calls

-- what is asked, of a part and of the lists that are lent with it
abbrev asked_by : Part → List ℕ → Asked
asked_by p l = p.header ⇒ ask_header p.bytes ∣ ask_frame p.bytes (get_or l 0 0) (get_or l 1 0) (get_or l 2 0) (get_or l 3 0)

abbrev first_of : List (List ℕ) → List ℕ
first_of [] = []
first_of (l ∷ ls) = l

abbrev others_of : List (List ℕ) → List (List ℕ)
others_of [] = []
others_of (l ∷ ls) = ls

abbrev all_asked : List Part → List (List ℕ) → List Asked
all_asked [] ls = []
all_asked (p ∷ ps) ls = asked_by p (first_of ls) ∷ all_asked ps (others_of ls)

one_asked : (a : Asked) → a ≡ asked_by (part_of a) (lists_of a)
unfolding ◌⇒◌∣◌
one_asked (ask_header m) = refl
one_asked (ask_frame m y cb cr scratch) = refl

all-asked : (ls : List Asked) → ls ≡ all_asked (map part_of ls) (map lists_of ls)
all-asked [] = refl
all-asked (a ∷ ls) = ap₂ (λ (x : Asked) (xs : List Asked). x ∷ xs) (one_asked a) (all-asked ls)

pub same_day :
    {k : Collect.State} {pss qss : List (List (List ℕ))} {s t u : State} {cs ds : List Call}
    → CollectedDay k pss s cs t
    → CollectedDay k qss s ds u
    → SameBytes pss qss
    → AllBytes pss
    → map lists_of (map asked cs) ≡ map lists_of (map asked ds)
    → (map asked cs ≡ map asked ds) × (map answered cs ≡ map answered ds) × (t ≡ u)
same_day {k} {pss} {qss} {s} {t} {u} {cs} {ds} d e b a l =
    let h = (however_cut k d.end e.end pss qss d.parts e.parts d.gathered e.gathered b a).0 in
    let p : map part_of (map asked cs) ≡ map part_of (map asked ds) = d.calls ∙ h ∙ sym e.calls in
    let q : map asked cs ≡ map asked ds = all-asked (map asked cs) ∙ ap₂ all_asked p l ∙ sym (all-asked (map asked ds)) in
    let o = once d.day e.day q in
    (q, o.0, o.1)

-- ---- there is a day for any bytes

-- what a part asks where every frame call is lent four full lists
abbrev asked_full : Part → Asked
asked_full p = asked_by p (4096 ∷ 4096 ∷ 4096 ∷ 4096 ∷ [])

part_full : (p : Part) (b : Bool) → p.header ≡ b → part_of (asked_full p) ≡ p
unfolding ◌⇒◌∣◌
part_full p true e = rw e
part_full p false e = rw e

parts_full : (ps : List Part) → map part_of (map asked_full ps) ≡ ps
parts_full [] = refl
parts_full (p ∷ ps) = ap₂ (λ (x : Part) (xs : List Part). x ∷ xs) (part_full p _ refl) (parts_full ps)

pub can_be_collected : (k : Collect.State) (pss : List (List (List ℕ))) (s : State) → AllBytes pss → Collects k pss s
can_be_collected k pss s b =
    let g = can_be_gathered k pss b in
    let d = can_be_made s (map asked_full g.parts) in
    record {
      calls = d.calls;
      last = d.end;
      collected = record {
        parts = g.parts;
        end = g.end;
        gathered = g.gathered;
        calls = ap (map part_of) d.are ∙ parts_full g.parts;
        day = d.day;
      };
    }
