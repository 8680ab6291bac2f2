-- What is asked makes the day: each answer, the record and the picture are functions of it; and whatever is asked there is a day.
use Rattle.std.specs.Prelude.{ℕ, ◌≡◌, refl, List, [], ◌∷◌, ◌++◌, map, ℤ, pos, length, replicate}
use Rattle.std.proofs.Common.{sym, ap, ap₂, ◌∙◌}
use Rattle.std.proofs.lemmas.List.{length-replicate}
use Rattle.session.specs.declared.Session.{Session}
use Rattle.session.specs.Header.{header_record, header_reading}
use Rattle.frame.specs.Frame.{call_fault, frame_number, frame_picture, frame_list, frame_reading}
use Rattle.calls.specs.Calls.{ReadHeader, session_after, ReadFrame}
use Rattle.day.specs.Day.{State, state, Call, header, frame, Step, Day, no_call, call, Strikes}
use Rattle.day.specs.Day.{Asked, ask_header, ask_frame, asked, Answer, of_header, of_frame, answered}
use Rattle.day.specs.Days.{Made}
use Rattle.day.specs.laws.Step.{state_is, some_struck}

-- ---- a call as a function of what it is asked

-- a frame call's number, of the record and the picture
abbrev number_to : List ℕ → ℕ → ℕ → ℕ → ℕ → ℕ → Session → List ℕ → ℕ
number_to m y cb cr scratch word s pic = frame_number (call_fault word s (length pic) y cb cr scratch) s m

-- the same, as it is asked
abbrev number_of : ReadFrame → ℕ → Session → List ℕ → ℕ
number_of c = number_to c.message (length c.y) (length c.cb) (length c.cr) (length c.scratch)

abbrev answer_to : State → Asked → Answer
answer_to s (ask_header m) = of_header (header_reading s.session m)
answer_to s (ask_frame m y cb cr scratch) = of_frame (frame_reading (number_to m y cb cr scratch s.word s.session s.picture) m)

abbrev pub after : State → Asked → State
after s (ask_header m) = state (header_record (header_reading s.session m) s.session) s.word s.picture
after s (ask_frame m y cb cr scratch) =
    state s.session s.word (frame_picture (number_to m y cb cr scratch s.word s.session s.picture) s.session m s.picture)

answer_is : (s t : State) (c : Call) → Step s c t → answered c ≡ answer_to s (asked c)
answer_is s t (header c) k = ap of_header (c.promise ∙ ap (λ (x : Session). header_reading x c.message) k.given)
answer_is s t (frame c) k =
    ap of_frame (c.promise.answer ∙ ap₂ (λ (x : Session) (p : List ℕ). frame_reading (number_of c c.word x p) c.message) k.given k.lent
    ∙ ap (λ (n : ℕ). frame_reading (number_of c n s.session s.picture) c.message) k.sized)

after_is : (s t : State) (c : Call) → Step s c t → t ≡ after s (asked c)
after_is s t (header c) k =
    state_is (k.left ∙ ap₂ header_record (c.promise ∙ ap (λ (x : Session). header_reading x c.message) k.given) k.given) k.word_kept
    k.picture_kept
after_is s t (frame c) k =
    state_is k.session_kept k.word_kept
    (k.left ∙ c.promise.picture
    ∙ ap₂ (λ (x : Session) (p : List ℕ). frame_picture (number_of c c.word x p) x c.message p) k.given k.lent
    ∙ ap (λ (n : ℕ). frame_picture (number_of c n s.session s.picture) s.session c.message s.picture) k.sized)

-- ---- a day

abbrev answers_to : State → List Asked → List Answer
answers_to s [] = []
answers_to s (a ∷ ls) = answer_to s a ∷ answers_to (after s a) ls

abbrev pub end_of : State → List Asked → State
end_of s [] = s
end_of s (a ∷ ls) = end_of (after s a) ls

pub end_append : (s : State) (ls ks : List Asked) → end_of s (ls ++ ks) ≡ end_of (end_of s ls) ks
end_append s [] ks = refl
end_append s (a ∷ ls) ks = end_append (after s a) ls ks

answers_are : (s t : State) (cs : List Call) → Day s cs t → map answered cs ≡ answers_to s (map asked cs)
answers_are s t [] no_call = refl
answers_are s t (c ∷ cs) (call k d) =
    ap₂ (λ (x : Answer) (xs : List Answer). x ∷ xs) (answer_is s _ c k)
    (answers_are _ t cs d ∙ ap (λ (x : State). answers_to x (map asked cs)) (after_is s _ c k))

end_is : (s t : State) (cs : List Call) → Day s cs t → t ≡ end_of s (map asked cs)
end_is s t [] no_call = refl
end_is s t (c ∷ cs) (call k d) = end_is _ t cs d ∙ ap (λ (x : State). end_of x (map asked cs)) (after_is s _ c k)

pub once : {s t u : State} {cs ds : List Call} → Day s cs t → Day s ds u → map asked cs ≡ map asked ds → (map answered cs ≡ map answered ds) × (t ≡ u)
once {s} {t} {u} {cs} {ds} d e q =
    (answers_are s t cs d ∙ ap (answers_to s) q ∙ sym (answers_are s u ds e), end_is s t cs d ∙ ap (end_of s) q ∙ sym (end_is s u ds e))

pub again :
    {s t u : State} {cs ds es : List Call}
    → Day s cs t
    → Strikes cs ds
    → Day s es u
    → map asked es ≡ map asked ds
    → (map answered es ≡ map answered ds) × (u ≡ t)
again d x e q = once e (some_struck d x) q

-- ---- whatever is asked

abbrev zeros : ℕ → List ℤ
zeros n = replicate n (pos 0)

long : (n : ℕ) → length (zeros n) ≡ n
long n = length-replicate n (pos 0)

-- a header call
abbrev pub header_call : Session → List ℕ → ReadHeader
header_call s m = record { session = s; message = m; answer = header_reading s m; promise = refl }

-- a frame call, lent lists of zeros
abbrev pub frame_call : ℕ → Session → List ℕ → List ℕ → ℕ → ℕ → ℕ → ℕ → ReadFrame
frame_call word s m pic a b c d =
    let f : ℕ = call_fault word s (length pic) (length (zeros a)) (length (zeros b)) (length (zeros c)) (length (zeros d)) in
    record {
      word = word;
      session = s;
      message = m;
      picture = pic;
      y = zeros a;
      cb = zeros b;
      cr = zeros c;
      scratch = zeros d;
      picture' = frame_picture (frame_number f s m) s m pic;
      y' = frame_list f (zeros a);
      cb' = frame_list f (zeros b);
      cr' = frame_list f (zeros c);
      scratch' = frame_list f (zeros d);
      answer = frame_reading (frame_number f s m) m;
      promise = record { answer = refl; picture = refl; y_list = refl; cb_list = refl; cr_list = refl; tmp_list = refl };
    }

four_lists :
    (m : List ℕ) (a b c d a' b' c' d' : ℕ) → a ≡ a' → b ≡ b' → c ≡ c' → d ≡ d' → ask_frame m a b c d ≡ ask_frame m a' b' c' d'
four_lists m a b c d a' b' c' d' p q r s = cc

-- one such call, before a day
pub header_then :
    {u : State} {cs : List Call} (s : State) (m : List ℕ)
    → Day (state (session_after (header_call s.session m)) s.word s.picture) cs u
    → Day s (header (header_call s.session m) ∷ cs) u
header_then s m d = call {c = header _} (record { given = refl; left = refl; word_kept = refl; picture_kept = refl }) d

pub frame_then :
    {u : State} {cs : List Call} (s : State) (m : List ℕ) (y cb cr scratch : ℕ)
    → Day (state s.session s.word (frame_call s.word s.session m s.picture y cb cr scratch).picture') cs u
    → Day s (frame (frame_call s.word s.session m s.picture y cb cr scratch) ∷ cs) u
frame_then s m y cb cr scratch d = call {c = frame _} (record { given = refl; sized = refl; lent = refl; session_kept = refl; word_kept = refl; left = refl }) d

module _ (s : State) (ls : List Asked) where
  more_header : (m : List ℕ) → Made (state (session_after (header_call s.session m)) s.word s.picture) ls → Made s (ask_header m ∷ ls)
  more_header m d =
      record {
        calls = header (header_call s.session m) ∷ d.calls;
        end = d.end;
        day = header_then s m d.day;
        are = ap (λ (x : List Asked). ask_header m ∷ x) d.are;
      }

  more_frame :
      (m : List ℕ) (y cb cr scratch : ℕ)
      → Made (state s.session s.word (frame_call s.word s.session m s.picture y cb cr scratch).picture') ls
      → Made s (ask_frame m y cb cr scratch ∷ ls)
  more_frame m y cb cr scratch d =
      record {
        calls = frame (frame_call s.word s.session m s.picture y cb cr scratch) ∷ d.calls;
        end = d.end;
        day = frame_then s m y cb cr scratch d.day;
        are =
            ap₂ (λ (x : Asked) (xs : List Asked). x ∷ xs)
            (four_lists m _ _ _ _ y cb cr scratch (long y) (long cb) (long cr) (long scratch))
            d.are;
      }

pub can_be_made : (s : State) (ls : List Asked) → Made s ls
can_be_made s [] = record { calls = []; end = s; day = no_call; are = refl }
can_be_made s (ask_header m ∷ ls) = more_header s ls m (can_be_made (state (session_after (header_call s.session m)) s.word s.picture) ls)
can_be_made s (ask_frame m y cb cr scratch ∷ ls) =
    more_frame s ls m y cb cr scratch
    (can_be_made (state s.session s.word (frame_call s.word s.session m s.picture y cb cr scratch).picture') ls)

-- a program whose record and picture end so has had a day on which this was asked
pub plays : (s t : State) (ls : List Asked) → t ≡ end_of s ls → (m : Made s ls) × (m.end ≡ t)
plays s t ls e = let m = can_be_made s ls in (m, end_is s m.end m.calls m.day ∙ ap (end_of s) m.are ∙ sym e)
