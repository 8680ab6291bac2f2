-- Laws of header calls and frame calls that a program makes, in the forms that the code has.
use Rattle.std.specs.Prelude.{◌≡◌, ℕ, ◌<◌, ◌≤◌, Bool, true, false, leb, List, length, nat_le}
use Rattle.std.proofs.Math.Path.{refl, ap, sym}
use Rattle.std.proofs.Common.{◌∙◌}
use borrow.Author.Tests.{le-leb, lt-leb}
use Rattle.whole.specs.Row.{◌!◌⨾◌, ◌⇒◌∣◌}
use Rattle.whole.specs.laws.Row.{fails, passes, case_yes, case_no}
use Rattle.session.specs.declared.Session.{Session}
use Rattle.std.specs.Prelude.{Result}
use Rattle.wire.specs.declared.Refusal.{Refusal}
use Rattle.wire.specs.Refusal.{number_of}
use Rattle.session.specs.Header.{header_record, header_reading}
use Rattle.frame.specs.Frame.{call_fault, frame_number, frame_picture}
use Rattle.app_calls.specs.Calls.{header_left, heard, between, four_back, frame_made, frame_made_on, fits, FrameMade}
use Rattle.app_calls.specs.declared.calls.Heard.{Heard}
use Rattle.app_calls.specs.declared.calls.Fourfold.{Fourfold}

-- ---- header calls

pub header_made :
    (s r : Session) (m : List ℕ) (h : Result Session Refusal) → r ≡ header_record h s → h ≡ header_reading s m → r ≡ header_left s m
header_made s r m h e f = e ∙ ap (λ (x : Result Session Refusal). header_record x s) f

pub heard_made :
    (s r : Session) (m : List ℕ) (n : ℕ) (h : Result Session Refusal) → n ≡ number_of h → r ≡ header_record h s → h ≡ header_reading s m →
    record { number = n; session = r } ≡ heard s m
unfolding heard
heard_made s r m n h e f g = cc

pub back_short : (s : Session) (out : List ℕ) → length out < 47 → record { one = 1; two = 1; three = 1; four = 1; session = s } ≡ four_back s out
unfolding four_back
back_short s out h = fails _ _ _ _ (lt-leb 47 (length out) h) refl

pub back_four :
    (s : Session) (out : List ℕ) (a b c d : Heard) → 47 ≤ length out → a ≡ heard s (between 0 12 out) → b ≡ heard a.session (between 12 22 out) →
    c ≡ heard b.session (between 22 34 out) → d ≡ heard c.session (between 34 47 out) →
    record { one = a.number; two = b.number; three = c.number; four = d.number; session = d.session } ≡ four_back s out
unfolding four_back
back_four s out a b c d h p q r t = passes _ _ _ _ (le-leb 47 (length out) h) (rw (t, r, q, p))

pub session_back : (s : Session) (out : List ℕ) (f : Fourfold) → f ≡ four_back s out → f.session ≡ (four_back s out).session
session_back s out f e = ap (λ (x : Fourfold). x.session) e

-- ---- frame calls

module _ (word : ℕ) (s : Session) (m : List ℕ) (pic : List ℕ) where
  not_made : (made : Bool) (one two three : ℕ) → made ≡ false → FrameMade word made s m one two three pic pic false
  not_made made one two three e = record { answer = sym e; picture = case_no _ _ _ _ e refl }

  pub three_not : (one two three : ℕ) → 8192 < three → FrameMade word (nat_le three 8192) s m one two three pic pic false
  three_not one two three h = not_made _ one two three (lt-leb three 8192 h)

  pub two_not : (one two three : ℕ) → 8192 < two → FrameMade word (leb two 8192 ! false ⨾ leb three 8192) s m one two three pic pic false
  two_not one two three h = not_made _ one two three (sym (fails _ _ _ _ (lt-leb two 8192 h) refl))

  pub one_not : (one two three : ℕ) → 8192 < one → FrameMade word (fits one two three) s m one two three pic pic false
  unfolding fits
  one_not one two three h = not_made _ one two three (sym (fails _ _ _ _ (lt-leb one 8192 h) refl))

  pub three_made :
      (pic' : List ℕ) (one two three j k l n : ℕ) → three ≤ 8192 →
      pic' ≡ frame_picture (frame_number (call_fault word s (length pic) j k l n) s m) s m pic → j ≡ one → k ≡ two → l ≡ three → n ≡ 4096 →
      FrameMade word (nat_le three 8192) s m one two three pic pic' true
  unfolding frame_made_on
  three_made pic' one two three j k l n h e a b c d =
      let t : leb three 8192 ≡ true = le-leb three 8192 h in
      let q : pic' ≡ frame_made_on word s m one two three pic = cc in
      record { answer = sym t; picture = case_yes _ _ _ _ t q }

  pub two_made :
      (pic' : List ℕ) (one k two three : ℕ) (r : Bool) → two ≤ 8192 → k ≡ two → FrameMade word (nat_le three 8192) s m one k three pic pic' r →
      FrameMade word (leb two 8192 ! false ⨾ leb three 8192) s m one two three pic pic' r
  two_made pic' one k two three r h e p =
      let t : leb three 8192 ≡ (leb two 8192 ! false ⨾ leb three 8192) = passes _ _ _ _ (le-leb two 8192 h) refl in
      record {
        answer = p.answer ∙ t;
        picture = p.picture ∙ (ap (λ (x : ℕ). leb three 8192 ⇒ frame_made_on word s m one x three pic ∣ pic) e
            ∙ ap (λ (b : Bool). b ⇒ frame_made_on word s m one two three pic ∣ pic) t);
      }

  pub one_made :
      (pic' : List ℕ) (k one two three : ℕ) (r : Bool) → one ≤ 8192 → k ≡ one →
      FrameMade word (leb two 8192 ! false ⨾ leb three 8192) s m k two three pic pic' r → FrameMade word (fits one two three) s m one two three pic pic' r
  unfolding fits
  one_made pic' k one two three r h e p =
      let inner = leb two 8192 ! false ⨾ leb three 8192 in
      let t : inner ≡ (leb one 8192 ! false ⨾ inner) = passes _ _ _ _ (le-leb one 8192 h) refl in
      record {
        answer = p.answer ∙ t;
        picture = p.picture ∙ (ap (λ (x : ℕ). inner ⇒ frame_made_on word s m x two three pic ∣ pic) e
            ∙ ap (λ (b : Bool). b ⇒ frame_made_on word s m one two three pic ∣ pic) t);
      }

-- on words of 16 bits
pub made_narrow : (s : Session) (m : List ℕ) (one two three : ℕ) (pic : List ℕ) → frame_made_on 0 s m one two three pic ≡ frame_made s m one two three pic
unfolding frame_made_on frame_made
made_narrow s m one two three pic = refl
