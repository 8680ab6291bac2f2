-- Frames and headers passed on for C are the filter's own calls, a frame's with the record that the size and the mode make; one answer for each; and a size
-- that is none
-- has no session, so that the frame goes on as it came.
use Rattle.std.specs.Prelude.{ℕ, ◌<◌, ◌≡◌, refl, false, List, [], ◌∷◌, ℤ, Result}
use Rattle.std.proofs.Common.{sym, ap₂, subst, ◌∙◌, arith, le-leb}
use Rattle.std.proofs.lemmas.Bool.{lt-leb}
use Rattle.whole.specs.laws.Row.{case_yes, case_no, fails}
use Rattle.session.specs.Header.{of_numbers, ready}
use Rattle.session.specs.declared.Session.{Session}
use Rattle.wire.specs.Refusal.{number_of, count_of}
use Rattle.wire.specs.declared.Refusal.{Refusal}
use Rattle.tidy.specs.Tidy.{is_tidied, tidy_frame, told_of, FrameTidied}
use Rattle.tidy.specs.Held.{HeldGave}
use Rattle.tidy.specs.declared.frames.Tidied.{Tidied}
use Rattle.panel.specs.Tidy.{side_of, filter_record, TidyFrameCall, HeldCall}

-- ---- a side of the picture

pub side_wide : (n : ℕ) → 65535 < n → 0 ≡ side_of n
unfolding side_of
side_wide n h = case_no _ _ _ _ (lt-leb n 65535 h) refl

pub side_is : (n : ℕ) → (65535 < n → ⊥) → n ≡ side_of n
unfolding side_of
side_is n h = case_yes _ _ _ _ (le-leb n 65535 (omega (arith, h))) refl

-- ---- the calls

pub tidy_call :
    (sender w h mode a b : ℕ) (s : Session) (m : List ℕ) (list list' : List ℤ) (out out' : List ℕ) (t : Result Tidied Refusal) → a ≡ side_of w → b ≡ side_of h →
    s ≡ of_numbers 4 a b mode → FrameTidied sender s m list list' out out' t →
    TidyFrameCall sender w h mode m list list' out out' ((told_of t).size ∷ (told_of t).cut ∷ []) (number_of t)
tidy_call sender w h mode a b s m list list' out out' t ea eb e p =
    let k : s ≡ filter_record w h mode = e ∙ ap₂ (λ (x y : ℕ). of_numbers 4 x y mode) ea eb in
    let q = subst (λ (x : Session). FrameTidied sender x m list list' out out' t) k p in
    record { number = q.number; told_is = ap₂ (λ (x y : ℕ). x ∷ y ∷ []) q.size q.cut; left = q.left; work = q.work }

pub held_call :
    (F : ℕ) (bytes after held held' out out' : List ℕ) (r : Result ℕ Refusal) → HeldGave F bytes after held held' out out' r →
    HeldCall F bytes after held held' out out' (count_of r) (number_of r)
held_call F bytes after held held' out out' r p = record { number = p.number; size_is = p.size; kept = p.kept; left = p.left }

-- ---- one answer for each call

pub tidy_once :
    (sender w h mode : ℕ) (m : List ℕ) (list a b : List ℤ) (out x y told told' : List ℕ) (n n' : ℕ) → TidyFrameCall sender w h mode m list a out x told n →
    TidyFrameCall sender w h mode m list b out y told' n' → (n ≡ n') × (told ≡ told') × (a ≡ b) × (x ≡ y)
tidy_once sender w h mode m list a b out x y told told' n n' p q =
    (p.number ∙ sym q.number, p.told_is ∙ sym q.told_is, p.work ∙ sym q.work, p.left ∙ sym q.left)

pub held_once :
    (F : ℕ) (bytes after held a b out x y : List ℕ) (size size' n n' : ℕ) → HeldCall F bytes after held a out x size n →
    HeldCall F bytes after held b out y size' n' → (n ≡ n') × (size ≡ size') × (a ≡ b) × (x ≡ y)
held_once F bytes after held a b out x y size size' n n' p q =
    (p.number ∙ sym q.number, p.size_is ∙ sym q.size_is, p.kept ∙ sym q.kept, p.left ∙ sym q.left)

-- ---- a size that is none: the frame goes on as it came

pub no_session : (sender w h mode : ℕ) (m : List ℕ) → ready (filter_record w h mode) ≡ false → tidy_frame sender (filter_record w h mode) m ≡ m
unfolding tidy_frame is_tidied
no_session sender w h mode m e = sym (fails _ _ _ _ (sym (fails _ _ _ _ e refl)) refl)
