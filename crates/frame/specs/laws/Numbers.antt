-- 12 and 2 come from the record and the lent memory alone, never from the message: so "Work lists of a frame call are untouched on 12
-- and 2; after every other frame answer they hold only zeros" can be read off the answer.
use Prim.Native.Nat.{ℕ}
use Rattle.std.specs.Prelude.{◌≡◌, List, [], ◌∷◌, ℤ, Result}
use Rattle.std.proofs.Math.Path.{refl, sym}
use Rattle.std.proofs.Common.{◌∙◌, subst}
use borrow.Author.Tests.{eq-eqb, ne_eqb}
use Rattle.whole.specs.laws.Row.{passes, fails}
use Rattle.whole.specs.Among.{among, Among, Other}
use Rattle.whole.specs.laws.Among.{each, among_then, among_all, among_none, first_there, first_none}
use Rattle.wire.specs.Refusal.{number_of}
use Rattle.wire.specs.declared.Refusal.{Refusal}
use Rattle.session.specs.declared.Session.{Session}
use Rattle.frame.specs.Frame.{early, frame_number, frame_list, Cleared, FrameRead}
pub use Rattle.frame.specs.laws.Among.{message_numbers, message_among, call_among}
use Rattle.frame.specs.laws.Glass.{number_is}

-- 12 and 2 leave the lists as they were, every other answer leaves zeros
module _ (word : ℕ) (s : Session) (m pic : List ℕ) (y cb cr tmp : List ℤ) (pic' : List ℕ) (y' cb' cr' tmp' : List ℤ) (r : Result ℕ Refusal)
    (done : FrameRead word s m pic y cb cr tmp pic' y' cb' cr' tmp' r) where
  before : ℕ
  before = early word s pic y cb cr tmp

  number : number_of r ≡ frame_number (early word s pic y cb cr tmp) s m
  number = number_is word s m pic y cb cr tmp pic' y' cb' cr' tmp' r done

  -- which numbers the call answers
  pub frame_among : Among (12 ∷ 2 ∷ message_numbers) (number_of r)
  unfolding frame_number each among
  frame_among =
      rw number (among_then _ _ (among_all _ (call_among word s _ _ _ _ _) refl) (among_all _ (message_among s.width s.height s.mode m) refl))

  -- the four lists are those that came in
  pub record Untouched : Type 0 where
    pub y_is : y' ≡ y
    pub cb_is : cb' ≡ cb
    pub cr_is : cr' ≡ cr
    pub tmp_is : tmp' ≡ tmp

  pub untouched : Among (12 ∷ 2 ∷ []) (number_of r) → Untouched
  unfolding before frame_list frame_number each among
  untouched e =
      let o = among_none (12 ∷ 2 ∷ []) (message_among s.width s.height s.mode m) refl in
      let z = ne_eqb before 0 (first_there before _ o (subst (Among (12 ∷ 2 ∷ [])) number e)) in
      record {
        y_is = done.y_list ∙ sym (fails _ _ _ _ z refl);
        cb_is = done.cb_list ∙ sym (fails _ _ _ _ z refl);
        cr_is = done.cr_list ∙ sym (fails _ _ _ _ z refl);
        tmp_is = done.tmp_list ∙ sym (fails _ _ _ _ z refl);
      }

  pub cleared : Other (12 ∷ 2 ∷ []) (number_of r) → Cleared y' cb' cr' tmp'
  unfolding before frame_list frame_number
  cleared o =
      let z = eq-eqb before 0 (first_none before _ (call_among word s _ _ _ _ _) (subst (Other (12 ∷ 2 ∷ [])) number o)) in
      record {
        y_is = done.y_list ∙ sym (passes _ _ _ _ z refl);
        cb_is = done.cb_list ∙ sym (passes _ _ _ _ z refl);
        cr_is = done.cr_list ∙ sym (passes _ _ _ _ z refl);
        tmp_is = done.tmp_list ∙ sym (passes _ _ _ _ z refl);
      }
