-- The steps of a stream that is given to the collector, in the forms that the code has.
use Rattle.std.specs.Prelude.{◌≡◌, ℕ, zero, suc, ◌-◌, ◌<◌, ◌≤◌, Bool, List, [], ◌∷◌, length, take, drop, refl}
use Rattle.std.proofs.Math.Path.{ap}
use Rattle.std.proofs.Common.{sym, ◌∙◌, arith, length-drop, take_all, lt-ltb, le-ltb}
use Rattle.whole.specs.Row.{◌⇒◌∣◌}
use Rattle.whole.specs.laws.Row.{fails, passes}
use Rattle.session.specs.declared.Session.{Session}
use Rattle.std.specs.Prelude.{Result}
use Rattle.wire.specs.declared.Refusal.{Refusal}
use Rattle.session.specs.Header.{header_reading, header_record}
use Rattle.collect.specs.Collect.{state, said, collect_of}
use Rattle.collect.specs.declared.Collected.{Collected}
use Rattle.collect.specs.declared.Collected.TheVariants.{More, Header, Frame, Refused}
use Rattle.collect.specs.declared.Took.{Took}
use Rattle.app_text.specs.First.{first_of}
use Rattle.app_calls.specs.declared.calls.Lengths.{Lengths}
use Rattle.app_calls.specs.declared.given.Desk.{Desk}
use Rattle.app_calls.specs.Calls.{header_left, fits, FrameMade}
use Rattle.app_calls.specs.laws.Calls.{made_narrow}
use Rattle.app_calls.specs.Given.{started, moved, header_desk, frame_desk, desk_part, shown, picture_part, PartPlayed, Scene, scene, taken, played}
use Rattle.app_calls.specs.Given.{scene_after, scene_given, given_to}

-- bytes past their end: none
pub past_end : (m : List ℕ) (at : ℕ) → length m < at → take 0 m ≡ drop at m
past_end [] zero h = refl
past_end [] (suc at) h = refl
past_end (x ∷ m) zero h = absurd (omega arith)
past_end (x ∷ m) (suc at) h = past_end m at (omega arith)

pub to_end : (m : List ℕ) (at : ℕ) → take (length m - at) (drop at m) ≡ drop at m
to_end m at = take_all (length m - at) (drop at m) (rw length-drop (omega arith))

pub header-on :
    (d r : Desk) (m : List ℕ) (h : Result Session Refusal) (s : Session) → r ≡ header_desk d s → s ≡ header_record h d.s → h ≡ header_reading d.s m →
    r ≡ header_desk d (header_left d.s m)
header-on d r m h s a b c = cc

-- ---- the four ways of a part

module _ (n : Lengths) (store : List ℕ) (d r : Desk) (a : Collected) (pic : List ℕ) where
  pub part_more : a ≡ More → r ≡ d → PartPlayed n store d a pic pic r
  unfolding desk_part picture_part
  part_more e f = record { desk = f ∙ ap (desk_part store d) (sym e); picture = ap (λ (x : Collected). picture_part n store d x pic) (sym e) }

  pub part_refused : (k : Refusal) → a ≡ Refused k → r ≡ d → PartPlayed n store d a pic pic r
  unfolding desk_part picture_part
  part_refused k e f = record { desk = f ∙ ap (desk_part store d) (sym e); picture = ap (λ (x : Collected). picture_part n store d x pic) (sym e) }

  pub part_header : (k : ℕ) (m : List ℕ) → a ≡ Header k → m ≡ first_of store k → r ≡ header_desk d (header_left d.s m) → PartPlayed n store d a pic pic r
  unfolding desk_part picture_part
  part_header k m e is f = record {
    desk = f ∙ (ap (λ (x : List ℕ). header_desk d (header_left d.s x)) is ∙ ap (desk_part store d) (sym e));
    picture = ap (λ (x : Collected). picture_part n store d x pic) (sym e);
  }

  pub part_frame :
      (k : ℕ) (m pic' : List ℕ) (b : Bool) → a ≡ Frame k → m ≡ first_of store k →
      FrameMade 0 (fits n.one n.two n.three) d.s m n.one n.two n.three pic pic' b → r ≡ frame_desk d → PartPlayed n store d a pic pic' r
  unfolding desk_part picture_part shown
  part_frame k m pic' b e is p f = record {
    desk = f ∙ ap (desk_part store d) (sym e);
    picture = p.picture ∙ (ap (λ (x : List ℕ). fits n.one n.two n.three ⇒ x ∣ pic) (made_narrow d.s m n.one n.two n.three pic)
        ∙ (ap (λ (x : List ℕ). shown n d.s x pic) is ∙ ap (λ (x : Collected). picture_part n store d x pic) (sym e)));
  }

-- ---- a hand-over

pub step_is :
    (n : Lengths) (bytes left store store' pic pic' : List ℕ) (d e r : Desk) (t : Took) → left ≡ drop d.at bytes →
    said t store' ≡ collect_of (state d.c store) left → e ≡ moved d t.collector t.taken → PartPlayed n store' e t.answer pic pic' r →
    scene r store' pic' ≡ scene_after n bytes (scene d store pic)
unfolding scene_after
step_is n bytes left store store' pic pic' d e r t is f g p =
    let q : said t store' ≡ taken bytes (scene d store pic) = f ∙ ap (collect_of (state d.c store)) is in
    let w : scene r store' pic' ≡ played n (scene d store pic) (said t store') = cc (p.desk, p.picture, g) in
    w ∙ ap (played n (scene d store pic)) q

-- ---- the turns

pub none_left : (n : Lengths) (bytes : List ℕ) (k : ℕ) (t : Scene) → k ≤ 0 → t ≡ scene_given n bytes k t
unfolding scene_given
none_left n bytes zero t h = refl
none_left n bytes (suc k) t h = absurd (omega arith)

pub at-end : (n : Lengths) (bytes : List ℕ) (k : ℕ) (t : Scene) → length bytes ≤ t.desk.at → t ≡ scene_given n bytes k t
unfolding scene_given
at-end n bytes zero t h = refl
at-end n bytes (suc k) t h = fails _ _ _ _ (le-ltb _ _ h) refl

pub one_more :
    (n : Lengths) (bytes : List ℕ) (k : ℕ) (t u : Scene) → 0 < k → t.desk.at < length bytes → u ≡ scene_after n bytes t →
    scene_given n bytes k t ≡ scene_given n bytes (k - 1) u
unfolding scene_given
one_more n bytes zero t u z l e = absurd (omega arith)
one_more n bytes (suc k) t u z l e =
    let q : k ≡ suc k - 1 = omega arith in
    sym (passes _ _ _ _ (lt-ltb _ _ l) (ap (scene_given n bytes k) e)) ∙ ap (λ (j : ℕ). scene_given n bytes j u) q

pub given_is :
    (n : Lengths) (bytes store pic : List ℕ) (d e : Desk) → e ≡ started d →
    scene_given n bytes (length bytes) (scene e store pic) ≡ given_to n bytes (scene d store pic)
unfolding given_to
given_is n bytes store pic d e f = ap (λ (x : Desk). scene_given n bytes (length bytes) (scene x store pic)) f
