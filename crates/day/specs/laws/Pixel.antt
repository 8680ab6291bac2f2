-- The same said of a place of the picture, by 01's pixel rule.
-- (01 is this project's scope document, 02 its change requests, 001 is MS-RDPRFX: README, "What 01 is".)
use Rattle.std.specs.Prelude.{ℕ, zero, suc, ◌+◌, ◌*◌, ◌/◌, ◌%◌, ◌<◌, ◌≡◌, Bool, ltb, eqb, length}
use Rattle.wire.specs.Refusal.{number_of}
use Rattle.std.proofs.Math.Path.{refl, ap}
use Rattle.std.proofs.Common.{subst, ◌∙◌, div-add-mod', div-lt_iff_lt-mul, mod-lt, arith, eqb-true, ltb-true, ltb-false}
use Rattle.std.proofs.Math.Bool.{true, false}
use mathlib.Core.List.{List, [], ◌∷◌}
use Rattle.std.proofs.Math.ListN.{get_or}
use Rattle.std.proofs.lemmas.Bool.{eqb-false}
use Rattle.whole.specs.Row.{◌⇒◌∣◌}
use Rattle.frame_layout.specs.Reader.{frame_tiles, set_place, set_at}
use Rattle.frame_draw.specs.Shown.{Found, found, none, last_tile, word_in}
use Rattle.frame_draw.specs.Show.{tile_word}
use Rattle.frame.specs.laws.Glass.{shown_pixel, shown_past, shown_length}
use Rattle.calls.specs.Calls.{ReadFrame}
use Rattle.day.specs.Day.{State, Call, header, frame, FrameStep, Day, no_call, call, accepted}
use Rattle.day.specs.Day.{Put, word, no_word, tile_put, pixel_put, put, or_before, last_put, or_first}
use Rattle.day.specs.laws.Step.{frame_refused}

-- ---- two frames, one over the other

or-first : (a b : Put) (old : ℕ) → or_first a (or_first b old) ≡ or_first (or_before a b) old
unfolding or_first or_before
or-first (word w) b old = refl
or-first no_word b old = refl

-- ---- one frame: the rule as demand 2 has it, of a pixel and the old word

rule_tile :
    (c : ReadFrame) (px py old : ℕ) (t : Found)
    → word_in (tile_word c.session.glass c.session.mode (set_at c.message (set_place c.message))) px py t old ≡ or_first (tile_put c px py t) old
unfolding word_in or_first
rule_tile c px py old (found t) = refl
rule_tile c px py old none = refl

rule_case : (b : Bool) (x old : ℕ) (p : Put) → x ≡ or_first p old → (b ⇒ x ∣ old) ≡ or_first (b ⇒ p ∣ no_word) old
unfolding or_first ◌⇒◌∣◌
rule_case true x old p e = e
rule_case false x old p e = refl

-- a place of the channel: it has a width
some_width : (i h w : ℕ) → i < h * w → 0 < w
some_width i h zero l = absurd (omega arith)
some_width i h (suc w) l = omega arith

module _ (c : ReadFrame) (taken : number_of c.answer ≡ 0) where
  abbrev w : ℕ
  w = c.session.width

  abbrev h : ℕ
  h = c.session.height

  pixel-put : (px py : ℕ) → px < w → py < h → get_or c.picture' (py * w + px) 0 ≡ or_first (pixel_put c px py) (get_or c.picture (py * w + px) 0)
  unfolding pixel_put
  pixel-put px py a b =
      shown_pixel _ _ _ _ _ _ _ _ _ _ _ _ _ _ c.promise taken px py a b
      ∙ rule_case _ _ _ _ (rule_tile c px py _ (last_tile (frame_tiles c.message) px py))

  place_put : (i : ℕ) → i < h * w → get_or c.picture' i 0 ≡ or_first (pixel_put c (i % w) (i / w)) (get_or c.picture i 0)
  place_put i l =
      let some : 0 < w = some_width i h w l in
      subst (λ (j : ℕ). get_or c.picture' j 0 ≡ or_first (pixel_put c (i % w) (i / w)) (get_or c.picture j 0)) (div-add-mod' i w)
      (pixel-put (i % w) (i / w) (mod-lt i some) ((div-lt_iff_lt-mul some).1 l))

  put_by : (i : ℕ) (b : Bool) → ltb i (h * w) ≡ b → get_or c.picture' i 0 ≡ or_first (put c i) (get_or c.picture i 0)
  unfolding put or_first ◌⇒◌∣◌
  put_by i true e = rw e (place_put i (ltb-true i (h * w) e))
  put_by i false e = rw e (shown_past _ _ _ _ _ _ _ _ _ _ _ _ _ _ c.promise taken i (ltb-false i (h * w) e))

-- ---- a day

module _ (s t : State) (c : ReadFrame) (cs : List ReadFrame) (k : FrameStep s c t) where
  pixel_one :
      (i : ℕ) (b : Bool)
      → eqb (number_of c.answer) 0 ≡ b
      → or_first (last_put cs i) (get_or t.picture i 0) ≡ or_first (last_put (eqb (number_of c.answer) 0 ⇒ c ∷ cs ∣ cs) i) (get_or s.picture i 0)
  unfolding last_put ◌⇒◌∣◌
  pixel_one i true e =
      let p : get_or t.picture i 0 ≡ or_first (put c i) (get_or s.picture i 0) =
      ap (λ (x : List ℕ). get_or x i 0) k.left ∙ put_by c (eqb-true _ 0 e) i _ refl ∙ ap (λ (x : List ℕ). or_first (put c i) (get_or x i 0)) k.lent in
      rw e (ap (or_first (last_put cs i)) p ∙ or-first (last_put cs i) (put c i) (get_or s.picture i 0))
  pixel_one i false e = rw e (ap (λ (x : List ℕ). or_first (last_put cs i) (get_or x i 0)) (frame_refused k (eqb-false _ 0 e)))

  long_one : (b : Bool) → eqb (number_of c.answer) 0 ≡ b → length t.picture ≡ length s.picture
  long_one true e = ap length k.left ∙ shown_length _ _ _ _ _ _ _ _ _ _ _ _ _ _ c.promise (eqb-true _ 0 e) ∙ ap length k.lent
  long_one false e = ap length (frame_refused k (eqb-false _ 0 e))

pub pixel : (s t : State) (cs : List Call) → Day s cs t → (i : ℕ) → get_or t.picture i 0 ≡ or_first (last_put (accepted cs) i) (get_or s.picture i 0)
unfolding accepted last_put or_first
pixel s t [] no_call i = refl
pixel s t (header c ∷ cs) (call k d) i = pixel _ t cs d i ∙ ap (λ (x : List ℕ). or_first (last_put (accepted cs) i) (get_or x i 0)) k.picture_kept
pixel s t (frame c ∷ cs) (call k d) i = pixel _ t cs d i ∙ pixel_one s _ c (accepted cs) k i _ refl

pub long : (s t : State) (cs : List Call) → Day s cs t → length t.picture ≡ length s.picture
long s t [] no_call = refl
long s t (header c ∷ cs) (call k d) = long _ t cs d ∙ ap length k.picture_kept
long s t (frame c ∷ cs) (call k d) = long _ t cs d ∙ long_one s _ c (accepted cs) k _ refl
