-- What the glass shows after a frame call, said of the promise alone (no code in it): document 01, "A refused header or frame changes
-- neither record nor picture", "A picture word is changed exactly if ..", "words past width x height are never changed", "A done frame
-- reports numTiles, a refused one 0"; and that one answer alone meets the promise.
-- (01 is this project's scope document, 02 its change requests, 001 is MS-RDPRFX: README, "What 01 is".)
use Rattle.std.specs.Prelude.{ℕ, ◌+◌, ◌*◌, ◌≤◌, ◌<◌, ◌≡◌, Bool, true, false, ℤ, eqb, Result}
use Rattle.std.proofs.Math.Path.{refl, sym, ap}
use Rattle.std.proofs.Common.{◌∙◌, eqb-true, eq-eqb, ne_eqb, arith}
use mathlib.Core.List.{List}
use Rattle.std.proofs.Math.ListN.{length, get_or}
use Rattle.whole.specs.Row.{◌⇒◌∣◌}
use Rattle.whole.specs.laws.Row.{passes, fails, both}
use Rattle.frame_layout.specs.Reader.{frame_tiles, set_place, tile_count, rect_count, set_at, frame_fault}
use Rattle.frame_blocks.specs.Blocks.{rects_of}
use Rattle.frame_blocks.specs.Judged.{judged}
use Rattle.frame_draw.specs.Draw.{in_region}
use Rattle.frame_draw.specs.Shown.{last_tile, word_in}
use Rattle.frame_draw.specs.laws.Shown.{tiles_pixel, tiles_past, tiles_length}
use Rattle.frame_draw.specs.Show.{tile_word}
use Rattle.wire.specs.Refusal.{number_of, count_of}
use Rattle.wire.specs.laws.Refusal.{number_back}
use Rattle.wire.specs.declared.Refusal.{Refusal}
use Rattle.std.proofs.lemmas.Bool.{eqb-false}
use Rattle.session.specs.declared.Session.{Session}
use Rattle.frame.specs.Frame.{early, framed, frame_number, frame_picture, frame_reading, FrameRead}
use Rattle.frame.specs.laws.Among.{number_few}
use Rattle.frame.specs.laws.Frame.{CallGood, call_good}

-- ---- the answer by its number

by_number : (n : ℕ) (m : List ℕ) → n ≤ 13 → (b : Bool) → eqb n 0 ≡ b → number_of (frame_reading n m) ≡ n
unfolding frame_reading ◌⇒◌∣◌
by_number n m few true e = rw e (sym (eqb-true n 0 e))
by_number n m few false e = let z = eqb-false n 0 e in rw e (number_back n (omega (arith, z)) few)

tiles_done : (n : ℕ) (m : List ℕ) → n ≡ 0 → count_of (frame_reading n m) ≡ tile_count m (set_place m)
unfolding frame_reading ◌⇒◌∣◌
tiles_done n m e = rw (eq-eqb n 0 e)

tiles_none : (n : ℕ) (m : List ℕ) → (n ≡ 0 → ⊥) → count_of (frame_reading n m) ≡ 0
unfolding frame_reading ◌⇒◌∣◌
tiles_none n m h = rw (ne_eqb n 0 h)

module _ (word : ℕ) (s : Session) (m pic : List ℕ) (y cb cr tmp : List ℤ) (pic' : List ℕ) (y' cb' cr' tmp' : List ℤ) (r : Result ℕ Refusal)
    (done : FrameRead word s m pic y cb cr tmp pic' y' cb' cr' tmp' r) where
  number : ℕ
  number = frame_number (early word s pic y cb cr tmp) s m

  -- the number is that of 12, then 2, then the message's first fault
  pub number_is : number_of r ≡ frame_number (early word s pic y cb cr tmp) s m
  unfolding number
  number_is = ap number_of done.answer ∙ by_number number m (number_few word s (length pic) (length y) (length cb) (length cr) (length tmp) m) _ refl

  -- a refused frame changes no word of the picture and reports no tile
  pub refused : (number_of r ≡ 0 → ⊥) → (pic' ≡ pic) × (count_of r ≡ 0)
  unfolding number frame_picture
  refused h =
      let l : number ≡ 0 → ⊥ = λ x. h (number_is ∙ x) in
      (done.picture ∙ sym (fails _ _ _ _ (ne_eqb number 0 l) refl), ap count_of done.answer ∙ tiles_none number m l)

  -- what holds where the answer is 0
  pub record Accepted : Type 0 where
    pub call : CallGood word s (length pic) y cb cr tmp
    pub message : 0 ≡ frame_fault judged s.width s.height s.mode m
    pub drawn : pic' ≡ framed s.glass s.mode s.width s.height m pic
    pub counted : count_of r ≡ tile_count m (set_place m)

  pub accepted : number_of r ≡ 0 → Accepted
  unfolding number frame_picture frame_number
  accepted k =
      let n : number ≡ 0 = sym number_is ∙ k in
      let a = both (early word s pic y cb cr tmp) (frame_fault judged s.width s.height s.mode m) (sym n) in
      record {
        call = call_good word s (length pic) y cb cr tmp a.0;
        message = a.1;
        drawn = done.picture ∙ sym (passes _ _ _ _ (eq-eqb number 0 n) refl);
        counted = ap count_of done.answer ∙ tiles_done number m n;
      }

  -- every word of the channel after a done frame
  pub shown_pixel :
      number_of r ≡ 0 → (px py : ℕ) → px < s.width → py < s.height →
      get_or pic' (py * s.width + px) 0
      ≡ (in_region (rects_of m 14) (rect_count m 14) px py
      ⇒ word_in (tile_word s.glass s.mode (set_at m (set_place m))) px py (last_tile (frame_tiles m) px py) (get_or pic (py * s.width + px) 0)
      ∣ get_or pic (py * s.width + px) 0)
  unfolding framed
  shown_pixel k px py in-w in_h =
      let a = accepted k in
      ap (λ (p : List ℕ). get_or p (py * s.width + px) 0) a.drawn
      ∙ tiles_pixel (rects_of m 14) (rect_count m 14) (tile_word s.glass s.mode (set_at m (set_place m))) s.width s.height (frame_tiles m) pic px py
      in-w in_h a.call.room

  -- every word past it
  pub shown_past : number_of r ≡ 0 → (i : ℕ) → s.height * s.width ≤ i → get_or pic' i 0 ≡ get_or pic i 0
  unfolding framed
  shown_past k i l =
      ap (λ (p : List ℕ). get_or p i 0) (accepted k).drawn
      ∙ tiles_past (rects_of m 14) (rect_count m 14) (tile_word s.glass s.mode (set_at m (set_place m))) s.width s.height (frame_tiles m) pic i l

  pub shown_length : number_of r ≡ 0 → length pic' ≡ length pic
  unfolding framed
  shown_length k =
      ap length (accepted k).drawn
      ∙ tiles_length (rects_of m 14) (rect_count m 14) (tile_word s.glass s.mode (set_at m (set_place m))) s.width s.height (frame_tiles m) pic

-- one answer and one content of the lent memory
pub record SameFrame (pic pic' : List ℕ) (y cb cr tmp y' cb' cr' tmp' : List ℤ) (a b : Result ℕ Refusal) : Type 0 where
  pub answer : a ≡ b
  pub picture : pic ≡ pic'
  pub y_list : y ≡ y'
  pub cb_list : cb ≡ cb'
  pub cr_list : cr ≡ cr'
  pub tmp_list : tmp ≡ tmp'

pub one_frame :
    (word : ℕ) (s : Session) (m pic : List ℕ) (y cb cr tmp : List ℤ) (p₁ : List ℕ) (y₁ b₁ r₁ t₁ : List ℤ) (a₁ : Result ℕ Refusal)
    (p₂ : List ℕ) (y₂ b₂ r₂ t₂ : List ℤ) (a₂ : Result ℕ Refusal) →
    FrameRead word s m pic y cb cr tmp p₁ y₁ b₁ r₁ t₁ a₁ → FrameRead word s m pic y cb cr tmp p₂ y₂ b₂ r₂ t₂ a₂ → SameFrame p₁ p₂ y₁ b₁ r₁ t₁ y₂ b₂ r₂ t₂ a₁ a₂
one_frame word s m pic y cb cr tmp p₁ y₁ b₁ r₁ t₁ a₁ p₂ y₂ b₂ r₂ t₂ a₂ d e =
    record {
      answer = d.answer ∙ sym e.answer;
      picture = d.picture ∙ sym e.picture;
      y_list = d.y_list ∙ sym e.y_list;
      cb_list = d.cb_list ∙ sym e.cb_list;
      cr_list = d.cr_list ∙ sym e.cr_list;
      tmp_list = d.tmp_list ∙ sym e.tmp_list;
    }
